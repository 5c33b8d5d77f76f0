use Rattle.std.proofs.Common.{◌≡◌, take}
use Rattle.register_form.specs.Forms.{values_among}
use Rattle.register_form.proofs.form.values.Given as goal

abbrev pub invariant-loop-field : goal.invariant-loop-field
invariant-loop-field l = l.made ≡ values_among (take l.field-index l.fields)
