use Rattle.std.proofs.Common.{◌≡◌, take}
use Rattle.register_form.specs.Forms.{readers_among}
use Rattle.register_form.proofs.form.readers.Given as goal

abbrev pub invariant-loop-field : goal.invariant-loop-field
invariant-loop-field l = l.made ≡ readers_among (take l.field-index l.fields)
