use Rattle.std.proofs.Common.{◌≡◌, take}
use Rattle.register_form.specs.Forms.{writers_among}
use Rattle.register_form.proofs.form.writers.Given as goal

abbrev pub invariant-loop-field : goal.invariant-loop-field
invariant-loop-field l = l.made ≡ writers_among (take l.field-index l.fields)
