use Rattle.std.proofs.Common.{◌≡◌, take}
use Rattle.register_form.specs.Forms.{markers_of}
use Rattle.register_form.proofs.form.markers.Given as goal

abbrev pub invariant-loop-field : goal.invariant-loop-field
invariant-loop-field l = l.made ≡ markers_of (take l.field-index l.fields)
