-- What the law of this crate says.
use Rattle.crate_form.specs.Forms.{HasForm}
use Rattle.frag_emit.specs.Standing.{StandsFor}
use Rattle.frag_tree.specs.Trees.{CrateTree}
use Rattle.svd_model.specs.declared.device.Device.{Device}
use Rattle.svd_model.specs.Facts.{IsChecked}
use Rattle.svd_model.specs.Trees.{device_rows}

-- A crate of the form that the rows of a checked description ask for stands for them.
abbrev pub FormStands : Type 0
FormStands = (device : Device) → IsChecked device → (krate : CrateTree) → HasForm (device_rows device) krate → StandsFor (device_rows device) krate
