-- What the laws of this crate say, each as one statement.
use Rattle.std.specs.Prelude.{◌≡◌, List}
use Rattle.frag_tree.specs.Trees.{CrateTree}
use Rattle.svd_model.specs.declared.device.Device.{Device}
use Rattle.svd_model.specs.Keys.{Key}
use Rattle.svd_model.specs.Steps.{Step}
use Rattle.svd_model.specs.Trees.{device_rows, device_tree}
use Rattle.svd_rows.specs.Rows.{Row}
use Rattle.crate_form.specs.Crates.{crate_of, emitted}
use Rattle.crate_form.specs.Forms.{HasForm}

-- The emitted crate has the form that the rows ask for, and no other crate has it.
abbrev pub EmittedHasForm : Type 0
EmittedHasForm = (all : List (Row Step Key)) → HasForm all (emitted all)

abbrev pub OneHasForm : Type 0
OneHasForm = (all : List (Row Step Key)) (krate : CrateTree) → HasForm all krate → krate ≡ emitted all

-- The crate of a device's rows is that of its tree.
abbrev pub EmittedByTree : Type 0
EmittedByTree = (device : Device) → emitted (device_rows device) ≡ crate_of device.props (device_tree device).below
