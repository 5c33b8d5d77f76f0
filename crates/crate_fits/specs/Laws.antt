-- What the laws of this crate say, each as one statement.
use Rattle.checked_tree.specs.Devices.{AreChecked}
use Rattle.crate_form.specs.Crates.{crate_of, emitted}
use Rattle.frag_sem.specs.CrateTyping.{CrateFits}
use Rattle.svd_model.specs.declared.device.Device.{Device}
use Rattle.svd_model.specs.declared.props.Props.{Props}
use Rattle.svd_model.specs.Facts.{IsChecked}
use Rattle.svd_model.specs.Keys.{Key}
use Rattle.svd_model.specs.Steps.{Step}
use Rattle.svd_model.specs.Trees.{device_rows}
use Rattle.svd_rows.specs.Forest.{Forest}

-- The crate of peripherals fits where checking says so of them.
abbrev pub CratesFit : Type 0
CratesFit = (outer : Props) (peripherals : Forest Step Key) → AreChecked outer peripherals → CrateFits (crate_of outer peripherals)

-- So the crate that is emitted for a checked description fits.
abbrev pub CheckedCratesFit : Type 0
CheckedCratesFit = (device : Device) → IsChecked device → CrateFits (emitted (device_rows device))
