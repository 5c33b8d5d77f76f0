-- What the law of this crate says.
use Rattle.checked_tree.specs.Devices.{AreChecked}
use Rattle.svd_model.specs.declared.device.Device.{Device}
use Rattle.svd_model.specs.Facts.{IsChecked}
use Rattle.svd_model.specs.Trees.{device_tree}

-- Checking says so of the tree of a description in which it finds no fault.
abbrev pub CheckedTrees : Type 0
CheckedTrees = (device : Device) → IsChecked device → AreChecked device.props (device_tree device).below
