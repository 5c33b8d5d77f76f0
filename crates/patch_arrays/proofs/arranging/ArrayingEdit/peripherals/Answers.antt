-- The peripherals as the children of the device.
use Rattle.std.proofs.Common.{map}
use Rattle.patch_arrays.proofs.Edits.{edited-in}
use Rattle.patch_arrays.specs.Arranging.{arrayed_below}
use Rattle.svd_model.specs.Trees.{peripheral_under}
use Rattle.patch_arrays.proofs.arranging.ArrayingEdit.peripherals.Goals as goal

pub returns-clause-edited : goal.returns-clause-edited
unfolding arrayed_below
returns-clause-edited c =
    edited-in c.args.self.now.line c.args.self.now.pattern.now c.args.self.now.name.now (map peripheral_under c.args.peripherals.now.entries) (map peripheral_under c.arrange_map.new.entries.entries) c.arrange_map.result c.arrange_map.ensures.edited
