use Rattle.std.proofs.Common.{◌≡◌, ◌++◌, map, flat_map}
use Rattle.svd_keys.proofs.Loops.{left}
use Rattle.svd_text.specs.Views.{element_of}
use Rattle.svd_model.specs.Steps.{same_key}
use Rattle.svd_model.specs.Trees.{peripheral_under}
use Rattle.svd_rows.specs.Elements.{IsDistinct}
use Rattle.svd_rows.specs.Forest.{siblings}
use Rattle.svd_reader.specs.DescribedTree.{peripheral_at}
use Rattle.svd_reader.proofs.peripheral.peripherals.Given as goal

abbrev pub invariant-loop-element : goal.invariant-loop-element
invariant-loop-element l =
    IsDistinct same_key (siblings (flat_map peripheral_at (map element_of l.elements)))
    → map peripheral_under l.made.entries ++ flat_map peripheral_at (left l.elements l.element-index) ≡ flat_map peripheral_at (map element_of l.elements)
