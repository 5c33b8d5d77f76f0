use Rattle.std.proofs.Common.{◌≡◌, ◌++◌, map, flat_map}
use Rattle.svd_keys.proofs.Loops.{left}
use Rattle.svd_text.specs.Views.{element_of}
use Rattle.svd_model.specs.Steps.{same_key}
use Rattle.svd_model.specs.Trees.{item_under}
use Rattle.svd_rows.specs.Elements.{IsDistinct}
use Rattle.svd_rows.specs.Forest.{siblings}
use Rattle.svd_reader.specs.Walk.{child_of}
use Rattle.svd_reader.proofs.register.+children.Given as goal

abbrev pub invariant-children-loop-element : goal.invariant-children-loop-element
invariant-children-loop-element l =
    IsDistinct same_key (siblings (flat_map child_of (map element_of l.elements)))
    → map item_under l.made.items ++ flat_map child_of (left l.elements l.element-index) ≡ flat_map child_of (map element_of l.elements)
