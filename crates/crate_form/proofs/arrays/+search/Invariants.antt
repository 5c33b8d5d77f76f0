-- The elements that are left decide.
use Rattle.std.proofs.Common.{◌≡◌, map, drop}
use Rattle.svd_model.specs.declared.props.Props.{Props}
use Rattle.svd_model.specs.Trees.{item_under}
use Rattle.svd_rows.specs.Forest.{siblings}
use Rattle.crate_form.specs.Crates.{takes_indexes}
use Rattle.crate_form.specs.Elements.{AllStand}
use Rattle.crate_form.proofs.arrays.+search.Given as goal

abbrev pub invariant-any_has_arrays-loop-item : goal.invariant-any_has_arrays-loop-item
invariant-any_has_arrays-loop-item l = (outer : Props) → AllStand outer l.items → takes_indexes outer (siblings (map item_under (drop l.item-index l.items))) ≡ takes_indexes outer (siblings (map item_under l.items))
