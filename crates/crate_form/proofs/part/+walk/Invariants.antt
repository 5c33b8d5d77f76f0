-- The children and modules that are made, and those of the elements that are left, are those of all; and the modules are valid.
use Rattle.std.proofs.Common.{◌≡◌, ◌++◌, true, map, drop}
use Rattle.std.specs.List.{list_all}
use Rattle.svd_model.specs.Trees.{item_under}
use Rattle.svd_rows.specs.Forest.{siblings}
use Rattle.crate_form.specs.Children.{children_of}
use Rattle.crate_form.specs.Modules.{modules_of}
use Rattle.crate_form.specs.Parts.{units_of, valid_unit}
use Rattle.crate_form.proofs.Units.{joined}
use Rattle.crate_form.proofs.part.+walk.Given as goal

abbrev pub invariant-parts_of-loop-item : goal.invariant-parts_of-loop-item
invariant-parts_of-loop-item l = record {
  children : l.children ++ children_of l.outer (siblings (map item_under (drop l.item-index l.items))) ≡ children_of l.outer (siblings (map item_under l.items));
  units : joined (units_of l.units.items) (modules_of l.outer (siblings (map item_under (drop l.item-index l.items)))) ≡ modules_of l.outer (siblings (map item_under l.items));
  valid : list_all valid_unit (units_of l.units.items) ≡ true;
}
