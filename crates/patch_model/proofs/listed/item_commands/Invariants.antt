-- The commands, and those of the items that are left, are all; what is left meets its demands.
use Rattle.std.proofs.Common.{◌≡◌, ◌++◌, map}
use Rattle.patch_model.specs.Acts.{order_of}
use Rattle.patch_form.specs.Unmet.{AllMet}
use Rattle.patch_model.specs.Held.{item_demands}
use Rattle.patch_model.specs.Orders.{item_orders, text_deed}
use Rattle.patch_form.proofs.FromPlace.{items_from}
use Rattle.patch_model.proofs.listed.item_commands.Given as goal

abbrev pub invariant-loop-item : goal.invariant-loop-item
invariant-loop-item l = record {
  orders : map order_of l.made ++ items_from (item_orders (text_deed l.word) l.parents) l.items l.item-index ≡ map order_of l.fn.made ++ items_from (item_orders (text_deed l.word) l.parents) l.items 0;
  met : AllMet (items_from (item_demands l.word) l.items l.item-index);
}
