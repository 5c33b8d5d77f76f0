-- The commands, and those of the opened patterns that are left, are all; what is left meets its demands.
use Rattle.std.proofs.Common.{◌≡◌, ◌+◌, ◌++◌, map}
use Rattle.yaml_block.specs.Nodes.{node_tree}
use Rattle.patch_model.specs.Acts.{order_of}
use Rattle.patch_form.specs.Unmet.{AllMet}
use Rattle.patch_form.specs.Mappings.{mapping_demands}
use Rattle.patch_model.specs.Orders.{mapping_orders, opened_orders}
use Rattle.patch_form.proofs.FromPlace.{from}
use Rattle.patch_model.proofs.Weighing.{weight, weights_under}
use Rattle.patch_model.proofs.opened.+opened.Given as goal

abbrev pub decreases-mapping_commands : goal.decreases-mapping_commands
decreases-mapping_commands l = weights_under l.entries.now

abbrev pub decreases-opened_at : goal.decreases-opened_at
decreases-opened_at l = weight (node_tree l.node.now) + 1

abbrev pub decreases-commands_below : goal.decreases-commands_below
decreases-commands_below l = weight (node_tree l.node.now)

abbrev pub invariant-mapping_commands-loop-entry : goal.invariant-mapping_commands-loop-entry
invariant-mapping_commands-loop-entry l = record {
  orders : map order_of l.made ++ from (opened_orders l.parents) l.entries l.entry-index ≡ map order_of l.fn.made ++ from (mapping_orders l.device l.parents) l.entries 0;
  met : AllMet (from (mapping_demands l.device) l.entries l.entry-index);
}
