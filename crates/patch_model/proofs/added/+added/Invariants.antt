-- What is made, and what is left, are all; what is left meets its demands.
use Rattle.std.proofs.Common.{◌≡◌, ◌+◌}
use Rattle.yaml_block.specs.Nodes.{node_tree}
use Rattle.patch_model.specs.Acts.{additions_under}
use Rattle.patch_form.specs.Unmet.{AllMet}
use Rattle.patch_form.specs.Demands.{addition_demands, each_key}
use Rattle.patch_model.specs.Orders.{added_at, added_in}
use Rattle.patch_model.proofs.Adding.{joined}
use Rattle.patch_form.proofs.FromPlace.{from}
use Rattle.patch_model.proofs.Weighing.{weight, weights_under}
use Rattle.patch_model.proofs.added.+added.Given as goal

abbrev pub invariant-added_at-loop-entry : goal.invariant-added_at-loop-entry
invariant-added_at-loop-entry l = record {
  left : from (added_at l.key) l.entries l.entry-index ≡ from (added_at l.key) l.entries 0;
  met : AllMet (from each_key l.entries l.entry-index);
}

abbrev pub invariant-added_in-loop-entry : goal.invariant-added_in-loop-entry
invariant-added_in-loop-entry l = record {
  made : joined (additions_under l.made) (from added_in l.entries l.entry-index) ≡ from added_in l.entries 0;
  met : AllMet (from addition_demands l.entries l.entry-index);
}

abbrev pub decreases-added_one : goal.decreases-added_one
decreases-added_one l = weight (node_tree l.node.now) + 1

abbrev pub decreases-added_under : goal.decreases-added_under
decreases-added_under l = weight (node_tree l.node.now)

abbrev pub decreases-added_at : goal.decreases-added_at
decreases-added_at l = weights_under l.entries.now

abbrev pub decreases-added_below : goal.decreases-added_below
decreases-added_below l = weight (node_tree l.node.now)

abbrev pub decreases-added_in : goal.decreases-added_in
decreases-added_in l = weights_under l.entries.now
