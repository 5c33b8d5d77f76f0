-- The groups before this place stand behind those that stood there.
use Rattle.std.proofs.Common.{map}
use Rattle.dim_expand.specs.Narrow.{IsNarrowForest}
use Rattle.dim_expand.specs.Tallies.{Pushes}
use Rattle.dim_expand.specs.Walks.{capped, groups_at}
use Rattle.dim_expand.proofs.Groups.{groups_up_to}
use Rattle.svd_model.specs.Trees.{peripheral_tree, peripheral_under}
use Rattle.dim_expand.proofs.peripheral.push_peripherals.Given as goal

abbrev pub invariant-loop-place : goal.invariant-loop-place
invariant-loop-place l =
    IsNarrowForest (peripheral_tree l.element).below → Pushes l.initial.tally.counts.entries (map peripheral_under l.initial.made.entries) (groups_at capped (peripheral_under (l.key, l.element)) (groups_up_to l.count l.place)) l.tally.counts.entries (map peripheral_under l.made.entries)
