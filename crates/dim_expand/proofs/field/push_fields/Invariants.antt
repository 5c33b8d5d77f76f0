-- The groups before this place stand behind those that stood there.
use Rattle.std.proofs.Common.{map}
use Rattle.dim_expand.specs.Tallies.{Pushes}
use Rattle.dim_expand.specs.Walks.{capped, groups_at}
use Rattle.dim_expand.proofs.Groups.{groups_up_to}
use Rattle.svd_model.specs.Trees.{field_under}
use Rattle.dim_expand.proofs.field.push_fields.Given as goal

abbrev pub invariant-loop-place : goal.invariant-loop-place
invariant-loop-place l =
    Pushes l.initial.tally.counts.entries (map field_under l.initial.made.entries) (groups_at capped (field_under (l.key, l.element)) (groups_up_to l.count l.place)) l.tally.counts.entries (map field_under l.made.entries)
