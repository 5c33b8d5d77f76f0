-- What is reached from the elements that are left is what is reached from all.
use Rattle.std.proofs.Common.{◌≡◌, map, length}
use Rattle.derive_sources.specs.Entries.{kind_of}
use Rattle.derive_sources.specs.Numbers.{path_at}
use Rattle.derive_sources.proofs.Seats.{around, IsInside, depth}
use Rattle.derived_rows.specs.Sources.{ancestors, reached}
use Rattle.svd_model.specs.Properties.{nearest}
use Rattle.derive_sources.proofs.source.nearest.Given as goal

abbrev pub invariant-loop-round : goal.invariant-loop-round
invariant-loop-round g l = record {
  inside : IsInside (length l.entries) l.round;
  leads : nearest (map (reached g.all (kind_of l.kind) l.names) (around g.all l.round)) ≡ nearest (map (reached g.all (kind_of l.kind) l.names) (ancestors (path_at g.all l.number)));
}

abbrev pub decreases-loop-round : goal.decreases-loop-round
decreases-loop-round g l = depth l.round

abbrev pub ghost-reached : goal.ghost-reached
ghost-reached g a = g.all
