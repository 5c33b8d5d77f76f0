-- The names that are left lead from here where all lead.
use Rattle.std.proofs.Common.{◌≡◌, ◌<◌, drop, length}
use Rattle.derive_sources.specs.Numbers.{path_at}
use Rattle.derived_rows.specs.Sources.{followed}
use Rattle.derive_sources.proofs.source.followed.Given as goal

abbrev pub invariant-loop-name : goal.invariant-loop-name
invariant-loop-name g l = record {
  inside : l.at < length l.entries;
  leads : followed g.all (drop l.name-index l.names) (path_at g.all l.at) ≡ followed g.all l.names (path_at g.all l.from);
}
