-- The sources of the elements so far.
use Rattle.std.proofs.Common.{◌≡◌, map, take, option_map}
use Rattle.derive_sources.specs.Numbers.{path_at}
use Rattle.derived_rows.specs.Sources.{source_of}
use Rattle.svd_model.specs.Stating.{paths_of}
use Rattle.derive_sources.proofs.finding.source_list.Given as goal

abbrev pub ghost-source_of : goal.ghost-source_of
ghost-source_of g a = g.all

abbrev pub invariant-loop-number : goal.invariant-loop-number
invariant-loop-number g l = map (option_map (path_at g.all)) l.found.items ≡ map (source_of g.all) (take l.number (paths_of g.all))
