-- The first among those that are left is the first of all.
use Rattle.std.proofs.Common.{◌≡◌, drop}
use Rattle.std.specs.List.{find}
use Rattle.derive_sources.specs.Missing.{is_missing}
use Rattle.svd_model.specs.Stating.{paths_of}
use Rattle.derive_sources.proofs.finding.first_missing.Given as goal

abbrev pub ghost-is_missing : goal.ghost-is_missing
ghost-is_missing g a = g.all

abbrev pub invariant-loop-number : goal.invariant-loop-number
invariant-loop-number g l = find (is_missing g.all) (drop l.number (paths_of g.all)) ≡ find (is_missing g.all) (paths_of g.all)
