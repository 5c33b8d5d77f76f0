-- The first that the member meets among those that are left is the first of all.
use Rattle.std.proofs.Common.{◌≡◌, drop}
use Rattle.overlap_sweep.specs.Fields.{field_meets}
use Rattle.overlap_sweep.specs.Search.{first_against}
use Rattle.overlap_sweep.proofs.field.met.Given as goal

abbrev pub invariant-loop-first : goal.invariant-loop-first
invariant-loop-first l = first_against field_meets l.spot l.kept ≡ first_against field_meets l.spot (drop l.first-index l.kept)
