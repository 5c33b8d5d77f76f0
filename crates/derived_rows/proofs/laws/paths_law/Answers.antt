use Rattle.derived_rows.proofs.Kept.{paths_are_kept}
use Rattle.derived_rows.proofs.laws.paths_law.Goals as goal

pub returns : goal.returns
returns c = paths_are_kept
