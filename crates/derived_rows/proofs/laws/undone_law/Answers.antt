use Rattle.derived_rows.proofs.Undone.{nothing_derives}
use Rattle.derived_rows.proofs.laws.undone_law.Goals as goal

pub returns : goal.returns
returns c = nothing_derives
