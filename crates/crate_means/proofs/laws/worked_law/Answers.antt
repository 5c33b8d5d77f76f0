use Rattle.crate_means.proofs.Worked.{worked_stands}
use Rattle.crate_means.proofs.laws.worked_law.Goals as goal

pub returns : goal.returns
returns c = worked_stands
