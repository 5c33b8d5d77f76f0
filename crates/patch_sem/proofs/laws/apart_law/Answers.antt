use Rattle.patch_sem.proofs.Commuting.{apart-commute}
use Rattle.patch_sem.proofs.laws.apart_law.Goals as goal

pub returns : goal.returns
returns c = apart-commute
