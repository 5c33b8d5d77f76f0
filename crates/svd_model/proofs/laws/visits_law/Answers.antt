use Rattle.svd_model.proofs.Walking.{walk-rows}
use Rattle.svd_model.proofs.laws.visits_law.Goals as goal

pub returns : goal.returns
returns c = walk-rows
