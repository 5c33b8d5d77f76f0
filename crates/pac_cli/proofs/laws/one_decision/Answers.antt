use Rattle.svd_reader.proofs.OneDescription.{one_description_lem}
use Rattle.pac_cli.proofs.OneAnswer.{one_decision_lem}
use Rattle.pac_cli.proofs.laws.one_decision.Goals as goal

pub returns : goal.returns
returns c = one_decision_lem one_description_lem
