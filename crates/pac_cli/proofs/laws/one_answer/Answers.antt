use Rattle.svd_reader.proofs.OneDescription.{one_description_lem}
use Rattle.pac_cli.proofs.OneAnswer.{one_answer_lem}
use Rattle.pac_cli.proofs.laws.one_answer.Goals as goal

pub returns : goal.returns
returns c = one_answer_lem one_description_lem
