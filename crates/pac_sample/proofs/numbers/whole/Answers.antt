use Rattle.svd_values.specs.Given.{number_given}
use Rattle.svd_values.proofs.Givens.{number_given-exactly}
use Rattle.pac_sample.proofs.Readings.{same_by}
use Rattle.pac_sample.proofs.numbers.whole.Goals as goal

pub returns : goal.returns
returns c = same_by c.number.result (number_given c.args.text.now) _ c.number.ensures (number_given-exactly c.args.text.now)
