use Rattle.pac_cli.proofs.Samples.{counted}
use Rattle.pac_cli.proofs.numbers.numbers_of.Goals as goal

pub returns-clause-count : goal.returns-clause-count
returns-clause-count c = counted _ _ c.number_and_count.result c.number_and_count.ensures.exactly
