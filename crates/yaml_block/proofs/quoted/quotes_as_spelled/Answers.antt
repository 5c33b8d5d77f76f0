use Rattle.yaml_block.proofs.Quoting.{quoted_takes, quoted_again}
use Rattle.yaml_block.proofs.quoted.quotes_as_spelled.Goals as goal

pub returns : goal.returns
returns c quote bytes text rest = (quoted_takes quote text bytes rest, quoted_again quote text bytes rest)
