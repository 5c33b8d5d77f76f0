use Rattle.derive_sources.proofs.Numbering.{numbered}
use Rattle.derive_sources.proofs.laws.numbers_law.Goals as goal

pub returns : goal.returns
returns c = numbered
