use Rattle.pac_words.proofs.Faultless.{faultless, only_faultless}
use Rattle.pac_words.proofs.laws.asks_without_fault.Goals as goal

pub returns : goal.returns
returns c = (only_faultless c.args._words.now, λ given. faultless c.args._words.now given.0 given.1)
