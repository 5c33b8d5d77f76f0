use Rattle.frag_words.proofs.Readings.{one_tree, pair_exact}
use Rattle.frag_words.proofs.laws.readings_law.Goals as goal

pub returns-clause-one : goal.returns-clause-one
returns-clause-one g c reading exact = one_tree reading exact

pub returns-clause-pair : goal.returns-clause-pair
returns-clause-pair g c first second exact_first exact_second = pair_exact first second exact_first exact_second
