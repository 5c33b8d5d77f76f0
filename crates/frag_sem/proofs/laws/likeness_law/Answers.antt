use Rattle.frag_sem.proofs.KeptWords.{text_keeps_words}
use Rattle.frag_sem.proofs.Likeness.{alike_mean, alike_preset}
use Rattle.frag_sem.proofs.laws.likeness_law.Goals as goal

pub returns-clause-meaning : goal.returns-clause-meaning
returns-clause-meaning c = alike_mean

pub returns-clause-presets : goal.returns-clause-presets
returns-clause-presets c = alike_preset

pub returns-clause-words : goal.returns-clause-words
returns-clause-words c = text_keeps_words
