use Rattle.pac_fault.specs.FaultTexts.{words_text}
use Rattle.pac_fault.proofs.fault_text.push_words.Goals as goal

pub returns-in-NoBus : goal.returns-in-NoBus
unfolding words_text
returns-in-NoBus c = rw (c.in-NoBus.is, ← c.kind_text.ensures) c.push_pair.ensures
