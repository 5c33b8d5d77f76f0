use Rattle.pac_fault.specs.FaultTexts.{text_of}
use Rattle.pac_fault.proofs.fault_text.push_text.Goals as goal

pub returns-in-Read : goal.returns-in-Read
unfolding text_of
returns-in-Read c = rw (c.in-Read.is, ← c.as_str.ensures, ← c.as_bytes.ensures.value) c.push_pair.ensures
