use Rattle.pac_fault.proofs.fragment_text.push_on_line.Goals as goal

pub returns : goal.returns
returns c = rw (← c.from.ensures) c.push_numbered.ensures
