use Rattle.frag_tree.proofs.register_text.WriterOneLine.push_onto.Goals as goal

pub returns-in-Field : goal.returns-in-Field
returns-in-Field c = rw (c.in-Field.is, ← c.is_indexed-in-Field.ensures, ← c.receiver_mut-in-Field.ensures) c.push_around-in-Field.ensures
