use Rattle.frag_tree.proofs.register_text.ReaderOneLine.push_onto.Goals as goal

pub returns-in-Bit : goal.returns-in-Bit
returns-in-Bit c = rw (c.in-Bit.is, ← c.is_indexed.ensures, ← c.receiver.ensures) c.push_around.ensures

pub returns-in-Field : goal.returns-in-Field
returns-in-Field c = rw (c.in-Field.is, ← c.is_indexed-in-Field.ensures, ← c.receiver-in-Field.ensures) c.push_around-in-Field.ensures
