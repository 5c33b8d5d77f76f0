use Rattle.frag_tree.proofs.values_text.push_opening.Goals as goal

pub returns-in-BitReading : goal.returns-in-BitReading
returns-in-BitReading c = rw c.in-BitReading.is c.push_line.ensures

pub returns-in-BitWriting : goal.returns-in-BitWriting
returns-in-BitWriting c = rw c.in-BitWriting.is c.push_line-in-BitWriting.ensures

pub returns-in-FieldWriting : goal.returns-in-FieldWriting
returns-in-FieldWriting c = rw c.in-FieldWriting.is c.push_line-in-FieldWriting.ensures
