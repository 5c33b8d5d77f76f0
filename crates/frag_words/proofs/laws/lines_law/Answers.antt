use Rattle.frag_words.proofs.Joints.{words_of_lines}
use Rattle.frag_words.proofs.laws.lines_law.Goals as goal

pub returns : goal.returns
returns c lines fine = words_of_lines lines fine
