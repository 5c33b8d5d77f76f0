use Rattle.frag_tree.proofs.Parts.{parts-joined}
use Rattle.frag_tree.proofs.laws.parts_law.Goals as goal

pub returns : goal.returns
returns c krate = parts-joined krate
