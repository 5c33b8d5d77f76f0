use Rattle.checked_tree.proofs.Trees.{checked_trees}
use Rattle.checked_tree.proofs.laws.checked_law.Goals as goal

pub returns : goal.returns
returns c = checked_trees
