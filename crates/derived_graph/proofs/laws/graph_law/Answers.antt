use Rattle.derived_graph.proofs.Unfolding.{graph_unfolds}
use Rattle.derived_graph.proofs.laws.graph_law.Goals as goal

pub returns : goal.returns
returns c = graph_unfolds
