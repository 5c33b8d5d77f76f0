use Rattle.derived_graph.proofs.Derived.{graph_is_derived}
use Rattle.derived_graph.proofs.laws.derived_law.Goals as goal

pub returns : goal.returns
returns c = graph_is_derived
