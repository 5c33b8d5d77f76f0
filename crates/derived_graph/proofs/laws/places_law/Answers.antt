use Rattle.derived_graph.proofs.Taking.{takes_by_places}
use Rattle.derived_graph.proofs.laws.places_law.Goals as goal

pub returns : goal.returns
returns c = takes_by_places
