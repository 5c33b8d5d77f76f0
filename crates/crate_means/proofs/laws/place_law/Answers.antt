use Rattle.crate_means.proofs.Places.{places_are_alike}
use Rattle.crate_means.proofs.laws.place_law.Goals as goal

pub returns : goal.returns
returns c = places_are_alike
