use Rattle.frag_emit.proofs.Standing.{form_stands}
use Rattle.frag_emit.proofs.laws.headline_law.Goals as goal

pub returns : goal.returns
returns c = form_stands
