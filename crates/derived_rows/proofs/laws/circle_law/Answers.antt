use Rattle.derived_rows.proofs.Circles.{circles_derive}
use Rattle.derived_rows.proofs.laws.circle_law.Goals as goal

pub returns : goal.returns
returns c = circles_derive
