use Rattle.derived_rows.proofs.Levels.{levels_are_enough}
use Rattle.derived_rows.proofs.laws.levels_law.Goals as goal

pub returns : goal.returns
returns c = levels_are_enough
