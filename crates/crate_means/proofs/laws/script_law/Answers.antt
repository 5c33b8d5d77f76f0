use Rattle.crate_means.proofs.Places.{same_meaning, same_presets}
use Rattle.crate_means.proofs.laws.script_law.Goals as goal

pub returns-clause-meaning : goal.returns-clause-meaning
returns-clause-meaning c = same_meaning

pub returns-clause-presets : goal.returns-clause-presets
returns-clause-presets c = same_presets
