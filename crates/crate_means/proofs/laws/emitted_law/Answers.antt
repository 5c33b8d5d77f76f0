use Rattle.crate_means.proofs.Emitted.{emitted_faults, emitted_meaning, emitted_places, emitted_presets, emitted_stands, emitted_surface}
use Rattle.crate_means.proofs.laws.emitted_law.Goals as goal

pub returns-clause-stands : goal.returns-clause-stands
returns-clause-stands c = emitted_stands

pub returns-clause-places : goal.returns-clause-places
returns-clause-places c = emitted_places

pub returns-clause-surface : goal.returns-clause-surface
returns-clause-surface c = emitted_surface

pub returns-clause-faults : goal.returns-clause-faults
returns-clause-faults c = emitted_faults

pub returns-clause-meaning : goal.returns-clause-meaning
returns-clause-meaning c = emitted_meaning

pub returns-clause-presets : goal.returns-clause-presets
returns-clause-presets c = emitted_presets
