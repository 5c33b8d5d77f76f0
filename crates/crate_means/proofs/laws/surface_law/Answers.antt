use Rattle.crate_means.proofs.Surfaces.{same_faults, same_surface}
use Rattle.crate_means.proofs.laws.surface_law.Goals as goal

pub returns-clause-surface : goal.returns-clause-surface
returns-clause-surface c = same_surface

pub returns-clause-faults : goal.returns-clause-faults
returns-clause-faults c = same_faults
