use Rattle.block_form.proofs.Extents.{block_fits, each_is_known, extent_fits, extent_is, fit_is_sound}
use Rattle.block_form.proofs.laws.extent_law.Goals as goal

pub returns-clause-extent : goal.returns-clause-extent
returns-clause-extent c = extent_is

pub returns-clause-fits : goal.returns-clause-fits
returns-clause-fits c = extent_fits

pub returns-clause-ends : goal.returns-clause-ends
returns-clause-ends c = block_fits

pub returns-clause-sound : goal.returns-clause-sound
returns-clause-sound c = fit_is_sound

pub returns-clause-known : goal.returns-clause-known
returns-clause-known c = each_is_known
