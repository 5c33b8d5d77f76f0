use Rattle.frag_sem.proofs.Fitting.{fitting_means, fitting_presets}
use Rattle.frag_sem.proofs.MeansOne.{means_one, presets_one}
use Rattle.frag_sem.proofs.laws.fitting_law.Goals as goal

pub returns-clause-means : goal.returns-clause-means
returns-clause-means c = fitting_means

pub returns-clause-one : goal.returns-clause-one
returns-clause-one c = means_one

pub returns-clause-presets : goal.returns-clause-presets
returns-clause-presets c = fitting_presets

pub returns-clause-one_presets : goal.returns-clause-one_presets
returns-clause-one_presets c = presets_one
