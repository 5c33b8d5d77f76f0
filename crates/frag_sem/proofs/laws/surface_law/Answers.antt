use Rattle.frag_sem.proofs.Reaching.{calls_are_there}
use Rattle.frag_sem.proofs.Walking.{calls_by_modules, faults_by_modules, slots_by_name}
use Rattle.frag_sem.proofs.laws.surface_law.Goals as goal

pub returns-clause-modules : goal.returns-clause-modules
returns-clause-modules c = calls_by_modules

pub returns-clause-there : goal.returns-clause-there
returns-clause-there c = calls_are_there

pub returns-clause-slots : goal.returns-clause-slots
returns-clause-slots c = slots_by_name

pub returns-clause-faults : goal.returns-clause-faults
returns-clause-faults c = faults_by_modules
