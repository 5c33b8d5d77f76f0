use Rattle.frag_sem.proofs.Attained.{ends_decide}
use Rattle.frag_sem.proofs.CutEnds.{cut_ends_decide}
use Rattle.frag_sem.proofs.MeansOne.{members_lie_lower}
use Rattle.frag_sem.proofs.Rules.{fits_by_tests, refused_by_tests}
use Rattle.frag_sem.proofs.laws.typing_law.Goals as goal

pub returns-clause-fits : goal.returns-clause-fits
returns-clause-fits c = fits_by_tests

pub returns-clause-refused : goal.returns-clause-refused
returns-clause-refused c = refused_by_tests

pub returns-clause-ends : goal.returns-clause-ends
returns-clause-ends c = ends_decide

pub returns-clause-cut_ends : goal.returns-clause-cut_ends
returns-clause-cut_ends c = cut_ends_decide

pub returns-clause-members : goal.returns-clause-members
returns-clause-members c = members_lie_lower
