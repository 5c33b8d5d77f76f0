use Rattle.crate_form.proofs.Forming.{emitted_by_tree, emitted_has_form, one_has_form}
use Rattle.crate_form.proofs.laws.form_law.Goals as goal

pub returns-clause-is : goal.returns-clause-is
returns-clause-is c = emitted_has_form

pub returns-clause-one : goal.returns-clause-one
returns-clause-one c = one_has_form

pub returns-clause-tree : goal.returns-clause-tree
returns-clause-tree c = emitted_by_tree
