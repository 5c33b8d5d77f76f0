use Rattle.block_form.proofs.Forming.{form_is, one_form}
use Rattle.block_form.proofs.laws.form_law.Goals as goal

pub returns-clause-is : goal.returns-clause-is
returns-clause-is c = form_is

pub returns-clause-one : goal.returns-clause-one
returns-clause-one c = one_form
