use Rattle.register_form.proofs.Rules.{rules_hold}
use Rattle.register_form.proofs.laws.rules_law.Goals as goal

pub returns : goal.returns
returns c = rules_hold
