use Rattle.xml_text.proofs.Answering.{is_opening, one_opening}
use Rattle.xml_text.proofs.opening.after_opening.Goals as goal

pub returns-clause-exact : goal.returns-clause-exact
returns-clause-exact c = is_opening c.args.text.now _ c.opening.ensures

pub returns-clause-single : goal.returns-clause-single
returns-clause-single c = one_opening c.args.text.now
