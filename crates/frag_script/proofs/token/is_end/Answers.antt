use Rattle.frag_script.proofs.TokenWords.{end-none, end-some}
use Rattle.frag_script.proofs.token.is_end.Goals as goal

pub returns-in-None : goal.returns-in-None
returns-in-None c = end-none c.args.text.now c.in-None.ensures

pub returns-in-Some : goal.returns-in-Some
returns-in-Some c = end-some c.args.text.now c.in-Some.field-0.0.now c.in-Some.field-0.1.now c.in-Some.ensures
