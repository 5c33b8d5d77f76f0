use Rattle.frag_script.proofs.TokenWords.{expects-end, expects-yes, expects-no}
use Rattle.frag_script.proofs.token.after.Goals as goal

pub returns-in_default : goal.returns-in_default
returns-in_default c = expects-end c.args.fixed c.args.text.now c.in_default.ensures

pub returns-then-eq : goal.returns-then-eq
returns-then-eq c = expects-yes c.args.fixed c.args.text.now c.in-Some.word.now c.in-Some.rest.now c.text.result.now c.in-Some.ensures c.text.ensures c.if-eq.ensures

pub returns-else-eq : goal.returns-else-eq
returns-else-eq c = expects-no c.args.fixed c.args.text.now c.in-Some.word.now c.in-Some.rest.now c.text.result.now c.in-Some.ensures c.text.ensures c.if-eq.ensures
