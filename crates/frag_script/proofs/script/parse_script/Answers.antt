use Rattle.frag_script.proofs.ScriptTakes.{is_spelled, is_bounded}
use Rattle.frag_script.proofs.ScriptAgain.{is_refused}
use Rattle.frag_script.proofs.script.parse_script.Goals as goal

pub returns-clause-spelled : goal.returns-clause-spelled
returns-clause-spelled c = is_spelled c.args.bytes.now c.script.result c.script.ensures

pub returns-clause-bounded : goal.returns-clause-bounded
returns-clause-bounded c = is_bounded c.args.bytes.now c.script.result c.script.ensures

pub returns-clause-refused : goal.returns-clause-refused
returns-clause-refused c = is_refused c.args.bytes.now c.script.result c.script.ensures
