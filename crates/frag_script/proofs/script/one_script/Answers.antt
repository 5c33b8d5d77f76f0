use Rattle.frag_script.proofs.ScriptAgain.{one_script}
use Rattle.frag_script.proofs.script.one_script.Goals as goal

pub returns : goal.returns
returns c = one_script
