use Rattle.frag_eval.proofs.Growing.{write_grows}
use Rattle.frag_eval.proofs.lower.lower_write.Goals as goal

pub returns : goal.returns
returns c = write_grows c.args.lowering.now c.push.new.self c.args.found c.args.base c.args.chain.now c.args.line c.in_ok-puts.puts c.target.result c.requires c.target.ensures c.in_ok-push.ensures.items c.in_ok-puts.ensures
