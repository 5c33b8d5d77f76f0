use Rattle.frag_eval.proofs.Growing.{modify_grows}
use Rattle.frag_eval.proofs.lower.lower_modify.Goals as goal

pub returns : goal.returns
returns c =
    modify_grows c.args.lowering.now c.push_read.new.lowering c.push.new.self c.args.found c.args.names_reader c.args.chain.now c.args.line c.in_ok-reading.reading c.reader_of.result c.in_ok-puts.puts c.target.result c.one_to_modify.result c.zero_to_modify.result
    c.requires c.in_ok-reading.ensures c.target.ensures c.in_ok-push.ensures.items c.one_to_modify.ensures c.zero_to_modify.ensures c.reader_of.ensures c.in_ok-puts.ensures
