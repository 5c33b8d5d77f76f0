use Rattle.frag_rules.proofs.ByName.{none-left}
use Rattle.frag_index.proofs.Adding.{tops-begin, tops-done, tops-more}
use Rattle.frag_index.proofs.built.add_tops.Goals as goal

pub loop-first-init : goal.loop-first-init
loop-first-init c = tops-begin _ c.args.blocks.now c.new.ensures.items c.new-2.ensures

pub loop-first-preserved : goal.loop-first-preserved
loop-first-preserved c =
    tops-more c.loop-first.tops c.add.new.self c.loop-first.rest.now c.in-Some.others.now c.args.blocks.now c.in-Some.first.now c.in-Some.ensures.cases.0 c.in_ok-add.ensures c.loop-first.invariant

pub returns : goal.returns
returns c = tops-done c.loop-first.tops c.loop-first.rest.now c.args.blocks.now (none-left _ c.in_default.ensures.cases) c.loop-first.invariant
