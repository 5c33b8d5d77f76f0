use Rattle.frag_tree.specs.Trees.{crate_tree}
use Rattle.frag_rules.proofs.ByName.{none-left}
use Rattle.frag_rules.proofs.Sizes.{tops-first, tops-known, tops-more, tops-sized}
use Rattle.frag_rules.proofs.range.measure_tops.Goals as goal

pub loop-first-init : goal.loop-first-init
loop-first-init c = tops-first c.new-tops.result c.args.sizes.now.large c.as_slice-rest.result.now c.args.krate.now.blocks.items c.new-tops.ensures c.as_slice-rest.ensures.value

pub loop-first-preserved : goal.loop-first-preserved
loop-first-preserved c =
    tops-more c.loop-first.tops c.keep.new.self c.loop-first.sizes.large c.measure_block.new.sizes.large c.args.sizes.now.large c.loop-first.rest.now c.in-Some.others.now c.args.krate.now.blocks.items c.in-Some.first.now c.own_name.result.now c.in_ok-measure.measure
    c.in-Some.ensures.cases.0 c.own_name.ensures c.in_ok-measure.ensures.measure c.in_ok-keep.ensures c.in_ok-measure.ensures.sizes c.loop-first.invariant

pub returns-clause-tops : goal.returns-clause-tops
unfolding crate_tree
returns-clause-tops c = tops-known c.loop-first.tops c.loop-first.sizes.large c.args.sizes.now.large c.loop-first.rest.now c.args.krate.now.blocks.items (none-left _ c.in_default.ensures.cases) c.loop-first.invariant

pub returns-clause-sizes : goal.returns-clause-sizes
unfolding crate_tree
returns-clause-sizes c = tops-sized c.loop-first.tops c.loop-first.sizes.large c.args.sizes.now.large c.loop-first.rest.now c.args.krate.now.blocks.items (none-left _ c.in_default.ensures.cases) c.loop-first.invariant
