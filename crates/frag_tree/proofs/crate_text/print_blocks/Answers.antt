use Rattle.std.proofs.Common.{◌∙◌}
use Rattle.std.proofs.lemmas.Result.{err_from_is_err_and}
use Rattle.frag_tree.proofs.Modules.{top_broke_off, top_went_on}
use Rattle.frag_tree.proofs.crate_text.print_blocks.Goals as goal

pub returns-in_err-print_top-clause-growth : goal.returns-in_err-print_top-clause-growth
returns-in_err-print_top-clause-growth g c =
    let p = err_from_is_err_and c.from_residual.result c.from_residual.ensures.1 in
    rw p.1 (top_broke_off c.args.blocks.now c.loop-block.block-index c.block-item.result c.loop-block.page c.loop-block-test.true c.block-item.is c.loop-block.invariant.growth c.in_err-print_top.ensures.growth)

pub loop-block-preserved : goal.loop-block-preserved
loop-block-preserved g c = record {
  growth = top_went_on c.args.blocks.now c.loop-block.block-index c.block-item.result c.loop-block.page c.print_top.new.page c.loop-block-test.true c.block-item.is c.loop-block.invariant.growth c.in_ok-print_top.ensures.growth;
  cause = c.in_ok-print_top.ensures.cause ∙ c.loop-block.invariant.cause;
}
