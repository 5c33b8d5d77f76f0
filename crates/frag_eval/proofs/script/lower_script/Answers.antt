use Rattle.std.proofs.Common.{sym, subst}
use Rattle.frag_tree.specs.Trees.{crate_tree}
use Rattle.frag_eval.proofs.Lines.{none-left}
use Rattle.frag_eval.proofs.Scripts.{LoweredUpTo, lowered_all, lowered_more, lowered_none}
use Rattle.frag_eval.proofs.script.lower_script.Goals as goal

pub loop-line-init : goal.loop-line-init
loop-line-init c =
    subst (λ lines. LoweredUpTo (crate_tree c.args.index.now.krate.now) c.args.script.now.lines lines (record { deeds = c.new.result; bound = c.new-2.result; reads = 0 })) (sym c.as_slice-rest.ensures)
    (lowered_none (crate_tree c.args.index.now.krate.now) c.args.script.now.lines c.new.result c.new-2.result c.new.ensures.items c.new-2.ensures)

pub lower_line-requires : goal.lower_line-requires
lower_line-requires c = c.loop-line.invariant.few

pub loop-line-preserved : goal.loop-line-preserved
loop-line-preserved c =
    lowered_more (crate_tree c.args.index.now.krate.now) c.args.script.now.lines c.loop-line.rest.now c.in-Some.others.now c.in-Some.line.now c.loop-line.lowering c.lower_line.new.lowering c.in-Some.ensures.cases.0 c.loop-line.invariant
    (c.in_ok-lower_line.ensures (crate_tree c.args.index.now.krate.now) c.called_at-found.ensures)

pub returns : goal.returns
returns c = lowered_all (crate_tree c.args.index.now.krate.now) c.args.script.now c.loop-line.rest.now c.loop-line.lowering (none-left c.loop-line.rest.now c.in_default.ensures.cases) c.loop-line.invariant
