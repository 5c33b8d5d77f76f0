use Rattle.std.proofs.Common.{◌++◌, subst, ◌∙◌, ap, sym, List, ℕ}
use Rattle.std.proofs.lemmas.Result.{err_from_is_err_and}
use Rattle.frag_words.specs.Lines.{lines_text}
use Rattle.pac_io.specs.WrittenUpTo.{WrittenUpTo}
use Rattle.pac_io.specs.Writing.{AppendsPrefix, WritesUpTo}
use Rattle.pac_io.proofs.WrittenUpTo.{none_written}
use Rattle.frag_tree.specs.Blocks.{module_lines}
use Rattle.frag_tree.specs.Trees.{ModuleTree, block_tree, module_tree}
use Rattle.frag_tree.proofs.Trees.{module_tree-block, module_tree-register}
use Rattle.frag_tree.proofs.Modules.{inner-is, block_broke_off, block_went_on, block_printed, held_back, modules_done, module_broke_off, module_went_on}
use Rattle.frag_tree.proofs.crate_text.+modules.Goals as goal

pub print_block-returns-in_err-push_opening-clause-growth : goal.print_block-returns-in_err-push_opening-clause-growth
print_block-returns-in_err-push_opening-clause-growth g t c =
    let p = err_from_is_err_and c.from_residual.result c.from_residual.ensures.1 in rw p.1 (none_written _ _)

pub print_block-returns-in_err-deeper-clause-growth : goal.print_block-returns-in_err-deeper-clause-growth
print_block-returns-in_err-deeper-clause-growth g t c =
    let p = err_from_is_err_and c.from_residual-in_err-deeper.result c.from_residual-in_err-deeper.ensures.1 in rw p.1 (none_written _ _)

pub print_block-returns-in_err-print_modules-clause-growth : goal.print_block-returns-in_err-print_modules-clause-growth
print_block-returns-in_err-print_modules-clause-growth g t c =
    let p = err_from_is_err_and c.from_residual-in_err-print_modules.result c.from_residual-in_err-print_modules.ensures.1 in
    let is = inner-is c.args.block.now c.args.depth c.in_ok-deeper.field-0 c.deref.result.now c.in_ok-deeper.ensures c.deref.ensures.value in
    rw p.1 (block_broke_off _ _ c.args.depth (block_tree c.args.block.now) c.args.page.now c.push_opening.new.page c.in_ok-push_opening.ensures
    (subst (λ (xs : List ℕ). AppendsPrefix (g.S.Sink.written c.args.sink.now) (g.S.Sink.written c.print_modules.new.sink) (c.push_opening.new.page ++ xs)) is c.in_err-print_modules.ensures.growth))

pub print_block-returns-in_err-push_line-clause-growth : goal.print_block-returns-in_err-push_line-clause-growth
print_block-returns-in_err-push_line-clause-growth g t c =
    let p = err_from_is_err_and c.from_residual-in_err-push_line.result c.from_residual-in_err-push_line.ensures.1 in
    let is = inner-is c.args.block.now c.args.depth c.in_ok-deeper.field-0 c.deref.result.now c.in_ok-deeper.ensures c.deref.ensures.value in
    rw p.1 (held_back _ (block_went_on _ _ c.args.depth (block_tree c.args.block.now) c.args.page.now c.push_opening.new.page c.print_modules.new.page c.in_ok-push_opening.ensures
    (subst (λ (xs : List ℕ). WrittenUpTo (g.S.Sink.written c.args.sink.now) (g.S.Sink.written c.print_modules.new.sink) (c.push_opening.new.page ++ xs) c.print_modules.new.page) is c.in_ok-print_modules.ensures.growth)))

pub print_block-returns-clause-growth : goal.print_block-returns-clause-growth
print_block-returns-clause-growth g t c =
    let is = inner-is c.args.block.now c.args.depth c.in_ok-deeper.field-0 c.deref.result.now c.in_ok-deeper.ensures c.deref.ensures.value in
    block_printed c.turn.result _ _ _ c.args.depth (block_tree c.args.block.now) c.args.page.now c.push_opening.new.page c.print_modules.new.page c.push_line.new.page c.turn.new.self c.in_ok-push_opening.ensures
    (subst (λ (xs : List ℕ). WrittenUpTo (g.S.Sink.written c.args.sink.now) (g.S.Sink.written c.print_modules.new.sink) (c.push_opening.new.page ++ xs) c.print_modules.new.page) is c.in_ok-print_modules.ensures.growth)
    c.in_ok-push_line.ensures c.turn.ensures.growth

pub print_module-returns-in_err-push_register-in-Register-clause-growth : goal.print_module-returns-in_err-push_register-in-Register-clause-growth
print_module-returns-in_err-push_register-in-Register-clause-growth g t c =
    let p = err_from_is_err_and c.from_residual.result c.from_residual.ensures.1 in rw p.1 (none_written _ _)

pub print_module-returns-in-Block-clause-growth : goal.print_module-returns-in-Block-clause-growth
print_module-returns-in-Block-clause-growth g t c =
    subst (λ (tree : ModuleTree). WritesUpTo c.print_block.result (g.S.Sink.written c.args.sink.now) (g.S.Sink.written c.print_block.new.sink) (c.args.page.now ++ lines_text (module_lines c.args.depth tree)) c.print_block.new.page)
    (sym (ap module_tree c.in-Block.is ∙ module_tree-block c.in-Block.block)) c.print_block.ensures.growth

pub print_module-returns-in_ok-push_register-in-Register-clause-growth : goal.print_module-returns-in_ok-push_register-in-Register-clause-growth
print_module-returns-in_ok-push_register-in-Register-clause-growth g t c =
    subst (λ (tree : ModuleTree). WritesUpTo c.turn.result (g.S.Sink.written c.args.sink.now) (g.S.Sink.written c.turn.new.sink) (c.args.page.now ++ lines_text (module_lines c.args.depth tree)) c.turn.new.self)
    (sym (ap module_tree c.in-Register.is ∙ module_tree-register c.in-Register.register))
    (rw (← c.in_ok-push_register-in-Register.ensures) c.turn.ensures.growth)

pub print_modules-returns-in_err-print_module-clause-growth : goal.print_modules-returns-in_err-print_module-clause-growth
print_modules-returns-in_err-print_module-clause-growth g t c =
    let p = err_from_is_err_and c.from_residual.result c.from_residual.ensures.1 in
    rw p.1 (module_broke_off c.args.depth c.args.modules.now c.loop-part.part-index c.part-item.result c.loop-part.page c.loop-part-test.true c.part-item.is c.loop-part.invariant.growth c.in_err-print_module.ensures.growth)

pub print_modules-loop-part-preserved : goal.print_modules-loop-part-preserved
print_modules-loop-part-preserved g t c = record {
  growth = module_went_on c.args.depth c.args.modules.now c.loop-part.part-index c.part-item.result c.loop-part.page c.print_module.new.page c.loop-part-test.true c.part-item.is c.loop-part.invariant.growth c.in_ok-print_module.ensures.growth;
  cause = c.in_ok-print_module.ensures.cause ∙ c.loop-part.invariant.cause;
}

pub print_modules-returns-clause-growth : goal.print_modules-returns-clause-growth
print_modules-returns-clause-growth g t c =
    modules_done c.args.depth c.args.modules.now c.loop-part.part-index c.loop-part.page c.loop-part-test.false c.loop-part.invariant.growth
