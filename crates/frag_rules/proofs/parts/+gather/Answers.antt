use Rattle.std.proofs.Common.{◌≡◌, OnOk, sym, ap, subst, ◌∙◌, map, arith}
use Rattle.frag_tree.specs.Trees.{block_tree, in_line, module_tree}
use Rattle.frag_tree.proofs.Trees.{block_tree-is, module_tree-block, module_tree-register}
use Rattle.frag_rules.specs.Gathering.{blocks_at, registers_at}
use Rattle.frag_rules.specs.Parts.{Laid, laid_in, with_more}
use Rattle.frag_rules.proofs.Gathering.{block-more, modules-done, modules-more}
use Rattle.frag_rules.proofs.parts.+gather.Goals as goal

pub gather_block-returns : goal.gather_block-returns
gather_block-returns t c =
    subst (λ (laid : Laid). OnOk c.gather_modules.result (laid_in c.gather_modules.new.parts ≡ laid))
    (block-more (laid_in c.args.parts.now) (laid_in c.list_block.new.self) (block_tree c.args.block.now) (in_line (map module_tree c.deref.result.now)) c.in_ok-list_block.ensures
    (ap (λ modules. in_line (map module_tree modules)) c.deref.ensures.value ∙ sym (ap (λ tree. tree.inside) (block_tree-is c.args.block.now))))
    c.gather_modules.ensures

pub gather_module-returns-in-Block : goal.gather_module-returns-in-Block
gather_module-returns-in-Block t c =
    subst (λ tree. OnOk c.gather_block.result (laid_in c.gather_block.new.parts ≡ with_more (laid_in c.args.parts.now) (blocks_at tree) (registers_at tree)))
    (sym (ap module_tree c.in-Block.is ∙ module_tree-block c.in-Block.block)) c.gather_block.ensures

pub gather_module-returns-in-Register : goal.gather_module-returns-in-Register
gather_module-returns-in-Register t c =
    subst (λ tree. OnOk c.list_register.result (laid_in c.list_register.new.self ≡ with_more (laid_in c.args.parts.now) (blocks_at tree) (registers_at tree)))
    (sym (ap module_tree c.in-Register.is ∙ module_tree-register c.in-Register.unit)) c.list_register.ensures

pub gather_modules-loop-module-preserved : goal.gather_modules-loop-module-preserved
gather_modules-loop-module-preserved t c =
    modules-more (laid_in c.loop-module.parts) (laid_in c.gather_module.new.parts) c.args.modules.now c.loop-module.module-index c.module-item.result c.loop-module-test.true c.module-item.is c.in_ok-gather_module.ensures
    ∙ c.loop-module.invariant

pub gather_modules-returns : goal.gather_modules-returns
gather_modules-returns t c = modules-done (laid_in c.loop-module.parts) c.args.modules.now c.loop-module.module-index (omega arith) ∙ c.loop-module.invariant
