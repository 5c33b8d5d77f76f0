use Rattle.std.proofs.Common.{sym, ap, ◌∙◌}
use Rattle.frag_tree.specs.Trees.{module_tree}
use Rattle.frag_tree.proofs.Trees.{block_tree-is, module_tree-block, module_tree-register}
use Rattle.frag_rules.proofs.Insides.{if_ok, kept-block, kept-register}
use Rattle.frag_rules.proofs.inside.Inside.keep.Goals as goal

pub returns-in-Register : goal.returns-in-Register
returns-in-Register g c =
    if_ok c.keep.result _ _ (λ done kept. kept-register c.args.self.now c.keep.new.self c.bytes.result.now c.args.known _ c.in-Register.register (ap module_tree c.in-Register.is ∙ module_tree-register c.in-Register.register) c.bytes.ensures.same kept) c.keep.ensures

pub returns-in-Block : goal.returns-in-Block
returns-in-Block g c =
    if_ok c.keep-in-Block.result _ _ (λ done kept. kept-block c.args.self.now c.keep-in-Block.new.self c.bytes-in-Block.result.now c.args.known _ c.in-Block.block (ap module_tree c.in-Block.is ∙ module_tree-block c.in-Block.block) (c.bytes-in-Block.ensures.same ∙ sym (ap (λ tree. tree.head.name) (block_tree-is c.in-Block.block))) kept) c.keep-in-Block.ensures
