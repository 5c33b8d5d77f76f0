use Rattle.std.proofs.Common.{sym, ap, ◌∙◌}
use Rattle.frag_sem.specs.Modules.{module_name}
use Rattle.frag_tree.specs.Trees.{module_tree}
use Rattle.frag_tree.proofs.Trees.{module_tree-block, module_tree-register}
use Rattle.frag_rules.specs.Elements.{element_of}
use Rattle.frag_rules.proofs.named.ModuleHasName.own_name.Goals as goal

pub returns-in-Block : goal.returns-in-Block
returns-in-Block c = c.own_name.ensures ∙ sym (ap (λ tree. module_name (element_of tree)) (ap module_tree c.in-Block.is ∙ module_tree-block c.in-Block.block))

pub returns-in-Register : goal.returns-in-Register
returns-in-Register c = c.bytes.ensures.same ∙ sym (ap (λ tree. module_name (element_of tree)) (ap module_tree c.in-Register.is ∙ module_tree-register c.in-Register.register))
