use Rattle.std.proofs.Common.{is_some, map}
use Rattle.frag_sem.specs.Modules.{top_block}
use Rattle.frag_tree.specs.Trees.{block_tree, crate_tree}
use Rattle.frag_rules.specs.Naming.{named_in}
use Rattle.frag_rules.specs.Rules.{rule_test}
use Rattle.frag_rules.proofs.Firsts.{is-top}
use Rattle.frag_rules.proofs.Misfits.{no-misfit}
use Rattle.std.proofs.Common.{refl}
use Rattle.frag_rules.proofs.first.slot_modules.Goals as goal

pub returns : goal.returns
unfolding rule_test crate_tree
returns c =
    no-misfit (λ slot. is_some (named_in c.in_ok-tops.tops slot.block)) (λ slot. is_some (top_block slot.block (map block_tree c.args.parts.now.krate.now.blocks.items))) _ _ c.slot_without_module.result c.slot_without_module.result
    (λ slot. is-top _ _ c.in_ok-tops.tops c.as_slice.ensures.value c.in_ok-tops.ensures slot.block) c.as_slice-2.ensures c.slot_without_module.ensures refl
