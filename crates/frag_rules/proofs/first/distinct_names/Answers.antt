use Rattle.std.proofs.Common.{◌&&◌, map, ap, ap₂, ◌∙◌}
use Rattle.frag_sem.specs.Modules.{are_distinct_names}
use Rattle.frag_tree.specs.Trees.{block_tree, crate_tree}
use Rattle.frag_rules.specs.Rules.{rule_test}
use Rattle.frag_rules.proofs.Firsts.{top-names}
use Rattle.frag_rules.proofs.first.distinct_names.Goals as goal

pub returns : goal.returns
unfolding rule_test crate_tree
returns c =
    c.earlier-2.ensures
    ∙ ap₂ (λ a b. a && b)
    (c.in_ok-slot.ensures ∙ ap (λ slots. are_distinct_names (map (λ slot. slot.name) slots)) c.as_slice.ensures)
    (c.earlier.ensures
    ∙ ap₂ (λ a b. a && b)
    (c.top_item.ensures ∙ (c.in_ok-top.ensures ∙ (ap (λ blocks. are_distinct_names (map (λ block. (block_tree block).head.name) blocks)) c.as_slice-2.ensures.value ∙ ap are_distinct_names (top-names c.args.parts.now.krate.now.blocks.items))))
    c.in_ok-inner.ensures)
