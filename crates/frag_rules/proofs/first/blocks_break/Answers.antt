use Rattle.std.proofs.Common.{ap, map, ◌∙◌}
use Rattle.std.specs.List.{list_all}
use Rattle.frag_tree.specs.Trees.{block_tree, crate_tree}
use Rattle.frag_rules.specs.Rules.{block_test}
use Rattle.frag_rules.proofs.Insides.{if_ok}
use Rattle.frag_rules.proofs.first.blocks_break.Goals as goal

pub returns : goal.returns
unfolding crate_tree
returns c =
    if_ok c.in_blocks.result _ _ (λ item is. is ∙ ap (λ units. list_all (block_test c.args.rule c.args.parts.now.krate.now.version) (map (λ listed. block_tree listed.unit.now) units)) c.as_slice.ensures.value) c.in_blocks.ensures
