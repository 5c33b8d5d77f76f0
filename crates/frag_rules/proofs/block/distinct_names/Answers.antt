use Rattle.std.proofs.Common.{◌&&◌, map, ap, ap₂, ◌∙◌}
use Rattle.frag_sem.specs.CrateTyping.{module_names}
use Rattle.frag_sem.specs.Modules.{are_distinct_names}
use Rattle.frag_tree.specs.Trees.{block_tree}
use Rattle.frag_rules.specs.Rules.{block_test}
use Rattle.frag_rules.proofs.BlockTests.{names-in-line, names-together}
use Rattle.frag_rules.proofs.block.distinct_names.Goals as goal

pub returns : goal.returns
unfolding block_test
returns c =
    c.earlier.ensures
    ∙ (ap₂ (λ a b. a && b)
    (c.earlier-own.ensures
    ∙ ap₂ (λ a b. a && b)
    (c.field_item.ensures ∙ (c.in_ok-field.ensures ∙ ap (λ fields. are_distinct_names (map (λ field. field.name) fields)) c.fields_of.ensures))
    (c.accessor_item.ensures ∙ (c.in_ok-accessor.ensures ∙ ap (λ accessors. are_distinct_names (map (λ access. access.name) accessors)) c.accessors_of.ensures)))
    (c.module_item.ensures ∙ (c.in_ok-inner.ensures ∙ (ap are_distinct_names (names-in-line c.modules_of.result.now) ∙ ap (λ modules. are_distinct_names (module_names modules)) c.modules_of.ensures)))
    ∙ names-together (are_distinct_names (map (λ field. field.name) (block_tree c.args.block.now).head.fields)) (are_distinct_names (map (λ access. access.name) (block_tree c.args.block.now).head.accessors)) (are_distinct_names (module_names (block_tree c.args.block.now).inside)))
