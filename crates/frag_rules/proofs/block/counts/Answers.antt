use Rattle.std.proofs.Common.{◌&&◌, refl, ap₂, ◌∙◌}
use Rattle.frag_sem.specs.CrateTyping.{body_has_members, type_has_members}
use Rattle.frag_rules.specs.Rules.{block_test}
use Rattle.frag_rules.proofs.Misfits.{no-misfit}
use Rattle.frag_rules.proofs.block.counts.Goals as goal

pub returns : goal.returns
unfolding block_test
returns c =
    c.earlier.ensures
    ∙ ap₂ (λ a b. a && b)
    (no-misfit (λ field. type_has_members field.holds) (λ field. type_has_members field.holds) _ _ _ _ (λ field. refl) c.fields_of.ensures c.field_without_members.ensures c.field_item.ensures)
    (no-misfit (λ access. body_has_members access.body) (λ access. body_has_members access.body) _ _ _ _ (λ access. refl) c.accessors_of.ensures c.accessor_without_members.ensures c.accessor_item.ensures)
