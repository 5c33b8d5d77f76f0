use Rattle.std.proofs.Common.{◌≡◌, ◌&&◌, ap₂, ◌∙◌}
use Rattle.frag_sem.specs.CrateTyping.{is_module, names_module}
use Rattle.frag_tree.specs.declared.block.Element.{Element}
use Rattle.frag_tree.specs.Trees.{block_tree}
use Rattle.frag_rules.specs.Rules.{block_test}
use Rattle.frag_rules.specs.Bodies.{type_leads}
use Rattle.frag_rules.specs.Insides.{found_inside}
use Rattle.std.specs.Prelude.{is_some}
use Rattle.frag_rules.proofs.BlockTests.{is-module, type-leads}
use Rattle.frag_rules.proofs.Misfits.{no-misfit}
use Rattle.frag_rules.proofs.block.module_paths.Goals as goal

pub returns : goal.returns
unfolding block_test
returns c =
    let there : (element : Element) → is_some (found_inside c.in_ok-inside.inside element) ≡ is_module (block_tree c.args.block.now).inside element =
    λ element. is-module _ (block_tree c.args.block.now).inside element (found_inside c.in_ok-inside.inside element) (c.in_ok-inside.ensures element) c.modules_of.ensures in
    c.earlier.ensures
    ∙ ap₂ (λ a b. a && b)
    (no-misfit (λ field. type_leads (λ element. is_some (found_inside c.in_ok-inside.inside element)) field.holds) (λ field. names_module (block_tree c.args.block.now).inside field.holds) _ _ _ _ (λ field. type-leads _ _ there field.holds) c.fields_of.ensures c.field_leading_nowhere-field.ensures c.field_item.ensures)
    (no-misfit (λ access. is_some (found_inside c.in_ok-inside.inside access.element)) (λ access. is_module (block_tree c.args.block.now).inside access.element) _ _ _ _ (λ access. there access.element) c.accessors_of.ensures c.accessor_leading_nowhere-accessor.ensures c.accessor_item.ensures)
