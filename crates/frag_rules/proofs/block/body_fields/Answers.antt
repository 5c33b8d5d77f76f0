use Rattle.std.proofs.Common.{ap, ◌∙◌}
use Rattle.frag_sem.specs.CallPlaces.{field_named}
use Rattle.frag_sem.specs.CrateTyping.{names_field}
use Rattle.frag_tree.specs.Trees.{block_tree}
use Rattle.frag_rules.specs.Rules.{block_test}
use Rattle.frag_rules.specs.Bodies.{body_leads}
use Rattle.frag_rules.specs.Naming.{named_in}
use Rattle.frag_rules.proofs.BlockTests.{body-leads}
use Rattle.frag_rules.proofs.Misfits.{no-misfit}
use Rattle.frag_rules.proofs.block.body_fields.Goals as goal

pub returns : goal.returns
unfolding block_test
returns c =
    no-misfit (λ access. body_leads (named_in c.in_ok-fields.fields) access.body) (λ access. names_field (block_tree c.args.block.now).head.fields access.body) _ _ _ _
    (λ access. body-leads (named_in c.in_ok-fields.fields) (block_tree c.args.block.now).head.fields (λ name. c.in_ok-fields.ensures name ∙ ap (λ fields. field_named name fields) c.fields_of.ensures) access.body)
    c.accessors_of.ensures c.body_leading_nowhere.ensures c.accessor_item.ensures
