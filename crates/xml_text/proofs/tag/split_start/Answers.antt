use Rattle.std.proofs.Common.{List, map, ap, ◌∙◌}
use Rattle.std.proofs.lemmas.Bool.{cond-true, cond-false}
use Rattle.xml_text.specs.declared.attribute.Attribute.{Attribute}
use Rattle.xml_text.specs.Views.{attribute_name}
use Rattle.xml_text.specs.Reading.{differ}
use Rattle.xml_text.proofs.Tags.{start_read}
use Rattle.xml_text.proofs.tag.split_start.Goals as goal

pub returns-then-not-branch : goal.returns-then-not-branch
returns-then-not-branch c =
    start_read c.args.text.now c.in_ok-name.name.now c.in_ok-name.behind.now c.in_ok-attributes.attributes.items c.in_ok-attributes.behind.now c.in_ok-closes_itself.closes_itself c.in_ok-closes_itself.rest.now c.in_ok-attributes_differ.field-0
    c.in_ok-name.ensures c.in_ok-attributes.ensures c.in_ok-closes_itself.ensures
    (c.in_ok-attributes_differ.ensures ∙ ap (λ (attributes : List Attribute). differ (map attribute_name attributes)) c.deref.ensures.value)
    ∙ cond-false _ _ _ c.if-not-branch.true

pub returns : goal.returns
returns c =
    start_read c.args.text.now c.in_ok-name.name.now c.in_ok-name.behind.now c.in_ok-attributes.attributes.items c.in_ok-attributes.behind.now c.in_ok-closes_itself.closes_itself c.in_ok-closes_itself.rest.now c.in_ok-attributes_differ.field-0
    c.in_ok-name.ensures c.in_ok-attributes.ensures c.in_ok-closes_itself.ensures
    (c.in_ok-attributes_differ.ensures ∙ ap (λ (attributes : List Attribute). differ (map attribute_name attributes)) c.deref.ensures.value)
    ∙ cond-true _ _ _ c.if-not-branch.false
