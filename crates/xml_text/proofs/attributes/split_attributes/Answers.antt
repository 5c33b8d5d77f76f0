use Rattle.std.proofs.Common.{◌≡◌, [], ◌∷◌, ◌++◌, map, sym}
use Rattle.std.proofs.lemmas.Result.{err_from_is_err_and}
use Rattle.std.proofs.lemmas.List.{map_push}
use Rattle.text_scan.proofs.Lists.{goes_on, is_done}
use Rattle.xml_text.specs.Views.{attribute_of}
use Rattle.xml_text.specs.Reading.{begins_attribute, attribute_at, attributes_at}
use Rattle.xml_text.proofs.OneAttribute.{attribute_shrinks}
use Rattle.xml_text.proofs.Answering.{breaks}
use Rattle.xml_text.proofs.attributes.split_attributes.Goals as goal

pub returns-in_err-attribute : goal.returns-in_err-attribute
returns-in_err-attribute c =
    let fault = err_from_is_err_and c.from_residual.result c.from_residual.ensures.1 in
    rw (fault.1, fault.2) (breaks begins_attribute attribute_at attribute_shrinks c.in_err-attribute.field-0.0 (map attribute_of c.attributes.attributes.items) c.attributes.rest.now (attributes_at c.args.text.now)
    (sym c.attributes-test.ensures) c.in_err-attribute.ensures c.attributes.invariant)

pub attributes-smaller : goal.attributes-smaller
attributes-smaller c = attribute_shrinks c.attributes.rest.now (attribute_of c.in_ok-attribute.attribute, c.in_ok-attribute.after.now) c.in_ok-attribute.ensures

pub attributes-preserved : goal.attributes-preserved
attributes-preserved c =
    let item = c.in_ok-attribute.attribute in
    let more : map attribute_of c.push.new.self.items ≡ map attribute_of c.attributes.attributes.items ++ attribute_of item ∷ [] = rw c.in_ok-push.ensures.items (map_push _ c.attributes.attributes.items item) in
    rw more (goes_on begins_attribute attribute_at attribute_shrinks (map attribute_of c.attributes.attributes.items) c.attributes.rest.now (attribute_of item) c.in_ok-attribute.after.now (attributes_at c.args.text.now)
    (sym c.attributes-test.ensures) c.in_ok-attribute.ensures c.attributes.invariant)

pub returns : goal.returns
returns c =
    is_done begins_attribute attribute_at attribute_shrinks (map attribute_of c.attributes.attributes.items) c.attributes.rest.now (attributes_at c.args.text.now) (sym c.attributes-test.ensures) c.attributes.invariant
