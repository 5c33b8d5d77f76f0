use Rattle.std.proofs.Common.{◌≡◌, true, map, take}
use Rattle.xml_text.specs.Reading.{differ}
use Rattle.xml_text.specs.Views.{names_in, attribute_name}
use Rattle.xml_text.proofs.attributes.attributes_differ.Given as goal

abbrev pub invariant-loop-attribute : goal.invariant-loop-attribute
invariant-loop-attribute l = record {
  same : names_in l.seen ≡ map attribute_name (take l.attribute-index l.attributes);
  apart : differ (map attribute_name (take l.attribute-index l.attributes)) ≡ true;
}
