use Rattle.std.proofs.Common.{◌≡◌, map, length}
use Rattle.text_scan.proofs.Lists.{with_front}
use Rattle.xml_text.specs.Views.{attribute_of}
use Rattle.xml_text.specs.Reading.{attributes_at}
use Rattle.xml_text.proofs.attributes.split_attributes.Given as goal

abbrev pub invariant-attributes : goal.invariant-attributes
invariant-attributes l = with_front (map attribute_of l.attributes.items) (attributes_at l.rest) ≡ attributes_at l.text

abbrev pub decreases-attributes : goal.decreases-attributes
decreases-attributes l = length l.rest
