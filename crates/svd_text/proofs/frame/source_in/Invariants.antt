use Rattle.std.proofs.Common.{◌≡◌, length, map}
use Rattle.xml_text.specs.Views.{attribute_of}
use Rattle.svd_text.specs.TextElements.{source_in}
use Rattle.svd_text.proofs.frame.source_in.Given as goal

abbrev pub invariant-loop-rest : goal.invariant-loop-rest
invariant-loop-rest l = source_in l.total (map attribute_of l.rest) ≡ source_in l.fn.total (map attribute_of l.fn.attributes)

abbrev pub decreases-loop-rest : goal.decreases-loop-rest
decreases-loop-rest l = length l.rest
