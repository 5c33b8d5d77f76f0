use Rattle.std.proofs.Common.{◌≡◌, length}
use Rattle.text_scan.specs.Fronts.{rest_of}
use Rattle.xml_text.specs.Bytes.{is_in}
use Rattle.xml_text.proofs.run.after_run.Given as goal

abbrev pub invariant-loop-rest : goal.invariant-loop-rest
invariant-loop-rest l = rest_of (is_in l.run) l.rest ≡ rest_of (is_in l.run) l.text

abbrev pub decreases-loop-rest : goal.decreases-loop-rest
decreases-loop-rest l = length l.rest
