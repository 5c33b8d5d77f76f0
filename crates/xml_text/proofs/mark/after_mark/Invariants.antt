use Rattle.std.proofs.Common.{◌≡◌, length}
use Rattle.xml_text.specs.Reading.{after_mark}
use Rattle.xml_text.proofs.mark.after_mark.Given as goal

abbrev pub invariant-loop-rest : goal.invariant-loop-rest
invariant-loop-rest l = after_mark l.mark l.rest ≡ after_mark l.mark l.text

abbrev pub decreases-loop-rest : goal.decreases-loop-rest
decreases-loop-rest l = length l.rest
