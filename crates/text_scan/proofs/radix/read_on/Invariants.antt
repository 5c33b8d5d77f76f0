use Rattle.std.proofs.Common.{◌≡◌, length}
use Rattle.text_scan.specs.Reading.{reads_on}
use Rattle.text_scan.proofs.radix.read_on.Given as goal

abbrev pub invariant-loop-rest : goal.invariant-loop-rest
invariant-loop-rest l = reads_on l.radix l.value l.rest ≡ reads_on l.radix 0 l.digits

abbrev pub decreases-loop-rest : goal.decreases-loop-rest
decreases-loop-rest l = length l.rest
