use Rattle.std.proofs.Common.{◌≡◌, false, length}
use Rattle.frag_script.specs.Groups.{grouped_on}
use Rattle.frag_script.proofs.number.is_grouped.Given as goal

abbrev pub invariant-loop-rest : goal.invariant-loop-rest
invariant-loop-rest l = grouped_on l.is_begun l.rest ≡ grouped_on false l.text

abbrev pub decreases-loop-rest : goal.decreases-loop-rest
decreases-loop-rest l = length l.rest
