use Rattle.std.proofs.Common.{length}
use Rattle.frag_rules.specs.Insides.{found_inside}
use Rattle.frag_rules.specs.Measures.{type_found}
use Rattle.frag_rules.proofs.Measuring.{LaidSoFar}
use Rattle.frag_rules.proofs.layout.layout_of.Given as goal

abbrev pub invariant-loop-first : goal.invariant-loop-first
invariant-loop-first l = LaidSoFar (type_found (found_inside l.inside)) l.fn.fields l.rest l.layout

abbrev pub decreases-loop-first : goal.decreases-loop-first
decreases-loop-first l = length l.rest
