use Rattle.std.proofs.Common.{◌≡◌, length}
use Rattle.frag_rules.specs.Parts.{laid_in, laid_out}
use Rattle.frag_tree.specs.Trees.{crate_tree}
use Rattle.frag_rules.proofs.Gathering.{with_tops}
use Rattle.frag_rules.proofs.parts.laid_out.Given as goal

abbrev pub invariant-loop-first : goal.invariant-loop-first
invariant-loop-first l = with_tops (laid_in l.parts) l.rest ≡ laid_out (crate_tree l.fn.krate)

abbrev pub decreases-loop-first : goal.decreases-loop-first
decreases-loop-first l = length l.rest
