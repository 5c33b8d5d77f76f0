use Rattle.std.proofs.Common.{◌≡◌, length, map}
use Rattle.frag_sem.specs.CrateTyping.{first_failed}
use Rattle.frag_rules.specs.Parts.{laid_in}
use Rattle.frag_rules.specs.Rules.{tested}
use Rattle.frag_rules.proofs.first.first_of.Given as goal

abbrev pub invariant-loop-rule : goal.invariant-loop-rule
invariant-loop-rule l = first_failed (map (tested (laid_in l.parts)) l.rest) ≡ first_failed (map (tested (laid_in l.parts)) l.fn.rules)

abbrev pub decreases-loop-rule : goal.decreases-loop-rule
decreases-loop-rule l = length l.rest
