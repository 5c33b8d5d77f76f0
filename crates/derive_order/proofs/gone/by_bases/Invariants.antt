-- The elements so far stand by their bases.
use Rattle.derive_order.specs.Walking.{StandByBases}
use Rattle.derive_order.proofs.gone.by_bases.Given as goal

abbrev pub invariant-loop-number : goal.invariant-loop-number
invariant-loop-number l = StandByBases l.elements l.number l.made.items
