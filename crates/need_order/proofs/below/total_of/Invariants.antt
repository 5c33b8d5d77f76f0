-- The sum so far, and that of what is left.
use Rattle.std.proofs.Common.{◌≡◌, ◌+◌, drop, sum_by}
use Rattle.need_order.specs.Below.{weigh}
use Rattle.need_order.proofs.below.total_of.Given as goal

abbrev pub invariant-loop-number : goal.invariant-loop-number
invariant-loop-number l = l.total + sum_by (weigh l.weights) (drop l.number-index l.numbers) ≡ sum_by (weigh l.weights) l.numbers
