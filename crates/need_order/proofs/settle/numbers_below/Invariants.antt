use Rattle.std.proofs.Common.{◌≡◌, ◌<◌, ℕ, true}
use Rattle.need_order.specs.Needs.{among}
use Rattle.need_order.proofs.settle.numbers_below.Given as goal

abbrev pub invariant-loop-number : goal.invariant-loop-number
invariant-loop-number l = (e : ℕ) → e < l.number → among e l.made.items ≡ true
