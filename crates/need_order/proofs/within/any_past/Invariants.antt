-- What is left decides as all do.
use Rattle.std.proofs.Common.{◌≡◌, drop, nat_le}
use Rattle.std.specs.List.{list_any}
use Rattle.need_order.proofs.within.any_past.Given as goal

abbrev pub invariant-loop-number : goal.invariant-loop-number
invariant-loop-number l = list_any (λ d. nat_le l.limit d) (drop l.number-index l.numbers) ≡ list_any (λ d. nat_le l.limit d) l.numbers
