-- The elements so far need elements alone.
use Rattle.std.proofs.Common.{◌≡◌, ◌<◌, ℕ, false, length, nat_le}
use Rattle.std.specs.List.{list_any}
use Rattle.need_order.specs.Needs.{needs}
use Rattle.need_order.proofs.within.is_within.Given as goal

abbrev pub invariant-loop-element : goal.invariant-loop-element
invariant-loop-element l = (e : ℕ) → e < l.element-index → list_any (λ d. nat_le (length l.elements) d) (needs l.elements e) ≡ false
