-- Sums and flags are told of the elements so far.
use Rattle.std.proofs.Common.{◌≡◌, ℕ, true, false, length, take, get_or, sum_by}
use Rattle.std.specs.List.{list_any}
use Rattle.need_order.specs.Children.{flag_weight}
use Rattle.need_order.specs.Needs.{among}
use Rattle.need_order.proofs.depth.deeper.Given as goal

abbrev pub invariant-loop-number : goal.invariant-loop-number
invariant-loop-number g l = record {
  sums_long : length l.sums.items ≡ length l.elements;
  next_long : length l.next.items ≡ length l.elements;
  sums : (e : ℕ) → among e (take l.number-index l.order) ≡ true → get_or l.sums.items e 0 ≡ sum_by (λ d. flag_weight (get_or l.flags d false)) (g.children e);
  next : (e : ℕ) → among e (take l.number-index l.order) ≡ true → get_or l.next.items e false ≡ list_any (λ d. get_or l.flags d false) (g.children e);
}
