-- Sums and counts are told of the elements so far.
use Rattle.std.proofs.Common.{◌≡◌, ℕ, true, length, take, get_or, sum_by}
use Rattle.need_order.specs.Children.{size, told}
use Rattle.need_order.specs.Needs.{among}
use Rattle.need_order.proofs.count.counted.Given as goal

abbrev pub invariant-loop-number : goal.invariant-loop-number
invariant-loop-number g l = record {
  sums_long : length l.sums.items ≡ length l.elements;
  counts_long : length l.counts.items ≡ length l.elements;
  sums : (e : ℕ) → among e (take l.number-index l.order) ≡ true → get_or l.sums.items e 0 ≡ sum_by (λ d. told (size l.flags g.children (length l.elements) d)) (g.children e);
  counts : (e : ℕ) → among e (take l.number-index l.order) ≡ true → get_or l.counts.items e 0 ≡ told (size l.flags g.children (length l.elements) e);
}
