-- Those so far stand under their keys.
use Rattle.std.proofs.Common.{◌≡◌, ◌<◌, ◌++◌, ℕ, length, take, filter}
use Rattle.derive_order.specs.Gone.{has_key}
use Rattle.need_order.specs.Children.{items_at}
use Rattle.derive_order.proofs.gone.push_all.Given as goal

abbrev pub invariant-loop-number : goal.invariant-loop-number
invariant-loop-number l = record {
  long : length l.tops.items ≡ length l.fn.tops.items;
  tops : (id : ℕ) → id < length l.fn.tops.items → items_at l.tops.items id ≡ items_at l.fn.tops.items id ++ filter (has_key l.keys id) (take l.number-index l.numbers);
}
