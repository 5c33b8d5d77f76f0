-- Each list so far is empty.
use Rattle.std.proofs.Common.{◌≡◌, ℕ, [], length}
use Rattle.need_order.specs.Children.{items_at}
use Rattle.derive_order.proofs.gone.empty_lists.Given as goal

abbrev pub invariant-loop-list : goal.invariant-loop-list
invariant-loop-list l = record {
  lists : (id : ℕ) → items_at l.made.items id ≡ [];
  long : length l.made.items ≡ l._list;
}
