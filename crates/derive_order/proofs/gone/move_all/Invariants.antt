-- What was moved, and what moves after it, is what moves in all.
use Rattle.std.proofs.Common.{◌≡◌, ◌++◌, ℕ, [], cond, length, take, drop}
use Rattle.derive_order.specs.Gone.{is_key_of, taken_from}
use Rattle.need_order.specs.Children.{items_at}
use Rattle.derive_order.proofs.gone.move_all.Given as goal

abbrev pub invariant-loop-part : goal.invariant-loop-part
invariant-loop-part l = record {
  long : length l.tops.items ≡ length l.fn.tops.items;
  tops : (id : ℕ) → items_at l.tops.items id ≡ cond (is_key_of l.keys (take l.part-index l.parts) id) [] (items_at l.fn.tops.items id);
  taken : l.taken.items ++ taken_from l.keys (items_at l.tops.items) (drop l.part-index l.parts) ≡ l.fn.taken.items ++ taken_from l.keys (items_at l.fn.tops.items) l.parts;
}
