-- The bases so far.
use Rattle.std.proofs.Common.{◌≡◌, ◌<◌, ℕ, None, map, length, get_or}
use Rattle.derive_order.specs.Counting.{counted_base}
use Rattle.derive_sources.specs.Entries.{plain}
use Rattle.derive_sources.specs.Graphs.{children_among}
use Rattle.derive_sources.specs.Numbers.{item_at}
use Rattle.derive_order.proofs.bases.counted_bases.Given as goal

abbrev pub invariant-loop-number : goal.invariant-loop-number
invariant-loop-number l = record {
  long : length l.made.items ≡ l.number;
  each : (e : ℕ) → e < l.number → get_or l.made.items e None ≡ counted_base (item_at (map plain l.entries) e).kind (children_among e 0 (map plain l.entries)) (get_or l.sources e None);
}
