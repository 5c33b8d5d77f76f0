-- The flags so far.
use Rattle.std.proofs.Common.{◌≡◌, ◌<◌, ℕ, false, map, length, get_or}
use Rattle.derive_order.specs.Kids.{is_counted_kind}
use Rattle.derive_sources.specs.Entries.{plain}
use Rattle.derive_sources.specs.Numbers.{item_at}
use Rattle.derive_order.proofs.bases.counted_flags.Given as goal

abbrev pub invariant-loop-number : goal.invariant-loop-number
invariant-loop-number l = record {
  long : length l.made.items ≡ l.number;
  each : (e : ℕ) → e < l.number → get_or l.made.items e false ≡ is_counted_kind (item_at (map plain l.entries) e).kind;
}
