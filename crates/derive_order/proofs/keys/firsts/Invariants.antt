-- The elements from a number on are in the index.
use Rattle.std.proofs.Common.{◌≡◌, ◌≤◌, ℕ, List, map, drop, length}
use Rattle.std.specs.List.{position_from}
use Rattle.std.specs.Map.{lookup}
use Rattle.std.specs.Str.{bytes_eq}
use Rattle.derive_sources.specs.Entries.{plain}
use Rattle.derive_sources.specs.Places.{is_place}
use Rattle.derive_order.proofs.keys.firsts.Given as goal

abbrev pub invariant-loop-number : goal.invariant-loop-number
invariant-loop-number l = record {
  inside : l.number ≤ length l.entries;
  held : (text : List ℕ) → lookup (is_place 0 text) l.index ≡ position_from (λ item. bytes_eq text item.name) l.number (drop l.number (map plain l.entries));
}

abbrev pub decreases-loop-number : goal.decreases-loop-number
decreases-loop-number l = l.number
