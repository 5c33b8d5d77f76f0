-- The children of each element so far.
use Rattle.std.proofs.Common.{◌≡◌, ◌<◌, ℕ, map, take, length}
use Rattle.derive_sources.specs.Entries.{plain}
use Rattle.derive_sources.specs.Graphs.{parts_at, children_among}
use Rattle.derive_sources.proofs.graph.needs_of.Given as goal

abbrev pub invariant-loop-number : goal.invariant-loop-number
invariant-loop-number l = record {
  bases : map (λ element. element.base) l.elements.items ≡ l.sources;
  parts : (e : ℕ) → e < length l.elements.items → parts_at l.elements.items e ≡ children_among e 0 (take l.number (map plain l.entries));
}
