-- The bases so far, and no parts.
use Rattle.std.proofs.Common.{◌≡◌, ℕ, [], map, take}
use Rattle.derive_sources.specs.Graphs.{parts_at}
use Rattle.derive_sources.proofs.graph.bare.Given as goal

abbrev pub invariant-loop-base : goal.invariant-loop-base
invariant-loop-base l = record {
  bases : map (λ element. element.base) l.made.items ≡ take l.base-index l.bases;
  parts : (e : ℕ) → parts_at l.made.items e ≡ [];
}
