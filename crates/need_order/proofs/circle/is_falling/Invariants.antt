use Rattle.std.proofs.Common.{◌≡◌, ◌<◌, ◌+◌, ℕ, false}
use Rattle.need_order.specs.Needs.{needs}
use Rattle.need_order.specs.Ranks.{rises_to, rank_of}
use Rattle.need_order.proofs.circle.is_falling.Given as goal

abbrev pub invariant-loop-element : goal.invariant-loop-element
invariant-loop-element l = record {
  index : l.number ≡ l.element-index;
  falls : (e : ℕ) → e < l.number → rises_to l.ranks (rank_of l.ranks e + 1) (needs l.elements e) ≡ false;
}
