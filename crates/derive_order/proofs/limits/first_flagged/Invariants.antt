-- The first of those that are left is the first.
use Rattle.std.proofs.Common.{◌≡◌, false, map, drop, get_or}
use Rattle.std.specs.List.{find}
use Rattle.derive_sources.specs.Entries.{plain}
use Rattle.derive_sources.specs.Graphs.{children_among}
use Rattle.derive_order.proofs.limits.first_flagged.Given as goal

abbrev pub invariant-loop-number : goal.invariant-loop-number
invariant-loop-number l = find (λ d. get_or l.flags d false) (children_among 0 l.number (drop l.number (map plain l.entries))) ≡ find (λ d. get_or l.flags d false) (children_among 0 0 (map plain l.entries))
