-- The first pair of the members that are left is the first of all, and what is kept behind them too.
use Rattle.std.proofs.Common.{◌≡◌, drop}
use Rattle.overlap_sweep.specs.Kept.{declared_spots, kept_all, kept_pair}
use Rattle.overlap_sweep.proofs.field.first_in_field.Given as goal

abbrev pub invariant-loop-number : goal.invariant-loop-number
invariant-loop-number l = record {
  left : kept_pair l.fn.kept (declared_spots l.facts.readable l.facts.writable l.key l.field) ≡ kept_pair l.kept (drop l.number (declared_spots l.facts.readable l.facts.writable l.key l.field));
  kept : kept_all l.fn.kept (declared_spots l.facts.readable l.facts.writable l.key l.field) ≡ kept_all l.kept (drop l.number (declared_spots l.facts.readable l.facts.writable l.key l.field));
}
