-- None of the buses before is of the kind.
use Rattle.std.specs.Prelude.{◌≡◌}
use Rattle.pac_cli.specs.Buses.{kinds_of, slots_of}
use Rattle.pac_cli.proofs.Slots.{NoneBefore}
use Rattle.pac_cli.proofs.slot.place_of.Given as goal

abbrev pub invariant-loop-slot : goal.invariant-loop-slot
invariant-loop-slot g l = (l.place ≡ l.slot-index) × NoneBefore l.kind (kinds_of (slots_of g.B.Bus.told l.lent)) l.slot-index
