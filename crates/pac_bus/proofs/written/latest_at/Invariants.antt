-- The byte is the latest of the entries so far.
use Rattle.std.proofs.Common.{◌≡◌, take}
use Rattle.pac_bus.specs.Stores.{latest}
use Rattle.pac_bus.proofs.written.latest_at.Given as goal

abbrev pub invariant-loop-entry : goal.invariant-loop-entry
invariant-loop-entry l = l.byte ≡ latest 0 (take l.entry-index l.written) l.address
