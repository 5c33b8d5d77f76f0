-- The elements before the index stand in the table.
use Rattle.std.proofs.Common.{◌≡◌, take}
use Rattle.derive_build.specs.Tables.{owns_in}
use Rattle.derive_build.proofs.table.unsettled.Given as goal

abbrev pub invariant-loop-own : goal.invariant-loop-own
invariant-loop-own l = owns_in l.made.items ≡ take l.own-index l.owns
