-- The numbers before the index are copied.
use Rattle.std.proofs.Common.{◌≡◌, take}
use Rattle.derive_build.proofs.settled.copied.Given as goal

abbrev pub invariant-loop-number : goal.invariant-loop-number
invariant-loop-number l = l.made.items ≡ take l.number-index l.numbers
