-- What was met and what is left decide as all entries do.
use Rattle.std.proofs.Common.{◌≡◌, false}
use Rattle.patch_changes.specs.Listed.{entry_comes_to, twice}
use Rattle.patch_changes.proofs.entries.clash.Given as goal

abbrev pub invariant-loop-key : goal.invariant-loop-key
invariant-loop-key g l = twice (entry_comes_to l.pattern l.name) l.seen l.key-iterator ≡ twice (entry_comes_to l.pattern l.name) false l.entries.entries
