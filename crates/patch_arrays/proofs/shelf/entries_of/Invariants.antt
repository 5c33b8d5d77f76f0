-- What is taken out, and what is left, come to all.
use Rattle.std.proofs.Common.{◌≡◌, ◌++◌}
use Rattle.patch_arrays.proofs.shelf.entries_of.Given as goal

abbrev pub invariant-loop-entry : goal.invariant-loop-entry
invariant-loop-entry g l = l.entries.items ++ l.entry-iterator ≡ l.fn.children.entries
