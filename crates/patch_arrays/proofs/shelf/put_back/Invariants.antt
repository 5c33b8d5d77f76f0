-- What is put in, and what is left, come to all.
use Rattle.std.specs.Vec.Iter.{into_iter_items}
use Rattle.std.proofs.Common.{◌≡◌, ◌++◌}
use Rattle.patch_arrays.proofs.shelf.put_back.Given as goal

abbrev pub invariant-loop-key : goal.invariant-loop-key
invariant-loop-key g l = l.made.entries ++ into_iter_items l.key-iterator ≡ l.fn.entries.items
