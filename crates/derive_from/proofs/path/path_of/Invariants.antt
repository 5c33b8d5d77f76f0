-- The names that are left, the last first, go behind the path.
use Rattle.std.proofs.Common.{◌≡◌, ◌++◌, map, reverse, vec_len}
use Rattle.derive_from.specs.Refusals.{written}
use Rattle.derive_from.proofs.path.path_of.Given as goal

abbrev pub invariant-loop-name : goal.invariant-loop-name
invariant-loop-name l = l.path ++ map written (reverse l.left.items) ≡ map written (reverse l.fn.way.items)

abbrev pub decreases-loop-name : goal.decreases-loop-name
decreases-loop-name l = vec_len l.left
