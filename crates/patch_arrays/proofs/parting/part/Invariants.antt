-- What is parted, and what is left, come to all.
use Rattle.std.specs.Vec.Iter.{into_iter_items}
use Rattle.patch_arrays.proofs.TakenIn.{PartedUpTo}
use Rattle.patch_arrays.specs.Arranging.{is_member}
use Rattle.patch_arrays.specs.Members.{under_key}
use Rattle.patch_arrays.proofs.parting.part.Given as goal

abbrev pub invariant-loop-entry : goal.invariant-loop-entry
invariant-loop-entry g l = PartedUpTo (λ entry. is_member l.pattern (under_key g.M.Member.seen entry)) l.fn.children.items (into_iter_items l.entry-iterator) l.parted
