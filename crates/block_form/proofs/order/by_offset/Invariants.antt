use Rattle.std.proofs.Common.{◌≡◌, map, take}
use Rattle.block_form.proofs.order.by_offset.Given as goal

abbrev pub invariant-loop-child : goal.invariant-loop-child
invariant-loop-child l = map (λ child. child.now) l.order.items ≡ take l.child-index l.children
