-- The flags are those of as many levels as there were rounds.
use Rattle.need_order.specs.Children.{Flags}
use Rattle.std.proofs.Common.{length}
use Rattle.need_order.proofs.depth.deep.Given as goal

abbrev pub ghost-deeper : goal.ghost-deeper
ghost-deeper g a = g.children

abbrev pub invariant-loop-level : goal.invariant-loop-level
invariant-loop-level g l = Flags g.children (length l.elements) l._level l.flags.items
