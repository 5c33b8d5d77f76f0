-- The walk stands at each step, and can go on.
use Rattle.std.specs.Prelude.{reverse}
use Rattle.derive_order.specs.Gone.{Stands}
use Rattle.derive_order.specs.Walking.{Goes, left_of}
use Rattle.derive_order.proofs.gone.walked.Given as goal

abbrev pub ghost-new : goal.ghost-new
ghost-new g a = g.children

abbrev pub ghost-go : goal.ghost-go
ghost-go g a = g.children

abbrev pub invariant-loop-step : goal.invariant-loop-step
invariant-loop-step g l = record {
  stands : Stands l.elements l.keys g.children l.walk;
  goes : Goes l.elements l.walk.done.items l.walk.current (reverse l.todo.items);
}

abbrev pub decreases-loop-step : goal.decreases-loop-step
decreases-loop-step g l = left_of l.elements l.walk l.todo.items
