use Rattle.std.proofs.Common.{sym, subst}
use Rattle.std.specs.List.{AllByRecursion}
use Rattle.crate_form.specs.Elements.{HasName}
use Rattle.crate_form.proofs.register.some_names.Goals as goal

pub loop-key-init : goal.loop-key-init
loop-key-init c = subst (AllByRecursion HasName) c.into_iter-key-iterator.ensures.into_iter_gives.0

pub loop-key-preserved : goal.loop-key-preserved
loop-key-preserved c = λ others. c.loop-key.invariant (subst (AllByRecursion HasName) (sym c.in-Some.ensures.steps) (c.some_name.ensures, others))

pub returns : goal.returns
returns c = c.loop-key.invariant (subst (AllByRecursion HasName) (sym c.in-None.ensures.steps.0) tt)
