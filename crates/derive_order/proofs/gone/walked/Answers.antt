use Rattle.std.proofs.Common.{◌∙◌, ◌++◌, List, Vec, Option, Some, ℕ, ap, map, length}
use Rattle.derive_order.proofs.Meeting.{begins_at}
use Rattle.need_order.specs.Children.{items_at}
use Rattle.derive_order.proofs.gone.walked.Goals as goal

pub loop-step-init : goal.loop-step-init
loop-step-init g c = record {
  stands = c.in_ok-walk.ensures.stands;
  goes = begins_at c.args.elements.now c.in_ok-begun.begun.items c.requires.1.1 c.in_ok-begun.ensures c.in_ok-walk.walk c.add_steps.new.todo.items c.list_at.result.now c.in_ok-walk.ensures.at
      (c.list_at.ensures ∙ ap (λ (lists : List (Vec ℕ _)). items_at lists (length c.args.elements.now)) c.as_slice.ensures.value)
      (c.in_ok-add_steps.ensures ∙ ap (λ (xs : List (Option ℕ)). xs ++ map Some c.list_at.result.now) c.new-todo.ensures.items);
}
