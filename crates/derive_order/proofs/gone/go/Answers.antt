use Rattle.std.proofs.Common.{◌∙◌, ◌∷◌, true, Option, ℕ, get_or, ap, subst, sym}
use Rattle.std.proofs.lemmas.Result.{on_ok_weaker}
use Rattle.std.specs.Prelude.{reverse}
use Rattle.derive_order.specs.Walking.{Goes}
use Rattle.derive_order.proofs.Meeting.{entered, left_at, less_by, may_enter, never_up, passed_over}
use Rattle.derive_order.proofs.gone.go.Goals as goal

pub returns-then-is_met-clause-goes : goal.returns-then-is_met-clause-goes
returns-then-is_met-clause-goes g c =
    let walk = c.args.walk.now in
    passed_over c.args.elements.now walk.done.items walk.current c.in-Some.number (reverse c.args.todo.now.items)
    (subst (λ (step : Option ℕ). Goes c.args.elements.now walk.done.items walk.current (step ∷ reverse c.args.todo.now.items)) c.in-Some.is c.requires.1.1.1.1.1)
    (ap (λ done. get_or done c.in-Some.number true) (sym c.as_slice.ensures.value) ∙ sym c.is_met.ensures ∙ c.if-is_met.true)
    c.requires.1.1.1.1.0.done_long

pub enter-requires : goal.enter-requires
enter-requires g c =
    let walk = c.args.walk.now in
    let may = may_enter c.args.elements.now walk.done.items walk.current c.in-Some.number (reverse c.args.todo.now.items)
    (subst (λ (step : Option ℕ). Goes c.args.elements.now walk.done.items walk.current (step ∷ reverse c.args.todo.now.items)) c.in-Some.is c.requires.1.1.1.1.1) in
    (c.requires.0, (c.requires.1.0, (c.requires.1.1.1.1.0, (may.0, may.1))))

pub returns-in_ok-push-in-Some-clause-goes : goal.returns-in_ok-push-in-Some-clause-goes
returns-in_ok-push-in-Some-clause-goes g c =
    let walk = c.args.walk.now in
    on_ok_weaker c.add_steps.result (λ added.
    entered c.args.elements.now c.requires.1.1.0 c.args.begun.now c.requires.1.1.1.0 walk c.enter.new.self c.in-Some.number c.args.todo.now.items c.push.new.self.items c.add_steps.new.todo.items c.list_at.result.now
    (subst (λ (step : Option ℕ). Goes c.args.elements.now walk.done.items walk.current (step ∷ reverse c.args.todo.now.items)) c.in-Some.is c.requires.1.1.1.1.1)
    c.requires.1.1.1.1.0.done_long c.in_ok-enter-in-Some.ensures.at c.in_ok-push-in-Some.ensures.items c.list_at.ensures added) c.add_steps.ensures

pub returns-in_ok-push-in-Some-clause-less : goal.returns-in_ok-push-in-Some-clause-less
returns-in_ok-push-in-Some-clause-less g c =
    let walk = c.args.walk.now in
    let may = may_enter c.args.elements.now walk.done.items walk.current c.in-Some.number (reverse c.args.todo.now.items)
    (subst (λ (step : Option ℕ). Goes c.args.elements.now walk.done.items walk.current (step ∷ reverse c.args.todo.now.items)) c.in-Some.is c.requires.1.1.1.1.1) in
    on_ok_weaker c.add_steps.result (λ added.
    less_by c.args.elements.now c.args.begun.now c.requires.1.1.1.0 walk c.enter.new.self c.in-Some.number c.args.todo.now.items c.push.new.self.items c.add_steps.new.todo.items c.list_at.result.now may.0
    (ap (λ done. get_or done c.in-Some.number true) (sym c.as_slice.ensures.value) ∙ sym c.is_met.ensures ∙ c.if-is_met.false)
    c.in_ok-enter-in-Some.ensures.at c.in_ok-push-in-Some.ensures.items c.list_at.ensures added) c.add_steps.ensures

pub returns-in-Some-current-clause-goes : goal.returns-in-Some-current-clause-goes
returns-in-Some-current-clause-goes g c =
    let walk = c.args.walk.now in
    on_ok_weaker c.leave.result (λ at.
    left_at c.args.elements.now walk c.leave.new.self c.in-Some-current.number (reverse c.args.todo.now.items) c.in-Some-current.is
    (subst (λ (step : Option ℕ). Goes c.args.elements.now walk.done.items walk.current (step ∷ reverse c.args.todo.now.items)) c.in-None.is c.requires.1.1.1.1.1) at) c.leave.ensures.at

pub returns-in-None-current-clause-goes : goal.returns-in-None-current-clause-goes
returns-in-None-current-clause-goes g c =
    let walk = c.args.walk.now in
    absurd (never_up c.args.elements.now walk.done.items walk.current (reverse c.args.todo.now.items) c.in-None-current.is
    (subst (λ (step : Option ℕ). Goes c.args.elements.now walk.done.items walk.current (step ∷ reverse c.args.todo.now.items)) c.in-None.is c.requires.1.1.1.1.1))
