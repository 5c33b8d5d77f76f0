-- The next field, and those behind it.
use Rattle.std.proofs.Common.{None, Some, map, sym, ap, ◌∙◌}
use Rattle.dim_expand.specs.Walks.{first_in, found_here, named}
use Rattle.dim_expand.proofs.Firsts.{found_as, passed, stopped, nothing_left, field-first}
use Rattle.svd_model.specs.Trees.{field_under}
use Rattle.svd_rows.specs.Forest.{siblings}
use Rattle.dim_expand.proofs.walk.first_in_fields.Goals as goal

pub returns-in-Some-dim_cause : goal.returns-in-Some-dim_cause
returns-in-Some-dim_cause c =
    found_as c.round.result _ _
    ((λ i. named c.in-Some.key.now.name (Some (record { inner = c.itself.ensures.inner i; cause = c.itself.ensures.cause i })))
    ∙ sym
    (c.loop-key.invariant
    ∙ ap (λ entries. first_in (siblings (map field_under entries))) c.in-Some.ensures.steps
    ∙ stopped field_under (c.in-Some.key.now, c.in-Some.field.now) c.next.new.self _
    (field-first c.in-Some.key.now c.in-Some.field.now
    ∙ ap (λ cause. named c.in-Some.key.now.name (found_here cause None)) (sym c.dim_cause.ensures ∙ c.in-Some-dim_cause.is))))
    c.round.ensures

pub loop-key-preserved : goal.loop-key-preserved
loop-key-preserved c =
    c.loop-key.invariant
    ∙ ap (λ entries. first_in (siblings (map field_under entries))) c.in-Some.ensures.steps
    ∙ passed field_under (c.in-Some.key.now, c.in-Some.field.now) c.next.new.self
    (field-first c.in-Some.key.now c.in-Some.field.now
    ∙ ap (λ cause. named c.in-Some.key.now.name (found_here cause None)) (sym c.dim_cause.ensures ∙ c.in_default.is))

pub returns : goal.returns
returns c =
    sym (c.loop-key.invariant ∙ nothing_left field_under c.loop-key.key-iterator c.in-None.ensures.steps.0)
