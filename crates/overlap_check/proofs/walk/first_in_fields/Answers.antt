-- The next field, and those behind it.
use Rattle.std.proofs.Common.{[], None, Some, cond, map, sym, ap, ◌∙◌}
use Rattle.overlap_check.specs.Walks.{first_in, named}
use Rattle.overlap_check.proofs.Firsts.{found_as, passed, stopped, nothing_left, field-fails}
use Rattle.svd_model.specs.Trees.{field_under}
use Rattle.svd_rows.specs.Forest.{siblings}
use Rattle.overlap_check.proofs.walk.first_in_fields.Goals as goal

pub returns-then-fails_field : goal.returns-then-fails_field
returns-then-fails_field c =
    found_as c.found_round.result _ _
    (ap (λ inner. named c.in-Some.key.now.name (Some inner)) c.new.ensures
    ∙ sym
    (c.loop-key.invariant
    ∙ ap (λ entries. first_in c.args.rule c.args.outer.now (siblings (map field_under entries))) c.in-Some.ensures.steps
    ∙ stopped field_under c.args.rule c.args.outer.now (c.in-Some.key.now, c.in-Some.field.now) c.next.new.self _
    (field-fails c.args.rule c.args.outer.now c.in-Some.key.now c.in-Some.field.now
    ∙ ap (λ b. named c.in-Some.key.now.name (cond b (Some []) None)) (sym c.fails_field.ensures ∙ c.if-fails_field.true))))
    c.found_round.ensures

pub loop-key-preserved : goal.loop-key-preserved
loop-key-preserved c =
    c.loop-key.invariant
    ∙ ap (λ entries. first_in c.args.rule c.args.outer.now (siblings (map field_under entries))) c.in-Some.ensures.steps
    ∙ passed field_under c.args.rule c.args.outer.now (c.in-Some.key.now, c.in-Some.field.now) c.next.new.self
    (field-fails c.args.rule c.args.outer.now c.in-Some.key.now c.in-Some.field.now
    ∙ ap (λ b. named c.in-Some.key.now.name (cond b (Some []) None)) (sym c.fails_field.ensures ∙ c.if-fails_field.false))

pub returns : goal.returns
returns c =
    sym (c.loop-key.invariant ∙ nothing_left field_under c.args.rule c.args.outer.now c.loop-key.key-iterator c.in-None.ensures.steps.0)
