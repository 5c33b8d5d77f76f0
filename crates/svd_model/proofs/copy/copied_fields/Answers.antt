-- Each key is new, so its entry goes last.
use Rattle.std.proofs.Common.{ap₂}
use Rattle.svd_model.specs.Steps.{field}
use Rattle.svd_model.specs.Trees.{field_under, step_of}
use Rattle.svd_model.proofs.Copies.{copied_more, sibling_eq, sibling_eq-turns}
use Rattle.svd_model.proofs.copy.copied_fields.Goals as goal

pub loop-key-preserved : goal.loop-key-preserved
loop-key-preserved c =
    copied_more sibling_eq field_under c.args.fields.now.entries c.loop-key.made.entries c.loop-key.key-iterator c.next.new.self c.insert.new.self.entries c.in_ok-key.key c.in_ok-field.field (c.in-Some.key.now, c.in-Some.field.now) sibling_eq-turns
    c.into_iter-key-iterator.ensures.into_iter_gives.4
    c.loop-key.invariant
    c.in-Some.ensures.steps
    c.in_ok-key.ensures
    (ap₂ (λ key tree. (step_of field key, tree)) c.in_ok-key.ensures c.in_ok-field.ensures)
    c.in_ok-insert.ensures.entries

pub loop-key-preserved-in_ok-insert : goal.loop-key-preserved-in_ok-insert
loop-key-preserved-in_ok-insert c =
    copied_more sibling_eq field_under c.args.fields.now.entries c.loop-key.made.entries c.loop-key.key-iterator c.next.new.self c.insert.new.self.entries c.in_ok-key.key c.in_ok-field.field (c.in-Some.key.now, c.in-Some.field.now) sibling_eq-turns
    c.into_iter-key-iterator.ensures.into_iter_gives.4
    c.loop-key.invariant
    c.in-Some.ensures.steps
    c.in_ok-key.ensures
    (ap₂ (λ key tree. (step_of field key, tree)) c.in_ok-key.ensures c.in_ok-field.ensures)
    c.in_ok-insert.ensures.entries
