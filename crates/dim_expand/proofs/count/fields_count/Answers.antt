-- One more is counted, and then all are.
use Rattle.std.proofs.Common.{map, ap}
use Rattle.dim_expand.proofs.Counting.{counted_more, counted_all, typed_all}
use Rattle.svd_model.specs.Trees.{field_under}
use Rattle.dim_expand.proofs.count.fields_count.Goals as goal

pub loop-key-preserved : goal.loop-key-preserved
loop-key-preserved c =
    counted_more c.args.counted (map field_under c.args.fields.now.entries) (map field_under c.loop-key.key-iterator) (map field_under c.next.new.self) (field_under (c.in-Some.key.now, c.in-Some.field.now)) c.loop-key.total c.field_count.result c.saturating_add-total.result
    c.loop-key.invariant (ap (map field_under) c.in-Some.ensures.steps) c.field_count.ensures.count c.saturating_add-total.ensures c.field_count.ensures.typed

pub returns-clause-count : goal.returns-clause-count
returns-clause-count c =
    counted_all c.args.counted (map field_under c.args.fields.now.entries) (map field_under c.loop-key.key-iterator) c.loop-key.total c.loop-key.invariant (ap (map field_under) c.in-None.ensures.steps.0)

pub returns-clause-typed : goal.returns-clause-typed
returns-clause-typed c =
    typed_all c.args.counted (map field_under c.args.fields.now.entries) (map field_under c.loop-key.key-iterator) c.loop-key.total c.loop-key.invariant (ap (map field_under) c.in-None.ensures.steps.0)
