-- One more is counted, and then all are.
use Rattle.std.proofs.Common.{map, ap}
use Rattle.dim_expand.proofs.Counting.{counted_more, counted_all, typed_all}
use Rattle.svd_model.specs.Trees.{peripheral_under}
use Rattle.dim_expand.proofs.count.peripherals_count.Goals as goal

pub loop-key-preserved : goal.loop-key-preserved
loop-key-preserved c =
    counted_more c.args.counted (map peripheral_under c.args.peripherals.now.entries) (map peripheral_under c.loop-key.key-iterator) (map peripheral_under c.next.new.self) (peripheral_under (c.in-Some.key.now, c.in-Some.peripheral.now)) c.loop-key.total c.peripheral_count.result c.saturating_add-total.result
    c.loop-key.invariant (ap (map peripheral_under) c.in-Some.ensures.steps) c.peripheral_count.ensures.count c.saturating_add-total.ensures c.peripheral_count.ensures.typed

pub returns-clause-count : goal.returns-clause-count
returns-clause-count c =
    counted_all c.args.counted (map peripheral_under c.args.peripherals.now.entries) (map peripheral_under c.loop-key.key-iterator) c.loop-key.total c.loop-key.invariant (ap (map peripheral_under) c.in-None.ensures.steps.0)

pub returns-clause-typed : goal.returns-clause-typed
returns-clause-typed c =
    typed_all c.args.counted (map peripheral_under c.args.peripherals.now.entries) (map peripheral_under c.loop-key.key-iterator) c.loop-key.total c.loop-key.invariant (ap (map peripheral_under) c.in-None.ensures.steps.0)
