use Rattle.std.proofs.Common.{map, ap}
use Rattle.derive_build.proofs.Listed.{one_more, none_left}
use Rattle.svd_model.specs.Trees.{peripheral_under}
use Rattle.derive_build.proofs.listing.add_peripherals.Goals as goal

pub loop-key-preserved : goal.loop-key-preserved
loop-key-preserved c =
    one_more c.loop-key.owns.items c.add_peripheral.new.owns.items (peripheral_under (c.in-Some.key.now, c.in-Some.peripheral.now)) (map peripheral_under c.loop-key.key-iterator) (map peripheral_under c.next.new.self) _
    (ap (map peripheral_under) c.in-Some.ensures.steps) c.in_ok-add_peripheral.ensures c.loop-key.invariant

pub returns : goal.returns
returns c = none_left c.loop-key.owns.items (map peripheral_under c.loop-key.key-iterator) _ (ap (map peripheral_under) c.in-None.ensures.steps.0) c.loop-key.invariant
