-- What the next one comes to goes last, and at the end it is the whole.
use Rattle.std.proofs.Common.{map, ap, subst}
use Rattle.dim_expand.specs.Narrow.{AreNarrow}
use Rattle.dim_expand.proofs.Growing.{growing_more, growing_done, narrow_first}
use Rattle.svd_model.specs.Trees.{peripheral_under}
use Rattle.svd_rows.specs.Forest.{siblings}
use Rattle.dim_expand.proofs.peripheral.unfolded_peripherals.Goals as goal

pub loop-key-preserved : goal.loop-key-preserved
loop-key-preserved c = λ narrow.
    let so_far = c.loop-key.invariant narrow in
    let left = ap (map peripheral_under) c.in-Some.ensures.steps in
    let parts = narrow_first (peripheral_under (c.in-Some.key.now, c.in-Some.peripheral.now)) (map peripheral_under c.next.new.self) (subst (λ l. AreNarrow (siblings l)) left so_far.1) in (
      growing_more (map peripheral_under c.args.peripherals.now.entries) c.loop-key.tally.counts.entries c.push_peripherals.new.tally.counts.entries (map peripheral_under c.loop-key.made.entries) (map peripheral_under c.push_peripherals.new.made.entries) (map peripheral_under c.loop-key.key-iterator) (map peripheral_under c.next.new.self) (peripheral_under (c.in-Some.key.now, c.in-Some.peripheral.now))
          narrow.0 so_far.0 left (c.in_ok-push_peripherals.ensures parts.0),
      parts.1,
    )

pub returns : goal.returns
returns c = λ narrow.
    growing_done (map peripheral_under c.args.peripherals.now.entries) c.loop-key.tally.counts.entries (map peripheral_under c.loop-key.made.entries) (map peripheral_under c.loop-key.key-iterator) (c.loop-key.invariant narrow).0 (ap (map peripheral_under) c.in-None.ensures.steps.0)
