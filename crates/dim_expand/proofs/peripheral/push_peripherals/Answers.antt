-- One group more; at the end they are all.
use Rattle.std.proofs.Common.{map, refl, ◌∙◌, arith}
use Rattle.dim_expand.proofs.Growing.{pushes_none, pushes_more, pushes_whole}
use Rattle.dim_expand.proofs.Stated.{peripheral-dim}
use Rattle.svd_model.specs.Trees.{peripheral_under}
use Rattle.dim_expand.proofs.peripheral.push_peripherals.Goals as goal

pub loop-place-init : goal.loop-place-init
loop-place-init c = λ narrow.
    pushes_none c.args.tally.now.counts.entries c.args.tally.now.counts.entries (map peripheral_under c.args.made.now.entries) (map peripheral_under c.args.made.now.entries) refl refl

pub loop-place-preserved : goal.loop-place-preserved
loop-place-preserved c = λ narrow.
    pushes_more c.args.tally.now.counts.entries c.loop-place.tally.counts.entries c.push_peripheral.new.tally.counts.entries (map peripheral_under c.args.made.now.entries) (map peripheral_under c.loop-place.made.entries) (map peripheral_under c.push_peripheral.new.made.entries) (peripheral_under (c.args.key.now, c.args.element.now)) c.list_count-count.result c.loop-place.place c.group_at.result c.group_at.ensures (c.loop-place.invariant narrow) (c.in_ok-push_peripheral.ensures narrow)

pub returns : goal.returns
returns c = λ narrow.
    pushes_whole c.args.tally.now.counts.entries c.loop-place.tally.counts.entries (map peripheral_under c.args.made.now.entries) (map peripheral_under c.loop-place.made.entries) (peripheral_under (c.args.key.now, c.args.element.now)) c.args.element.now.dim c.list_count-count.result c.loop-place.place refl (peripheral-dim c.args.element.now) c.list_count-count.ensures
    (omega (arith, c.loop-place-test.false, c.loop-place.auto.place-end) ∙ c.unwrap_or-place-end.ensures)
    (c.loop-place.invariant narrow)
