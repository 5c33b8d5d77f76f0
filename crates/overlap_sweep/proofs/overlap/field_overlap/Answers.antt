-- The fields of the next member, and of those behind it.
use Rattle.std.proofs.Common.{◌+◌, drop, sym, ap, ◌∙◌}
use Rattle.overlap_sweep.specs.Sought.{shared_in}
use Rattle.overlap_sweep.proofs.Overlapping.{shared-some, shared-none, shared-end}
use Rattle.svd_model.proofs.Lists.{from_place, drop_past}
use Rattle.overlap_sweep.proofs.overlap.field_overlap.Goals as goal

pub returns-in-Some : goal.returns-in-Some
returns-in-Some c =
    let left = from_place c.args.spots.now c.loop-spot.spot-index c.spot-item.result c.loop-spot-test.true c.spot-item.is in
    sym (c.loop-spot.invariant ∙ ap shared_in left ∙ shared-some c.spot-item.result (drop (c.loop-spot.spot-index + 1) c.args.spots.now) c.as_slice.result.now c.in-Some.overlap c.as_slice.ensures (sym c.in-Some.is ∙ c.in_ok-found.ensures))

pub loop-spot-preserved : goal.loop-spot-preserved
loop-spot-preserved c =
    let left = from_place c.args.spots.now c.loop-spot.spot-index c.spot-item.result c.loop-spot-test.true c.spot-item.is in
    c.loop-spot.invariant ∙ ap shared_in left ∙ shared-none c.spot-item.result (drop (c.loop-spot.spot-index + 1) c.args.spots.now) c.as_slice.result.now c.as_slice.ensures (sym c.in_default.is ∙ c.in_ok-found.ensures)

pub returns : goal.returns
returns c = sym (c.loop-spot.invariant ∙ ap shared_in (drop_past c.args.spots.now c.loop-spot.spot-index c.loop-spot-test.false) ∙ shared-end)
