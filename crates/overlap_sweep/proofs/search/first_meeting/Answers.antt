-- The next member is met by one before it, or is kept.
use Rattle.std.proofs.Common.{length, [], refl, sym, ap, subst, ◌∙◌}
use Rattle.std.specs.Prelude.{take}
use Rattle.std.proofs.lemmas.Option.{slice_get_read, slice_get_past}
use Rattle.overlap_sweep.specs.Search.{Keeps, first_pair}
use Rattle.overlap_sweep.specs.Sought.{IsMeeting}
use Rattle.overlap_sweep.specs.Spots.{meets}
use Rattle.overlap_sweep.proofs.Searching.{drop-beyond, keeps-nothing, pair-none, pair-some, pair-end, met_parts, free_parts}
use Rattle.overlap_sweep.proofs.search.first_meeting.Goals as goal

pub loop-place-init : goal.loop-place-init
loop-place-init c = record {
  left = refl;
  keeps = subst (Keeps []) (sym c.new-seen.ensures.empty) keeps-nothing;
}

pub seek-requires-clause-place : goal.seek-requires-clause-place
seek-requires-clause-place c = slice_get_read c.args.spots.now (length c.args.spots.now) c.loop-place.place c.index-spots-place.result refl c.loop-place-test.true c.index-spots-place.is

pub keep-requires-clause-place : goal.keep-requires-clause-place
keep-requires-clause-place c = slice_get_read c.args.spots.now (length c.args.spots.now) c.loop-place.place c.index-spots-place.result refl c.loop-place-test.true c.index-spots-place.is

pub returns-in-Met : goal.returns-in-Met
unfolding IsMeeting
returns-in-Met c =
    let here = slice_get_read c.args.spots.now (length c.args.spots.now) c.loop-place.place c.index-spots-place.result refl c.loop-place-test.true c.index-spots-place.is in
    let met = met_parts c.args.spots.now c.loop-place.place c.index-spots-place.result c.seek.result c.in-Met.first c.in-Met.is c.seek.ensures in (
      met.0,
      c.index-spots-place.result,
      met.1,
      here,
      c.loop-place.invariant.left ∙ pair-some c.args.spots.now c.loop-place.place c.index-spots-place.result met.0 here met.2,
    )

pub keep-requires-clause-rank : goal.keep-requires-clause-rank
keep-requires-clause-rank c = (free_parts c.args.spots.now c.loop-place.place c.index-spots-place.result c.seek.result c.in-Free.rank c.in-Free.is c.seek.ensures).1

pub loop-place-preserved : goal.loop-place-preserved
loop-place-preserved c =
    let here = slice_get_read c.args.spots.now (length c.args.spots.now) c.loop-place.place c.index-spots-place.result refl c.loop-place-test.true c.index-spots-place.is in
    let free = free_parts c.args.spots.now c.loop-place.place c.index-spots-place.result c.seek.result c.in-Free.rank c.in-Free.is c.seek.ensures in
    record {
      left = c.loop-place.invariant.left ∙ pair-none c.args.spots.now c.loop-place.place c.index-spots-place.result here free.0;
      keeps = c.in_ok-keep-in-Free.ensures;
    }

pub returns : goal.returns
unfolding IsMeeting
returns c =
    c.loop-place.invariant.left
    ∙ ap (first_pair meets (take c.loop-place.place c.args.spots.now)) (drop-beyond c.args.spots.now c.loop-place.place (slice_get_past c.args.spots.now c.loop-place.place c.loop-place-test.false))
    ∙ pair-end (take c.loop-place.place c.args.spots.now)
