-- The member of a rank is met, or those of the next ranks are sought.
use Rattle.std.proofs.Common.{sym, ◌∙◌, arith}
use Rattle.std.specs.Prelude.{take}
use Rattle.overlap_sweep.specs.Search.{block_of}
use Rattle.overlap_sweep.proofs.Searching.{found_at, none_at, sought-met, sought-on, sought-free, sought-end}
use Rattle.overlap_sweep.proofs.search.seek.Goals as goal

pub returns-then-meets_at : goal.returns-then-meets_at
returns-then-meets_at c =
    sought-met c.args.spots.now c.args.place c.args.spot.now c.requires.even c.requires.place c.loop-rank.rank c.loop-rank.invariant.left c.in-Some.earlier.now
    (found_at (take c.args.place c.args.spots.now) c.args.seen.now.entries c.requires.keeps (block_of c.args.spot.now) c.loop-rank.rank c.in-Some.earlier.now c.in-Some.ensures.value)
    (sym c.meets_at.ensures ∙ c.if-meets_at.true)

pub returns-in-None : goal.returns-in-None
returns-in-None c =
    sought-free c.args.spots.now c.args.place c.args.spot.now c.requires.even c.requires.place c.loop-rank.rank c.loop-rank.invariant.left
    (none_at (take c.args.place c.args.spots.now) c.args.seen.now.entries c.requires.keeps (block_of c.args.spot.now) c.loop-rank.rank c.in-None.ensures.value)
    c.loop-rank.invariant.within

pub loop-rank-preserved : goal.loop-rank-preserved
loop-rank-preserved c =
    let on = sought-on c.args.spots.now c.args.place c.args.spot.now c.requires.even c.requires.place c.loop-rank.rank c.loop-rank.invariant.left c.in-Some.earlier.now
    (found_at (take c.args.place c.args.spots.now) c.args.seen.now.entries c.requires.keeps (block_of c.args.spot.now) c.loop-rank.rank c.in-Some.earlier.now c.in-Some.ensures.value)
    (sym c.meets_at.ensures ∙ c.if-meets_at.false) in
    record { left = on.0; within = on.1 }

pub returns : goal.returns
returns c =
    sought-end c.args.spots.now c.args.place c.args.spot.now c.requires.even c.requires.place c.loop-rank.rank c.loop-rank.invariant.left (omega (arith, c.loop-rank-test.false, c.loop-rank.auto.rank-end)) c.loop-rank.invariant.within
