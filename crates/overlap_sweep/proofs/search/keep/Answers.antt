-- What is kept of the members up to the next one.
use Rattle.overlap_sweep.proofs.Searching.{keeps-same, keeps-more}
use Rattle.overlap_sweep.proofs.search.keep.Goals as goal

pub returns-in_ok-insert : goal.returns-in_ok-insert
returns-in_ok-insert c = keeps-more c.args.spots.now c.args.place c.args.spot.now c.requires.place c.args.seen.now.entries c.insert.new.self.entries c.args.rank c.requires.rank c.if-not-spot.true c.requires.keeps c.in_ok-insert.ensures.updates.0

pub returns-else-not-spot : goal.returns-else-not-spot
returns-else-not-spot c = keeps-same c.args.spots.now c.args.place c.args.spot.now c.requires.place c.args.seen.now.entries c.if-not-spot.false c.requires.keeps
