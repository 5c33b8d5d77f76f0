-- The first way gets shorter.
use Rattle.std.proofs.Common.{length}
use Rattle.overlap_sweep.proofs.spot.+parts.Given as goal

abbrev pub decreases-parts : goal.decreases-parts
decreases-parts l = length l.one.now
