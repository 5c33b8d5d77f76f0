use Rattle.std.proofs.Common.{◌≡◌, length}
use Rattle.glob_select.specs.Reading.{alternatives_of}
use Rattle.glob_select.specs.Matching.{matches}
use Rattle.glob_select.proofs.pattern.Pattern.matches.Given as goal

abbrev pub invariant-loop-after : goal.invariant-loop-after
invariant-loop-after l = matches (alternatives_of l.rest) l.name ≡ matches l.self l.name

abbrev pub decreases-loop-after : goal.decreases-loop-after
decreases-loop-after l = length l.rest
