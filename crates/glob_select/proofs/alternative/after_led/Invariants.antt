use Rattle.std.proofs.Common.{◌≡◌, length}
use Rattle.glob_select.specs.Reading.{after_led}
use Rattle.glob_select.proofs.alternative.after_led.Given as goal

abbrev pub invariant-loop-after : goal.invariant-loop-after
invariant-loop-after l = after_led l.rest ≡ after_led l.text

abbrev pub decreases-loop-after : goal.decreases-loop-after
decreases-loop-after l = length l.rest
