-- The sum of what the events so far wrote.
use Rattle.std.proofs.Common.{◌≡◌, ◌%◌, ◌^◌, take}
use Rattle.std.specs.List.{sum_by}
use Rattle.pac_sample.specs.Summary.{written_by}
use Rattle.pac_sample.proofs.summary.written_sum.Given as goal

abbrev pub invariant-loop-event : goal.invariant-loop-event
invariant-loop-event l = l.sum ≡ sum_by written_by (take l.event-index l.events) % 2 ^ 64
