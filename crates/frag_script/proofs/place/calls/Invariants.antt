use Rattle.std.proofs.Common.{◌≡◌, length}
use Rattle.frag_script.specs.Reading.{call_at, run_at}
use Rattle.frag_script.specs.Tokens.{tokens_in}
use Rattle.frag_script.proofs.Runs.{joined}
use Rattle.frag_script.proofs.place.calls.Given as goal

abbrev pub invariant-loop-steps : goal.invariant-loop-steps
invariant-loop-steps l = joined l.steps (run_at call_at (tokens_in l.rest)) ≡ run_at call_at (tokens_in l.text)

abbrev pub decreases-loop-steps : goal.decreases-loop-steps
decreases-loop-steps l = length (tokens_in l.rest)
