use Rattle.std.proofs.Common.{◌≡◌, ◌+◌, length}
use Rattle.frag_script.specs.Reading.{negations, after_negations}
use Rattle.frag_script.specs.Tokens.{tokens_in}
use Rattle.frag_script.proofs.value.split_negations.Given as goal

abbrev pub invariant-loop-after : goal.invariant-loop-after
invariant-loop-after l = (l.count + negations (tokens_in l.rest) ≡ negations (tokens_in l.text)) × (after_negations (tokens_in l.rest) ≡ after_negations (tokens_in l.text))

abbrev pub decreases-loop-after : goal.decreases-loop-after
decreases-loop-after l = length (tokens_in l.rest)
