use Rattle.std.proofs.Common.{◌≡◌, length}
use Rattle.frag_script.specs.Reading.{chain_part_at, run_at}
use Rattle.frag_script.specs.Tokens.{tokens_in}
use Rattle.frag_script.proofs.Runs.{joined}
use Rattle.frag_script.proofs.chain.links.Given as goal

abbrev pub invariant-loop-links : goal.invariant-loop-links
invariant-loop-links l = joined l.links (run_at chain_part_at (tokens_in l.rest)) ≡ run_at chain_part_at (tokens_in l.text)

abbrev pub decreases-loop-links : goal.decreases-loop-links
decreases-loop-links l = length (tokens_in l.rest)
