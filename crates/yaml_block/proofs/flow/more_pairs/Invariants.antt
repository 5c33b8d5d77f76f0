use Rattle.std.proofs.Common.{◌≡◌, [], ◌∷◌, length}
use Rattle.yaml_block.specs.Reading.{with_front}
use Rattle.yaml_block.specs.Values.{more_pairs_at}
use Rattle.yaml_block.proofs.flow.more_pairs.Given as goal

abbrev pub invariant-pairs : goal.invariant-pairs
invariant-pairs l = with_front l.pairs (more_pairs_at l.rest) ≡ with_front (l.fn.first ∷ []) (more_pairs_at l.text)

abbrev pub decreases-pairs : goal.decreases-pairs
decreases-pairs l = length l.rest
