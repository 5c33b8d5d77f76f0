use Rattle.std.proofs.Common.{◌≡◌, [], ◌∷◌, length}
use Rattle.yaml_block.specs.Reading.{with_front}
use Rattle.yaml_block.specs.Values.{more_texts_at}
use Rattle.yaml_block.proofs.flow.more_texts.Given as goal

abbrev pub invariant-texts : goal.invariant-texts
invariant-texts l = with_front l.texts (more_texts_at l.rest) ≡ with_front (l.fn.first ∷ []) (more_texts_at l.text)

abbrev pub decreases-texts : goal.decreases-texts
decreases-texts l = length l.rest
