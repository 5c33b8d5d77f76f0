-- The words that were taken so far are the first ones.
use Rattle.std.specs.Prelude.{◌≡◌, map, take}
use Rattle.pac_words.proofs.command.texts.Given as goal

abbrev pub invariant-loop-word : goal.invariant-loop-word
invariant-loop-word l = map (λ text. text.now) l.texts.items ≡ take l.word-index l.words
