-- The words before the index are copied.
use Rattle.std.proofs.Common.{◌≡◌, take}
use Rattle.derive_build.proofs.copies.copied_words.Given as goal

abbrev pub invariant-loop-word : goal.invariant-loop-word
invariant-loop-word l = l.made ≡ take l.word-index l.word-items
