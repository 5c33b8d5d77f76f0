-- A block behind white space is what the reader strips, and the other way round.
use Rattle.std.proofs.Common.{◌≡◌, ℕ, ◌+◌, ◌≤◌, List, ◌++◌, length, Some, sym, ap, ◌∙◌, arith}
use Rattle.std.proofs.lemmas.List.{length-append}
use Rattle.text_scan.specs.declared.class.Class.TheVariants.{Blank}
use Rattle.text_scan.specs.Classes.{has}
use Rattle.text_scan.specs.Fronts.{StopsAt, front_of, rest_of, stripped_of}
use Rattle.text_scan.specs.Follows.{Follows, after_block}
use Rattle.text_scan.proofs.Fronts.{front-rest, front_passes, rest-append}
use Rattle.text_scan.proofs.FixedText.{stripped-append, stripped-Some}

pub block_takes : (block text rest : List ℕ) → after_block block text ≡ Some rest → Follows block text rest
unfolding after_block
block_takes block text rest e = record {
  gap = front_of (has Blank) text;
  white = front_passes (has Blank) text;
  whole = sym (front-rest (has Blank) text) ∙ ap (λ (t : List ℕ). front_of (has Blank) text ++ t) (stripped-Some block (rest_of (has Blank) text) rest e);
}

-- whatever follows the block, white space ends where the block begins
abbrev pub IsSolid : List ℕ → Type 0
IsSolid block = (rest : List ℕ) → StopsAt (has Blank) (block ++ rest)

pub block_again : (block text rest : List ℕ) → IsSolid block → Follows block text rest → after_block block text ≡ Some rest
unfolding after_block
block_again block text rest solid follows =
    ap (λ (t : List ℕ). stripped_of block (rest_of (has Blank) t)) follows.whole
    ∙ ap (stripped_of block) (rest-append (has Blank) follows.gap (block ++ rest) follows.white (solid rest))
    ∙ stripped-append block rest

pub Follows-length : (block text rest : List ℕ) → Follows block text rest → length block + length rest ≤ length text
Follows-length block text rest follows =
    omega (arith, ap length follows.whole, length-append follows.gap (block ++ rest), length-append block rest)
