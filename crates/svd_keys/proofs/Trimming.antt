-- A text without the white space at its end, by its last byte.
use Rattle.std.proofs.Common.{◌≡◌, ◌<◌, ℕ, ◌+◌, ◌-◌, true, false, List, [], ◌∷◌, ◌++◌, length, take, get_or, sym, ap, ◌∙◌, arith}
use Rattle.std.specs.Prelude.{reverse}
use Rattle.std.proofs.lemmas.List.{take_more, take_all, reverse-append, reverse-reverse}
use Rattle.text_scan.specs.declared.class.Class.TheVariants.{Blank}
use Rattle.text_scan.specs.Classes.{has}
use Rattle.text_scan.specs.Fronts.{rest_of}
use Rattle.svd_keys.specs.Texts.{before_blanks}

last_apart : (text : List ℕ) → 0 < length text → text ≡ take (length text - 1) text ++ get_or text (length text - 1) 0 ∷ []
last_apart text some =
    let whole : take (length text - 1 + 1) text ≡ text = take_all (length text - 1 + 1) text (omega arith) in
    sym whole ∙ take_more text (length text - 1) 0 (omega arith)

blank_off : (text : List ℕ) (byte : ℕ) → has Blank byte ≡ true → before_blanks (text ++ byte ∷ []) ≡ before_blanks text
unfolding before_blanks rest_of
blank_off text byte blank = ap (λ (t : List ℕ). reverse (rest_of (has Blank) t)) (reverse-append text (byte ∷ [])) ∙ rw blank refl
  where
    refl : reverse (rest_of (has Blank) (reverse text)) ≡ reverse (rest_of (has Blank) (reverse text))
    refl = λ i. reverse (rest_of (has Blank) (reverse text))

other_kept : (text : List ℕ) (byte : ℕ) → has Blank byte ≡ false → before_blanks (text ++ byte ∷ []) ≡ text ++ byte ∷ []
unfolding before_blanks rest_of
other_kept text byte other =
    let kept : reverse (rest_of (has Blank) (byte ∷ reverse text)) ≡ reverse (byte ∷ reverse text) = rw other (λ i. reverse (byte ∷ reverse text)) in
    ap (λ (t : List ℕ). reverse (rest_of (has Blank) t)) (reverse-append text (byte ∷ [])) ∙ kept ∙ ap reverse (sym (reverse-append text (byte ∷ []))) ∙ reverse-reverse (text ++ byte ∷ [])

pub blanks_less : (text : List ℕ) → 0 < length text → has Blank (get_or text (length text - 1) 0) ≡ true → before_blanks (take (length text - 1) text) ≡ before_blanks text
blanks_less text some blank = sym (ap before_blanks (last_apart text some) ∙ blank_off (take (length text - 1) text) (get_or text (length text - 1) 0) blank)

pub blanks_same : (text : List ℕ) → 0 < length text → has Blank (get_or text (length text - 1) 0) ≡ false → text ≡ before_blanks text
blanks_same text some other =
    last_apart text some ∙ sym (ap before_blanks (last_apart text some) ∙ other_kept (take (length text - 1) text) (get_or text (length text - 1) 0) other)

pub blanks_nothing : (text : List ℕ) → text ≡ [] → text ≡ before_blanks text
unfolding before_blanks rest_of
blanks_nothing text none = none ∙ sym (ap before_blanks none)
