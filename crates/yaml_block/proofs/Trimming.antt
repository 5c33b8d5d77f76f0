-- A text without the spaces at its end, by its last byte.
use Rattle.std.proofs.Common.{◌≡◌, ◌<◌, ℕ, ◌+◌, ◌-◌, true, false, eqb, List, [], ◌∷◌, ◌++◌, length, take, get_or, refl, sym, ap, ◌∙◌, arith}
use Rattle.std.specs.Prelude.{reverse}
use Rattle.std.proofs.lemmas.List.{take_more, take_all, reverse-append, reverse-reverse}
use Rattle.text_scan.specs.Fronts.{rest_of}
use Rattle.yaml_block.specs.Spaces.{is_space, trimmed}

pub last_apart : (text : List ℕ) → 0 < length text → text ≡ take (length text - 1) text ++ get_or text (length text - 1) 0 ∷ []
last_apart text some =
    let whole : take (length text - 1 + 1) text ≡ text = take_all (length text - 1 + 1) text (omega arith) in
    sym whole ∙ take_more text (length text - 1) 0 (omega arith)

trimmed-space : (text : List ℕ) (byte : ℕ) → eqb byte 32 ≡ true → trimmed (text ++ byte ∷ []) ≡ trimmed text
unfolding trimmed rest_of
trimmed-space text byte space = ap (λ (t : List ℕ). reverse (rest_of is_space t)) (reverse-append text (byte ∷ [])) ∙ rw space refl

trimmed-other : (text : List ℕ) (byte : ℕ) → eqb byte 32 ≡ false → trimmed (text ++ byte ∷ []) ≡ text ++ byte ∷ []
unfolding trimmed rest_of
trimmed-other text byte other =
    let kept : reverse (rest_of is_space (byte ∷ reverse text)) ≡ reverse (byte ∷ reverse text) = rw other refl in
    ap (λ (t : List ℕ). reverse (rest_of is_space t)) (reverse-append text (byte ∷ [])) ∙ kept ∙ ap reverse (sym (reverse-append text (byte ∷ []))) ∙ reverse-reverse (text ++ byte ∷ [])

pub trimmed-less : (text : List ℕ) → 0 < length text → eqb (get_or text (length text - 1) 0) 32 ≡ true → trimmed (take (length text - 1) text) ≡ trimmed text
trimmed-less text some space = sym (ap trimmed (last_apart text some) ∙ trimmed-space (take (length text - 1) text) (get_or text (length text - 1) 0) space)

pub trimmed-same : (text : List ℕ) → 0 < length text → eqb (get_or text (length text - 1) 0) 32 ≡ false → text ≡ trimmed text
trimmed-same text some other =
    last_apart text some ∙ sym (ap trimmed (last_apart text some) ∙ trimmed-other (take (length text - 1) text) (get_or text (length text - 1) 0) other)

pub trimmed-nothing : (text : List ℕ) → text ≡ [] → text ≡ trimmed text
unfolding trimmed rest_of
trimmed-nothing text none = none ∙ sym (ap trimmed none)
