-- White space behind a text, byte by byte.
use Rattle.std.proofs.Common.{◌≡◌, ℕ, true, false, List, [], ◌∷◌, ◌++◌, refl, sym, ap, ◌∙◌}
use Rattle.std.specs.Prelude.{reverse}
use Rattle.std.proofs.lemmas.List.{reverse-append, reverse-reverse}
use Rattle.text_scan.specs.Classes.{is_blank}
use Rattle.text_scan.specs.Fronts.{rest_of}

abbrev front_dropped : List ℕ → List ℕ
front_dropped text = reverse (rest_of is_blank text)

turned : (text before : List ℕ) (last : ℕ) → text ≡ before ++ last ∷ [] → reverse text ≡ last ∷ reverse before
turned text before last whole = ap reverse whole ∙ reverse-append before (last ∷ [])

pub blank_behind : (text before : List ℕ) (last : ℕ) → text ≡ before ++ last ∷ [] → is_blank last ≡ true → reverse (rest_of is_blank (reverse text)) ≡ reverse (rest_of is_blank (reverse before))
unfolding rest_of
blank_behind text before last whole blank = ap front_dropped (turned text before last whole) ∙ rw blank refl

pub kept_behind : (text before : List ℕ) (last : ℕ) → text ≡ before ++ last ∷ [] → is_blank last ≡ false → reverse (rest_of is_blank (reverse text)) ≡ text
unfolding rest_of
kept_behind text before last whole kept =
    let same : front_dropped (last ∷ reverse before) ≡ reverse (last ∷ reverse before) = rw kept refl in
    ap front_dropped (turned text before last whole) ∙ same ∙ ap reverse (sym (turned text before last whole)) ∙ reverse-reverse text
