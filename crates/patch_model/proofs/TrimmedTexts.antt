-- A text in UTF-8 stays one when it is trimmed.
use Rattle.std.proofs.Common.{◌≡◌, ◌<◌, ℕ, zero, suc, Bool, true, false, List, [], ◌∷◌, ◌++◌, length, take, refl, sym, subst, ◌∙◌, arith}
use Rattle.std.specs.Prelude.{reverse, slice_index}
use Rattle.std.specs.Str.{IsUtf8}
use Rattle.std.proofs.lemmas.Bool.Decides.{nat_tests}
use Rattle.std.proofs.lemmas.List.{reverse-append, reverse-reverse, take-append-le, take_all}
use Rattle.std.proofs.lemmas.Str.{IsUtf8-drop, IsUtf8-take, IsUtf8-from_ascii, IsCharBoundary-after_ascii, IsCharBoundary-at_seam}
use Rattle.text_scan.specs.Classes.{is_blank}
use Rattle.text_scan.specs.Fronts.{rest_of}
use Rattle.patch_form.specs.Forms.{trimmed}

blank_small : (byte : ℕ) → is_blank byte ≡ true → byte < 128
blank_small byte is = grind (arith, nat_tests, is)

ascii_one : (byte : ℕ) → byte < 128 → (i : ℕ) → slice_index (byte ∷ []) i < 128
ascii_one byte small zero = small
ascii_one byte small (suc i) = omega arith

front_utf8 : (text : List ℕ) → IsUtf8 text → IsUtf8 (rest_of is_blank text)
unfolding rest_of
front_utf8 [] utf8 = utf8
front_utf8 (byte ∷ text) utf8 = by (is_blank byte) refl (front_utf8 text)
  where
    by : (b : Bool) → is_blank byte ≡ b → (IsUtf8 text → IsUtf8 (rest_of is_blank text)) → IsUtf8 (rest_of is_blank (byte ∷ text))
    by true is more = rw is (more (IsUtf8-drop (byte ∷ text) 1 utf8 (IsCharBoundary-after_ascii (byte ∷ text) 0 utf8 (omega arith) (blank_small byte is))))
    by false is more = rw is utf8

back_utf8 : (turned_text : List ℕ) → IsUtf8 (reverse turned_text) → IsUtf8 (reverse (rest_of is_blank turned_text))
unfolding rest_of
back_utf8 [] utf8 = utf8
back_utf8 (byte ∷ text) utf8 = by (is_blank byte) refl (back_utf8 text)
  where
    whole : reverse (byte ∷ text) ≡ reverse text ++ byte ∷ []
    whole = reverse-append (byte ∷ []) text

    less : byte < 128 → IsUtf8 (reverse text)
    less small =
        let both : IsUtf8 (reverse text ++ byte ∷ []) = subst IsUtf8 whole utf8 in
        let seam = IsCharBoundary-at_seam (reverse text ++ byte ∷ []) (reverse text) (byte ∷ []) refl (IsUtf8-from_ascii (byte ∷ []) (ascii_one byte small)) in
        let front : take (length (reverse text)) (reverse text ++ byte ∷ []) ≡ reverse text =
        take-append-le (length (reverse text)) (reverse text) (byte ∷ []) (omega arith) ∙ take_all (length (reverse text)) (reverse text) (omega arith) in
        subst IsUtf8 front (IsUtf8-take (reverse text ++ byte ∷ []) (length (reverse text)) both seam)

    by : (b : Bool) → is_blank byte ≡ b → (IsUtf8 (reverse text) → IsUtf8 (reverse (rest_of is_blank text))) → IsUtf8 (reverse (rest_of is_blank (byte ∷ text)))
    by true is more = rw is (more (less (blank_small byte is)))
    by false is more = rw is utf8

pub trimmed_utf8 : (text : List ℕ) → IsUtf8 text → IsUtf8 (trimmed text)
unfolding trimmed
trimmed_utf8 text utf8 = back_utf8 (reverse (rest_of is_blank text)) (subst IsUtf8 (sym (reverse-reverse (rest_of is_blank text))) (front_utf8 text utf8))
