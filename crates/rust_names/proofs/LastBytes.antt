-- The last byte of a word.
use Rattle.std.proofs.Common.{◌≡◌, ℕ, Bool, true, false, ◌||◌, ◌==◌, List, [], ◌∷◌, ◌++◌, refl, sym, ap, ◌∙◌, arith, bytes_eq}
use Rattle.std.specs.List.{list_any}
use Rattle.std.proofs.lemmas.Bool.{or_parts, false≢true}
use Rattle.std.proofs.lemmas.Bool.Decides.{nat_tests}
use Rattle.std.proofs.lemmas.Slice.Eq.{bytes_eq-Decides}

unfoldable pub ends_in : ℕ → List ℕ → Bool
ends_in last [] = false
ends_in last (byte ∷ []) = byte == last
ends_in last (byte ∷ next ∷ others) = ends_in last (next ∷ others)

same_byte : (byte : ℕ) → (byte == byte) ≡ true
same_byte byte = grind (arith, nat_tests)

pub last_behind : (last : ℕ) (front : List ℕ) → ends_in last (front ++ last ∷ []) ≡ true
unfolding ends_in
last_behind last [] = same_byte last
last_behind last (byte ∷ []) = same_byte last
last_behind last (byte ∷ next ∷ front) = last_behind last (next ∷ front)

-- it is none of the words, of which none ends so
pub none_ends : (last : ℕ) (front : List ℕ) (words : List (List ℕ)) → list_any (ends_in last) words ≡ false → list_any (bytes_eq (front ++ last ∷ [])) words ≡ false
none_ends last front [] none = refl
none_ends last front (word ∷ words) none =
    let parts = or_parts (ends_in last word) (list_any (ends_in last) words) none in
    by (bytes_eq (front ++ last ∷ []) word) refl parts.0 (none_ends last front words parts.1)
  where
    by : (b : Bool) → bytes_eq (front ++ last ∷ []) word ≡ b → ends_in last word ≡ false → list_any (bytes_eq (front ++ last ∷ [])) words ≡ false → (b || list_any (bytes_eq (front ++ last ∷ [])) words) ≡ false
    by true e apart more = absurd (false≢true (sym apart ∙ (ap (ends_in last) (sym ((bytes_eq-Decides (front ++ last ∷ []) word).0 e)) ∙ last_behind last front)))
    by false e apart more = more
