-- Names that differ: one more name, and a name that stood before.
use Rattle.std.proofs.Common.{◌≡◌, ℕ, zero, suc, ◌<◌, Bool, true, false, not, ◌||◌, List, [], ◌∷◌, ◌++◌, length, get_or, refl, sym, ◌∙◌, inl, inr, arith}
use Rattle.std.specs.List.{list_any}
use Rattle.std.specs.Str.{bytes_eq}
use Rattle.std.proofs.lemmas.Bool.{cases_Bool, and_parts, and_from, and_right, or_parts, or_from, or_cases, or_left, or_right, not-true, not_from_false, true≢false}
use Rattle.std.proofs.lemmas.List.Folds.{list_any-append, list_any_at, Any-from_list_any}
use Rattle.std.proofs.lemmas.Slice.Eq.{bytes_eq-Decides}
use Rattle.xml_text.specs.Names.{AreDistinct}
use Rattle.xml_text.specs.Reading.{differ}

pub bytes_eq_turned : (x y : List ℕ) (answer : Bool) → bytes_eq x y ≡ answer → bytes_eq y x ≡ answer
bytes_eq_turned x y true e = (bytes_eq-Decides y x).1 (sym ((bytes_eq-Decides x y).0 e))
bytes_eq_turned x y false e =
    elim (cases_Bool (bytes_eq y x)) [
      | inl same ↦ absurd (true≢false (sym ((bytes_eq-Decides x y).1 (sym ((bytes_eq-Decides y x).0 same))) ∙ e))
      | inr other ↦ other
    ]

-- a name that stood not before
pub differ_more : (front : List (List ℕ)) (name : List ℕ) → differ front ≡ true → list_any (bytes_eq name) front ≡ false → differ (front ++ name ∷ []) ≡ true
unfolding differ
differ_more [] name apart fresh = refl
differ_more (x ∷ front) name apart fresh =
    let parts = and_parts (not (list_any (bytes_eq x) front)) (differ front) apart in
    let others = or_parts (bytes_eq name x) (list_any (bytes_eq name) front) fresh in
    let behind : list_any (bytes_eq x) (front ++ name ∷ []) ≡ false =
    list_any-append (bytes_eq x) front (name ∷ []) ∙ or_from (list_any (bytes_eq x) front) (bytes_eq x name || false) (not-true (list_any (bytes_eq x) front) parts.0) (or_from (bytes_eq x name) false (bytes_eq_turned name x false others.0) refl) in
    and_from (not (list_any (bytes_eq x) (front ++ name ∷ []))) (differ (front ++ name ∷ [])) (not_from_false (list_any (bytes_eq x) (front ++ name ∷ [])) behind) (differ_more front name parts.1 others.1)

-- a name that stood before
pub differ_again : (front : List (List ℕ)) (name : List ℕ) (more : List (List ℕ)) → list_any (bytes_eq name) front ≡ true → differ (front ++ name ∷ more) ≡ false
unfolding differ
differ_again [] name more found = absurd (true≢false (sym found))
differ_again (x ∷ front) name more found =
    elim (or_cases (bytes_eq name x) (list_any (bytes_eq name) front) found) [
      | inl same ↦
          let behind : list_any (bytes_eq x) (front ++ name ∷ more) ≡ true =
          list_any-append (bytes_eq x) front (name ∷ more) ∙ or_right (list_any (bytes_eq x) front) (bytes_eq x name || list_any (bytes_eq x) more) (or_left (bytes_eq x name) (list_any (bytes_eq x) more) (bytes_eq_turned name x true same)) in
          rw behind refl
      | inr before ↦ and_right (not (list_any (bytes_eq x) (front ++ name ∷ more))) (differ (front ++ name ∷ more)) (differ_again front name more before)
    ]

-- the test finds names that are all different
names_at_index : (x : List ℕ) (xs : List (List ℕ)) (j : ℕ) (d : List ℕ) → list_any (bytes_eq x) xs ≡ false → j < length xs → x ≡ get_or xs j d → ⊥
names_at_index x xs j d none within same =
    true≢false (sym (list_any_at (bytes_eq x) xs j d within ((bytes_eq-Decides x (get_or xs j d)).1 same)) ∙ none)

pub differ_takes : (names : List (List ℕ)) → differ names ≡ true → AreDistinct names
unfolding differ
differ_takes [] apart i j d before within = absurd (omega arith)
differ_takes (x ∷ xs) apart zero zero d before within = absurd (omega arith)
differ_takes (x ∷ xs) apart zero (suc j) d before within =
    let parts = and_parts (not (list_any (bytes_eq x) xs)) (differ xs) apart in
    names_at_index x xs j d (not-true (list_any (bytes_eq x) xs) parts.0) (omega arith)
differ_takes (x ∷ xs) apart (suc i) zero d before within = absurd (omega arith)
differ_takes (x ∷ xs) apart (suc i) (suc j) d before within =
    differ_takes xs (and_parts (not (list_any (bytes_eq x) xs)) (differ xs) apart).1 i j d (omega arith) (omega arith)

AreDistinct-tail : (x : List ℕ) (xs : List (List ℕ)) → AreDistinct (x ∷ xs) → AreDistinct xs
AreDistinct-tail x xs distinct i j d before within = distinct (suc i) (suc j) d (omega arith) (omega arith)

pub differ_again_all : (names : List (List ℕ)) → AreDistinct names → differ names ≡ true
unfolding differ
differ_again_all [] distinct = refl
differ_again_all (x ∷ xs) distinct =
    elim (cases_Bool (list_any (bytes_eq x) xs)) [
      | inl found ↦
          let at = Any-from_list_any (bytes_eq x) xs found in
          absurd (distinct 0 (suc at.0) at.1 (omega arith) (omega (arith, at.2)) ((bytes_eq-Decides x at.1).0 at.4 ∙ sym at.3))
      | inr none ↦ and_from (not (list_any (bytes_eq x) xs)) (differ xs) (not_from_false (list_any (bytes_eq x) xs) none) (differ_again_all xs (AreDistinct-tail x xs distinct))
    ]
