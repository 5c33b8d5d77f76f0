-- A list that is edited from the front, item by item.
use Rattle.std.proofs.Common.{◌≡◌, ◌<◌, ◌≤◌, ℕ, ◌+◌, List, ◌∷◌, map, take, drop, set, length, get_or, refl, sym, ap, ◌∙◌, subst, arith, length-set}
use Rattle.std.proofs.lemmas.List.{drop-set-lt, drop_more, take_all}
use Rattle.svd_rows.proofs.Lists.{map-take_set}

-- what was passed is made of the old items, and the others are as they were
pub record PassedBy {A X : Type 0} (seen made : A → X) (old now : List A) (i : ℕ) : Type 0 where
  pub long : length now ≡ length old
  pub front : map seen (take i now) ≡ map made (take i old)
  pub rest : drop i now ≡ drop i old

module _ {A X : Type 0} (seen made : A → X) where
  pub passed-start : (all : List A) → PassedBy seen made all all 0
  passed-start all = record { long = refl; front = refl; rest = refl }

  first-same : (x y : A) (xs ys : List A) → x ∷ xs ≡ y ∷ ys → x ≡ y
  first-same x y xs ys e = cc

  rest-same : (x y : A) (xs ys : List A) → x ∷ xs ≡ y ∷ ys → xs ≡ ys
  rest-same x y xs ys e = cc

  pub passed-step : (old now : List A) (i : ℕ) (x y : A) → i < length now → x ≡ get_or now i x → seen y ≡ made x → PassedBy seen made old now i → PassedBy seen made old (set now i y) (i + 1)
  passed-step old now i x y within is here so_far = record {
    long = length-set now i y ∙ so_far.long;
    front = map-take_set seen made now old i y x within within_old so_far.front (sym (first-same (get_or now i x) (get_or old i x) (drop (i + 1) now) (drop (i + 1) old) both) ∙ sym is) here;
    rest = drop-set-lt (i + 1) now i y (omega arith) ∙ rest-same (get_or now i x) (get_or old i x) (drop (i + 1) now) (drop (i + 1) old) both;
  }
    where
      within_old : i < length old
      within_old = subst (λ (n : ℕ). i < n) so_far.long within

      both : get_or now i x ∷ drop (i + 1) now ≡ get_or old i x ∷ drop (i + 1) old
      both = sym (drop_more now i x within) ∙ so_far.rest ∙ drop_more old i x within_old

  pub passed-end : (old now : List A) (i : ℕ) → length old ≤ i → PassedBy seen made old now i → map seen now ≡ map made old
  passed-end old now i done so_far =
      ap (map seen) (sym (take_all i now (subst (λ (n : ℕ). n ≤ i) (sym so_far.long) done)))
      ∙ so_far.front
      ∙ ap (map made) (take_all i old done)
