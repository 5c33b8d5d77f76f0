-- What stands among numbers, and what a number more changes.
use Rattle.std.proofs.Common.{◌≡◌, ◌⊎◌, inl, inr, ℕ, zero, suc, ◌+◌, ◌<◌, ◌≤◌, Bool, true, false, not, ◌||◌, nat_eq, List, [], ◌∷◌, ◌++◌, length, get_or, set, replicate, refl, sym, ap, ◌∙◌, subst, arith}
use Rattle.std.specs.List.{IsDistinct}
use Rattle.std.specs.Cmp.{nat_eq_equiv}
use Rattle.std.proofs.lemmas.Bool.{eqb-true, eqb-false, eq-eqb, ne_eqb, or_cases, true≢false, cases_Bool, cases_eq, cases_order, cases_lt, not-true, not-false}
use Rattle.std.proofs.lemmas.List.{get_or-set_same, get_or-set_other, get_or_past, length_push}
use Rattle.std.proofs.lemmas.List.Folds.{list_any-append}
use Rattle.std.proofs.lemmas.Map.Keys.{IsDistinct-push}
use Rattle.std.proofs.lemmas.Map.Steps.{length-le_from_distinct_below, le-length_from_below}
use Rattle.need_order.specs.Needs.{among}
use Rattle.need_order.specs.Gathering.{lacks, FlagsTell}

pub among-head : (d : ℕ) (xs : List ℕ) → among d (d ∷ xs) ≡ true
among-head d xs = rw (eq-eqb d d refl) refl

pub or_left : (x y : Bool) → x ≡ true → (x || y) ≡ true
or_left true y e = refl
or_left false y e = absurd (true≢false (sym e))

pub or_right : (x y : Bool) → y ≡ true → (x || y) ≡ true
or_right true y e = refl
or_right false y e = e

pub or_none : (x y : Bool) → (x || y) ≡ false → (x ≡ false) × (y ≡ false)
or_none true y e = absurd (true≢false e)
or_none false y e = (refl, e)

pub both_false : (x y : Bool) → x ≡ false → y ≡ false → (x || y) ≡ false
both_false x y p q = rw (p, q) refl

pub among-left : (d : ℕ) (xs ys : List ℕ) → among d xs ≡ true → among d (xs ++ ys) ≡ true
among-left d xs ys h = list_any-append (nat_eq d) xs ys ∙ or_left (among d xs) (among d ys) h

pub among-right : (d : ℕ) (xs ys : List ℕ) → among d ys ≡ true → among d (xs ++ ys) ≡ true
among-right d xs ys h = list_any-append (nat_eq d) xs ys ∙ or_right (among d xs) (among d ys) h

pub among-cases : (d : ℕ) (xs ys : List ℕ) → among d (xs ++ ys) ≡ true → (among d xs ≡ true) ⊎ (among d ys ≡ true)
among-cases d xs ys h = or_cases (among d xs) (among d ys) (sym (list_any-append (nat_eq d) xs ys) ∙ h)

pub among-one : (d e : ℕ) → among d (e ∷ []) ≡ true → d ≡ e
among-one d e h = elim (or_cases (nat_eq d e) false h) [ inl p ↦ eqb-true d e p | inr p ↦ absurd (true≢false (sym p)) ]

pub among-end : (xs : List ℕ) (e : ℕ) → among e (xs ++ e ∷ []) ≡ true
among-end xs e = among-right e xs (e ∷ []) (among-head e [])

-- one more
pub flags_push : (flags : List Bool) (items : List ℕ) (e : ℕ) → FlagsTell flags items → e < length flags → among e items ≡ false → FlagsTell (set flags e true) (items ++ e ∷ [])
flags_push flags items e h below absent = record {
  told = λ d. tell d (nat_eq d e) refl;
  distinct = IsDistinct-push nat_eq_equiv items e h.distinct absent;
}
  where
    or_false : (x : Bool) → (x || false) ≡ x
    or_false true = refl
    or_false false = refl

    other : (d : ℕ) → (d ≡ e → ⊥) → among d (items ++ e ∷ []) ≡ among d items
    other d ne = list_any-append (nat_eq d) items (e ∷ []) ∙ ap (λ b. among d items || (b || false)) (ne_eqb d e ne) ∙ or_false (among d items)

    tell : (d : ℕ) (b : Bool) → nat_eq d e ≡ b → get_or (set flags e true) d false ≡ among d (items ++ e ∷ [])
    tell d true p =
        ap (λ i. get_or (set flags e true) i false) (eqb-true d e p)
        ∙ get_or-set_same flags e true false below
        ∙ sym (ap (λ i. among i (items ++ e ∷ [])) (eqb-true d e p) ∙ among-end items e)
    tell d false p =
        get_or-set_other flags e d true false (λ q. eqb-false d e p q)
        ∙ h.told d
        ∙ sym (other d (λ q. eqb-false d e p q))

pub flags_none : (n d : ℕ) → get_or (replicate n false) d false ≡ false
flags_none zero d = refl
flags_none (suc n) zero = refl
flags_none (suc n) (suc d) = flags_none n d

-- what is there is below the number of flags
pub flagged_below : (flags : List Bool) (items : List ℕ) → FlagsTell flags items → (d : ℕ) → among d items ≡ true → d < length flags
flagged_below flags items h d there = elim (cases_lt d (length flags)) [
  | inl p ↦ p
  | inr q ↦ absurd (true≢false (sym there ∙ sym (h.told d) ∙ get_or_past flags d false q))
]

-- ---- lacking

pub lacks-none : (items needs : List ℕ) → lacks items needs ≡ false → (d : ℕ) → among d needs ≡ true → among d items ≡ true
lacks-none items [] no_lack d h = absurd (true≢false (sym h))
lacks-none items (x ∷ needs) no_lack d h = elim (or_cases (nat_eq d x) (among d needs) h) [
  | inl p ↦ subst (λ i. among i items ≡ true) (sym (eqb-true d x p)) (not-false (among x items) (or_none (not (among x items)) (lacks items needs) no_lack).0)
  | inr q ↦ lacks-none items needs (or_none (not (among x items)) (lacks items needs) no_lack).1 d q
]

pub lacks-some : (items needs : List ℕ) → lacks items needs ≡ true → (d : ℕ) × (among d needs ≡ true) × (among d items ≡ false)
lacks-some items [] h = absurd (true≢false (sym h))
lacks-some items (x ∷ needs) h = elim (or_cases (not (among x items)) (lacks items needs) h) [
  | inl p ↦ (x, among-head x needs, not-true (among x items) p)
  | inr q ↦ let r = lacks-some items needs q in (r.0, or_right (nat_eq r.0 x) (among r.0 needs) r.1, r.2)
]

pub lacks-from_all : (items needs : List ℕ) → ((d : ℕ) → among d needs ≡ true → among d items ≡ true) → lacks items needs ≡ false
lacks-from_all items [] h = refl
lacks-from_all items (x ∷ needs) h =
    both_false (not (among x items)) (lacks items needs) (ap not (h x (among-head x needs))) (lacks-from_all items needs (λ d p. h d (or_right (nat_eq d x) (among d needs) p)))

-- ---- counting

-- as many distinct numbers below n as there are: all
pub all_there : (xs : List ℕ) (n : ℕ) → IsDistinct nat_eq xs → ((q : ℕ) → among q xs ≡ true → q < n) → n ≤ length xs → (e : ℕ) → e < n → among e xs ≡ true
all_there xs n distinct below full e inside = elim (cases_Bool (among e xs)) [
  | inl p ↦ p
  | inr q ↦ absurd (omega (arith, length_push xs e, full, length-le_from_distinct_below (xs ++ e ∷ []) n (IsDistinct-push nat_eq_equiv xs e distinct q) (λ d h. elim (among-cases d xs (e ∷ []) h) [ inl l ↦ below d l | inr r ↦ subst (λ i. i < n) (sym (among-one d e r)) inside ])))
]

less : (e k : ℕ) → e < suc k → (e ≡ k → ⊥) → e < k
less e k h ne = elim (cases_order e k) [
  | inl same ↦ absurd (ne same)
  | inr other ↦ elim other [ inl p ↦ p | inr q ↦ omega (arith, h, q) ]
]

-- fewer: one is missing
pub one_missing : (xs : List ℕ) (n : ℕ) → length xs < n → (e : ℕ) × (e < n) × (among e xs ≡ false)
one_missing xs n few = elim (scan n) [
  | inl all ↦ absurd (omega (arith, few, le-length_from_below xs n all))
  | inr found ↦ found
]
  where
    scan : (k : ℕ) → ((e : ℕ) → e < k → among e xs ≡ true) ⊎ ((e : ℕ) × (e < k) × (among e xs ≡ false))
    scan zero = inl (λ e h. absurd (omega (arith, h)))
    scan (suc k) = elim (scan k) [
      | inr found ↦ inr (found.0, omega (arith, found.1), found.2)
      | inl all ↦ elim (cases_Bool (among k xs)) [
        | inr q ↦ inr (k, omega arith, q)
        | inl p ↦ inl (λ e h. elim (cases_eq e k) [
          | inl same ↦ subst (λ i. among i xs ≡ true) (sym same) p
          | inr ne ↦ all e (less e k h ne)
        ])
      ]
    ]

pub flags_new : (n : ℕ) → FlagsTell (replicate n false) []
unfolding IsDistinct
flags_new n = record { told = flags_none n; distinct = tt }

pub less_one : (e k : ℕ) → e < k + 1 → (e ≡ k → ⊥) → e < k
less_one e k h ne = less e k (omega (arith, h)) ne

pub length_within : (flags : List Bool) (items : List ℕ) → FlagsTell flags items → length items ≤ length flags
length_within flags items h = length-le_from_distinct_below items (length flags) h.distinct (flagged_below flags items h)
