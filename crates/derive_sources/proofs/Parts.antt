-- Elements that get one part after the other.
use Rattle.std.proofs.Common.{◌≡◌, inl, inr, ℕ, suc, ◌+◌, ◌<◌, ◌≤◌, Bool, true, false, ◌&&◌, cond, nat_eq, nat_lt, List, [], ◌∷◌, ◌++◌, map, take, set, length, get_or, Option, Some, slice_get, refl, sym, ap, ap₂, ◌∙◌, subst, arith}
use Rattle.std.proofs.lemmas.Bool.{cases_eq, cases_lt, eq-eqb, ne_eqb, lt-ltb}
use Rattle.std.proofs.Math.Seq.{get_or-append_seam}
use Rattle.std.proofs.lemmas.List.{get_or_append_left, get_or-set_same, get_or-set_other, length-set, length_push, length-take-le, map-append, take_more}
use Rattle.std.proofs.lemmas.Option.{slice_get-get_or, slice_get_past, slice_get_within}
use Rattle.derive_sources.specs.Graphs.{parts_in, parts_at, children_among}
use Rattle.derive_sources.specs.Numbers.{Item, no_item, item_at, is_number}
use Rattle.need_order.specs.declared.element.Element.{Element}

set-here : (old : List Element) (p : ℕ) (x : Element) → p < length old → slice_get (set old p x) p ≡ Some x
set-here old p x inside = slice_get-get_or (set old p x) p x (omega (arith, inside, length-set old p x)) ∙ ap Some (get_or-set_same old p x x inside)

set-elsewhere : (old : List Element) (p e : ℕ) (x : Element) → (e ≡ p → ⊥) → slice_get (set old p x) e ≡ slice_get old e
set-elsewhere old p e x other = elim (cases_lt e (length old)) [
  | inl inside ↦
      slice_get-get_or (set old p x) e x (omega (arith, inside, length-set old p x))
      ∙ ap Some (get_or-set_other old p e x x other)
      ∙ sym (slice_get-get_or old e x inside)
  | inr past ↦ slice_get_past (set old p x) e (omega (arith, past, length-set old p x)) ∙ sym (slice_get_past old e past)
]

-- the element of a number is replaced by one with a part more
pub parts_more : (old : List Element) (p number : ℕ) (was now : Element) → slice_get old p ≡ Some was → now.parts.items ≡ was.parts.items ++ number ∷ [] → (e : ℕ) → parts_at (set old p now) e ≡ cond (nat_eq e p && nat_lt e (length old)) (parts_at old e ++ number ∷ []) (parts_at old e)
unfolding parts_at
parts_more old p number was now is more e = elim (cases_eq e p) [
  | inl same ↦
      let inside : p < length old = slice_get_within old p was is in
      ap (λ i. parts_in (slice_get (set old p now) i)) same ∙ ap parts_in (set-here old p now inside) ∙ more
      ∙ sym (ap (λ b. cond b (parts_in (slice_get old e) ++ number ∷ []) (parts_in (slice_get old e))) (ap₂ (λ a b. a && b) (eq-eqb e p same) (lt-ltb e (length old) (subst (λ i. i < length old) (sym same) inside)))
      ∙ ap (λ i. parts_in (slice_get old i) ++ number ∷ []) same ∙ ap (λ o. parts_in o ++ number ∷ []) is)
  | inr other ↦
      ap parts_in (set-elsewhere old p e now other)
      ∙ sym (ap (λ b. cond (b && nat_lt e (length old)) (parts_in (slice_get old e) ++ number ∷ []) (parts_in (slice_get old e))) (ne_eqb e p other))
]

-- one item more
pub children_more : (e n : ℕ) (items : List Item) (item : Item) → children_among e n (items ++ item ∷ []) ≡ cond (is_number e item.parent) (children_among e n items ++ (n + length items) ∷ []) (children_among e n items)
unfolding children_among
children_more e n [] item = at (is_number e item.parent)
  where
    same : n ≡ n + 0
    same = omega arith

    at : (b : Bool) → cond b (n ∷ []) [] ≡ cond b ((n + 0) ∷ []) []
    at true = ap (λ k. k ∷ []) same
    at false = refl
children_more e n (x ∷ items) item = at (is_number e x.parent) (is_number e item.parent) (children_more e (n + 1) items item)
  where
    longer : n + 1 + length items ≡ n + suc (length items)
    longer = omega arith

    rest : List ℕ
    rest = children_among e (n + 1) items

    at : (a b : Bool) → children_among e (n + 1) (items ++ item ∷ []) ≡ cond b (rest ++ (n + 1 + length items) ∷ []) rest
        → cond a (n ∷ children_among e (n + 1) (items ++ item ∷ [])) (children_among e (n + 1) (items ++ item ∷ [])) ≡ cond b (cond a (n ∷ rest) rest ++ (n + suc (length items)) ∷ []) (cond a (n ∷ rest) rest)
    at true true h = ap (λ r. n ∷ r) h ∙ ap (λ k. n ∷ (rest ++ k ∷ [])) longer
    at true false h = ap (λ r. n ∷ r) h
    at false true h = h ∙ ap (λ k. rest ++ k ∷ []) longer
    at false false h = h

pub none_bare : (e : ℕ) → parts_at [] e ≡ []
unfolding parts_at
none_bare e = ap parts_in (slice_get_past [] e (omega arith))

-- one element more that has no parts
pub bare_more : (old : List Element) (x : Element) → x.parts.items ≡ [] → ((e : ℕ) → parts_at old e ≡ []) → (e : ℕ) → parts_at (old ++ x ∷ []) e ≡ []
unfolding parts_at
bare_more old x none before e = elim (cases_lt e (length old)) [
  | inl inside ↦
      ap parts_in (slice_get-get_or (old ++ x ∷ []) e x (omega (arith, inside, length_push old x)) ∙ ap Some (get_or_append_left old (x ∷ []) x e inside) ∙ sym (slice_get-get_or old e x inside)) ∙ before e
  | inr past ↦ elim (cases_lt (length old) e) [
    | inl further ↦ ap parts_in (slice_get_past (old ++ x ∷ []) e (omega (arith, further, length_push old x)))
    | inr near ↦
        ap (λ i. parts_in (slice_get (old ++ x ∷ []) i)) (at_end e (length old) past near)
        ∙ ap parts_in (slice_get-get_or (old ++ x ∷ []) (length old) x (omega (arith, length_push old x)) ∙ ap Some (get_or-append_seam old x [] x)) ∙ none
  ]
]
  where
    at_end : (a b : ℕ) → b ≤ a → a ≤ b → a ≡ b
    at_end a b h k = omega (arith, h, k)

pub bases_more : (old : List Element) (x : Element) (bases : List (Option ℕ)) (i : ℕ) (d : Option ℕ) → i < length bases → x.base ≡ get_or bases i d → map (λ element. element.base) old ≡ take i bases → map (λ element. element.base) (old ++ x ∷ []) ≡ take (i + 1) bases
bases_more old x bases i d inside is before =
    map-append (λ (element : Element). element.base) old (x ∷ []) ∙ ap₂ (λ l b. l ++ b ∷ []) before is ∙ sym (take_more bases i d inside)

pub children_none : (e : ℕ) → children_among e 0 [] ≡ []
unfolding children_among
children_none e = refl

-- the parts of an element, where one item more was looked at
pub part_step : (old new : List Element) (items : List Item) (i e : ℕ) (parent : Option ℕ) → i < length items → parent ≡ (item_at items i).parent → e < length old → parts_at new e ≡ cond (is_number e parent && nat_lt e (length old)) (parts_at old e ++ i ∷ []) (parts_at old e) → parts_at old e ≡ children_among e 0 (take i items) → parts_at new e ≡ children_among e 0 (take (i + 1) items)
part_step old new items i e parent inside is here step before =
    step
    ∙ ap (λ b. cond (is_number e parent && b) (parts_at old e ++ i ∷ []) (parts_at old e)) (lt-ltb e (length old) here)
    ∙ ap (λ b. cond b (parts_at old e ++ i ∷ []) (parts_at old e)) (and_true (is_number e parent) ∙ ap (is_number e) is)
    ∙ ap (λ parts. cond (is_number e (item_at items i).parent) (parts ++ i ∷ []) parts) before
    ∙ ap (λ k. cond (is_number e (item_at items i).parent) (children_among e 0 (take i items) ++ k ∷ []) (children_among e 0 (take i items))) (sym long)
    ∙ sym (ap (children_among e 0) (take_more items i no_item inside) ∙ children_more e 0 (take i items) (item_at items i))
  where
    and_true : (b : Bool) → (b && true) ≡ b
    and_true true = refl
    and_true false = refl

    long : 0 + length (take i items) ≡ i
    long = omega (arith, length-take-le i items (omega (arith, inside)))
