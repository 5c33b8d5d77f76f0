-- Sums over the children of elements, along an order.
use Rattle.std.proofs.Common.{◌≡◌, inl, inr, ℕ, ◌+◌, ◌-◌, ◌^◌, ◌<◌, ◌≤◌, min, Bool, true, false, nat_eq, List, [], ◌∷◌, ◌++◌, length, take, drop, take-append-drop, get_or, set, sum_by, Option, Some, None, slice_get, refl, sym, ap, ap₂, ◌∙◌, subst, arith, append_assoc, Vec}
use Rattle.std.proofs.lemmas.Bool.{cases_eq, true≢false}
use Rattle.std.proofs.lemmas.List.{get_or-set_same, get_or-set_other, take_more}
use Rattle.std.proofs.lemmas.List.Sorted.{list_any-IsPermutation, sum_by-IsPermutation}
use Rattle.std.proofs.lemmas.List.Sums.{sum_by-append, sum_by-cons}
use Rattle.need_order.specs.declared.element.Element.{Element}
use Rattle.need_order.specs.Below.{IsSumAt, base_sum, begun_sum, begun_sum_in, weigh}
use Rattle.need_order.specs.Children.{AreChildren, begun, begun_in, flag_weight, items_at, of_base, size, size_made, told}
use Rattle.need_order.specs.Levels.{IsMadeOfNeeds}
use Rattle.need_order.specs.Needs.{among, needs, needs_in, with_base}
use Rattle.need_order.specs.Settling.{Follows}
use Rattle.need_order.proofs.Following.{behind_in, parted}
use Rattle.need_order.proofs.Levels.{made_along}
use Rattle.need_order.proofs.Numbers.{among-cases, among-head, among-left, among-one, among-right, lacks-from_all, lacks-none, or_right}

pub sum_agree : (f g : ℕ → ℕ) (xs : List ℕ) → ((d : ℕ) → among d xs ≡ true → f d ≡ g d) → sum_by f xs ≡ sum_by g xs
sum_agree f g [] h = refl
sum_agree f g (x ∷ xs) h = sum_by-cons f x xs ∙ ap₂ (λ a b. a + b) (h x (among-head x xs)) (sum_agree f g xs (λ d p. h d (or_right (nat_eq d x) (among d xs) p))) ∙ sym (sum_by-cons g x xs)

-- these are closed under children
abbrev pub IsClosed : (ℕ → List ℕ) → List ℕ → Type 0
IsClosed children numbers = (e d : ℕ) → among e numbers ≡ true → among d (children e) ≡ true → among d numbers ≡ true

module _ {Z : Type 0} (elements : List Element) (dropped : List (Vec ℕ Z)) (children : ℕ → List ℕ) (are : AreChildren elements dropped children) where
  -- a child, or what is dropped, is a child of the base or a part
  comes_from : (e d : ℕ) → among d (children e ++ items_at dropped e) ≡ true → among d (begun elements children e) ≡ true
  comes_from e d h = list_any-IsPermutation (nat_eq d) (begun elements children e) (children e ++ items_at dropped e) (are e) ∙ h

  -- what an element begins with stands before it, where its needs do
  begun_before : (before : List ℕ) (e : ℕ) → IsClosed children before → ((d : ℕ) → among d (needs elements e) ≡ true → among d before ≡ true) → (d : ℕ) → among d (begun elements children e) ≡ true → among d before ≡ true
  unfolding needs begun
  begun_before before e closed has d h = by (slice_get elements e) has h
    where
      of : (base : Option ℕ) (parts : List ℕ) → ((x : ℕ) → among x (with_base base parts) ≡ true → among x before ≡ true) → among d (of_base children base) ≡ true → among d before ≡ true
      of None parts has p = absurd (true≢false (sym p))
      of (Some base) parts has p = closed base d (has base (among-head base parts)) p

      part : (base : Option ℕ) (parts : List ℕ) → among d parts ≡ true → among d (with_base base parts) ≡ true
      part None parts p = p
      part (Some base) parts p = or_right (nat_eq d base) (among d parts) p

      by : (o : Option Element) → ((x : ℕ) → among x (needs_in o) ≡ true → among x before ≡ true) → among d (begun_in children o) ≡ true → among d before ≡ true
      by None has h = absurd (true≢false (sym h))
      by (Some element) has h = elim (among-cases d (of_base children element.base) element.parts.items h) [
        | inl p ↦ of element.base element.parts.items has p
        | inr q ↦ has d (part element.base element.parts.items q)
      ]

  -- an order behind needs is one behind children
  pub children_follow : (before rest : List ℕ) → Follows (needs elements) before rest → IsClosed children before → Follows children before rest
  unfolding Follows
  children_follow before [] follows closed = tt
  children_follow before (e ∷ rest) follows closed = (lacks-from_all before (children e) here, children_follow (before ++ e ∷ []) rest follows.1 wider)
    where
      here : (d : ℕ) → among d (children e) ≡ true → among d before ≡ true
      here d p = begun_before before e closed (lacks-none before (needs elements e) follows.0) d (comes_from e d (among-left d (children e) (items_at dropped e) p))

      wider : IsClosed children (before ++ e ∷ [])
      wider x d there p = elim (among-cases x before (e ∷ []) there) [
        | inl q ↦ among-left d before (e ∷ []) (closed x d q p)
        | inr q ↦ among-left d before (e ∷ []) (here d (subst (λ i. among d (children i) ≡ true) (among-one x e q) p))
      ]

  -- what the children of an element weigh, where all before it is known
  pub sum_here : (weights sums : List ℕ) (weight : ℕ → ℕ) (before : List ℕ) (e sum : ℕ) → IsClosed children before
      → ((d : ℕ) → among d (needs elements e) ≡ true → among d before ≡ true)
      → ((d : ℕ) → among d before ≡ true → weigh weights d ≡ weight d)
      → ((d : ℕ) → among d before ≡ true → get_or sums d 0 ≡ sum_by weight (children d))
      → IsSumAt elements dropped weights sums e sum → sum ≡ sum_by weight (children e)
  unfolding begun_sum begun needs
  sum_here weights sums weight before e sum closed has weighed summed is =
      omega (arith, is, begins (slice_get elements e) has, less, sum_by-IsPermutation weight (begun elements children e) (children e ++ items_at dropped e) (are e), sum_by-append weight (children e) (items_at dropped e))
    where
      less : sum_by (weigh weights) (items_at dropped e) ≡ sum_by weight (items_at dropped e)
      less = sum_agree (weigh weights) weight (items_at dropped e) (λ d p. weighed d (begun_before before e closed has d (comes_from e d (among-right d (children e) (items_at dropped e) p))))

      of : (base : Option ℕ) (parts : List ℕ) → ((x : ℕ) → among x (with_base base parts) ≡ true → among x before ≡ true) → base_sum sums base ≡ sum_by weight (of_base children base)
      of None parts has = refl
      of (Some base) parts has = summed base (has base (among-head base parts))

      part : (base : Option ℕ) (parts : List ℕ) (d : ℕ) → among d parts ≡ true → among d (with_base base parts) ≡ true
      part None parts d p = p
      part (Some base) parts d p = or_right (nat_eq d base) (among d parts) p

      begins : (o : Option Element) → ((x : ℕ) → among x (needs_in o) ≡ true → among x before ≡ true) → begun_sum_in weights sums o ≡ sum_by weight (begun_in children o)
      begins None has = refl
      begins (Some element) has =
          ap₂ (λ a b. a + b) (of element.base element.parts.items has) (sum_agree (weigh weights) weight element.parts.items (λ d p. weighed d (has d (part element.base element.parts.items d p))))
          ∙ sym (sum_by-append weight (of_base children element.base) element.parts.items)

-- the first ones of an order behind children are closed
pub closed_at : (children : ℕ → List ℕ) (order : List ℕ) (i : ℕ) → Follows children [] order → IsClosed children (take i order)
closed_at children order i follows e d there p = let part = parted e (take i order) there in
    subst (λ xs. among d xs ≡ true) (sym part.whole)
    (among-left d part.before (e ∷ part.after)
    (behind_in children [] part.before (part.after ++ drop i order) e d
    (subst (Follows children []) (sym (take-append-drop i order) ∙ ap (λ xs. xs ++ drop i order) part.whole ∙ append_assoc part.before (e ∷ part.after) (drop i order)) follows) p))

-- what the element at a place needs stands before it
pub needs_at : (needs : ℕ → List ℕ) (order : List ℕ) (i d : ℕ) → Follows needs [] order → i < length order → among d (needs (get_or order i 0)) ≡ true → among d (take i order) ≡ true
needs_at needs order i d follows inside p =
    behind_in needs [] (take i order) (drop (i + 1) order) (get_or order i 0) d (subst (Follows needs []) parts follows) p
  where
    parts : order ≡ take i order ++ (get_or order i 0 ∷ drop (i + 1) order)
    parts = sym (take-append-drop (i + 1) order) ∙ ap (λ xs. xs ++ drop (i + 1) order) (take_more order i 0 inside) ∙ append_assoc (take i order) (get_or order i 0 ∷ []) (drop (i + 1) order)

pub at_place : (order : List ℕ) (i : ℕ) → i < length order → among (get_or order i 0) order ≡ true
at_place order i inside = subst (λ xs. among (get_or order i 0) xs ≡ true) (take-append-drop (i + 1) order)
    (among-left (get_or order i 0) (take (i + 1) order) (drop (i + 1) order) (subst (λ xs. among (get_or order i 0) xs ≡ true) (sym (take_more order i 0 inside)) (among-right (get_or order i 0) (take i order) (get_or order i 0 ∷ []) (among-head (get_or order i 0) []))))

-- one more value is told
pub told_more : {X : Type 0} (past : X) (value_of : ℕ → X) (order : List ℕ) (i : ℕ) (values : List X) (value : X) → i < length order → get_or order i 0 < length values
    → ((e : ℕ) → among e (take i order) ≡ true → get_or values e past ≡ value_of e) → value ≡ value_of (get_or order i 0)
    → (e : ℕ) → among e (take (i + 1) order) ≡ true → get_or (set values (get_or order i 0) value) e past ≡ value_of e
told_more past value_of order i values value inside fits so_far is e there = elim (cases_eq e (get_or order i 0)) [
  | inl same ↦ ap (λ d. get_or (set values (get_or order i 0) value) d past) same ∙ get_or-set_same values (get_or order i 0) value past fits ∙ is ∙ ap value_of (sym same)
  | inr other ↦ get_or-set_other values (get_or order i 0) e value past other ∙ so_far e (earlier other)
]
  where
    earlier : (e ≡ get_or order i 0 → ⊥) → among e (take i order) ≡ true
    earlier other = elim (among-cases e (take i order) (get_or order i 0 ∷ []) (subst (λ xs. among e xs ≡ true) (take_more order i 0 inside) there)) [
      | inl p ↦ p
      | inr q ↦ absurd (other (among-one e (get_or order i 0) q))
    ]

-- ---- sizes

size-uses : (flags : List Bool) (children : ℕ → List ℕ) → IsMadeOfNeeds (λ e. e) children (size_made flags children)
size-uses flags children f g e h = ap (λ n. flag_weight (get_or flags e false) + n) (sum_agree f g (children e) h)

-- sums that end at a greatest number
sum_told : (top : ℕ) (f : ℕ → ℕ) (xs : List ℕ) → min (sum_by (λ x. min (f x) top) xs) top ≡ min (sum_by f xs) top
sum_told top f [] = refl
sum_told top f (x ∷ xs) = omega (arith, sum_by-cons (λ y. min (f y) top) x xs, sum_by-cons f x xs, sum_told top f xs)

one_more : (top w a b : ℕ) → min a top ≡ min b top → min (w + a) top ≡ min (w + b) top
one_more top w a b h = omega (arith, h)

-- the size of an element by those of its children
pub size_is : (flags : List Bool) (children : ℕ → List ℕ) (n : ℕ) (order : List ℕ) (e : ℕ) → Follows children [] order → length order ≤ n → among e order ≡ true → size flags children n e ≡ size_made flags children (size flags children n) e
size_is flags children n order e follows enough there = made_along (λ d. d) children (size_made flags children) 0 (size-uses flags children) order follows n enough e there

-- the same, where counts stay at the greatest
pub size_here : (flags : List Bool) (children : ℕ → List ℕ) (n : ℕ) (order : List ℕ) (e : ℕ) → Follows children [] order → length order ≤ n → among e order ≡ true → told (flag_weight (get_or flags e false) + sum_by (λ d. told (size flags children n d)) (children e)) ≡ told (size flags children n e)
size_here flags children n order e follows enough there =
    one_more (2 ^ 64 - 1) (flag_weight (get_or flags e false)) (sum_by (λ d. told (size flags children n d)) (children e)) (sum_by (size flags children n) (children e)) (sum_told (2 ^ 64 - 1) (size flags children n) (children e))
    ∙ ap told (sym (size_is flags children n order e follows enough there))
