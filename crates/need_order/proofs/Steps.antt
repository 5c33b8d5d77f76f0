-- The steps of a pass along an order.
use Rattle.std.proofs.Common.{◌≡◌, ℕ, zero, suc, ◌+◌, ◌<◌, ◌≤◌, Bool, true, false, nat_lt, List, [], ◌∷◌, length, take, get_or, map, sum_by, Some, slice_get, refl, sym, ap, ◌∙◌, subst, arith, Vec, ◌||◌}
use Rattle.std.proofs.lemmas.Bool.{lt-ltb, true≢false}
use Rattle.std.proofs.lemmas.List.{take_all}
use Rattle.std.proofs.lemmas.List.Sums.{sum_by-cons}
use Rattle.std.proofs.lemmas.Option.{slice_get-get_or}
use Rattle.std.specs.List.{list_any}
use Rattle.need_order.specs.declared.element.Element.{Element}
use Rattle.need_order.specs.Below.{IsSumAt, weigh}
use Rattle.need_order.specs.Children.{AreChildren, flag_weight}
use Rattle.need_order.specs.Needs.{among, needs, IsOrder}
use Rattle.need_order.specs.Settling.{Follows}
use Rattle.need_order.proofs.Following.{order_follows}
use Rattle.need_order.proofs.Sums.{IsClosed, at_place, children_follow, closed_at, needs_at, sum_here}

-- nothing is closed
none_closed : (children : ℕ → List ℕ) → IsClosed children []
none_closed children e d there p = absurd (true≢false (sym there))

module _ {Z : Type 0} (elements : List Element) (dropped : List (Vec ℕ Z)) (children : ℕ → List ℕ) (n : ℕ) (order : List ℕ) (are : AreChildren elements dropped children) (h : IsOrder (needs elements) n order) where
  pub follows : Follows children [] order
  follows = children_follow elements dropped children are [] order (order_follows (needs elements) n order h) (none_closed children)

  -- the element at a place is one of them
  pub inside_at : (i : ℕ) → i < length order → get_or order i 0 < n
  inside_at i inside = (h.whole (get_or order i 0)).0 (at_place order i inside)

  -- children of elements are elements
  pub child_inside : (e d : ℕ) → e < n → among d (children e) ≡ true → d < n
  child_inside e d inside p = let whole = take_all (length order) order (omega arith) in
      (h.whole d).0 (subst (λ xs. among d xs ≡ true) whole (closed_at children order (length order) follows e d (subst (λ xs. among e xs ≡ true) (sym whole) ((h.whole e).1 inside)) p))

  -- what the children of the next element weigh
  pub sum_next : (weight : ℕ → ℕ) (weights sums weights' sums' : List ℕ) (i sum : ℕ) → i < length order
      → ((d : ℕ) → among d (take i order) ≡ true → weigh weights d ≡ weight d)
      → ((d : ℕ) → among d (take i order) ≡ true → get_or sums d 0 ≡ sum_by weight (children d))
      → weights' ≡ weights → sums' ≡ sums
      → IsSumAt elements dropped weights' sums' (get_or order i 0) sum → sum ≡ sum_by weight (children (get_or order i 0))
  sum_next weight weights sums weights' sums' i sum inside weighed summed same_weights same_sums is =
      sum_here elements dropped children are weights sums weight (take i order) (get_or order i 0) sum (closed_at children order i follows)
      (λ d p. needs_at (needs elements) order i d (order_follows (needs elements) n order h) inside p) weighed summed
      (subst (λ ss. IsSumAt elements dropped weights ss (get_or order i 0) sum) same_sums (subst (λ ws. IsSumAt elements dropped ws sums' (get_or order i 0) sum) same_weights is))

  -- all are told at the end
  pub all_told : {X : Type 0} (past : X) (value_of : ℕ → X) (values : List X) (i : ℕ) → length order ≤ i → length values ≡ n
      → ((e : ℕ) → among e (take i order) ≡ true → get_or values e past ≡ value_of e) → (e : ℕ) → e < n → slice_get values e ≡ Some (value_of e)
  all_told past value_of values i done long so_far e inside =
      slice_get-get_or values e past (omega (arith, long, inside))
      ∙ ap Some (so_far e (subst (λ xs. among e xs ≡ true) (sym (take_all i order done)) ((h.whole e).1 inside)))

-- ---- flags as weights

pub weight_of_flag : (flags : List Bool) (d : ℕ) → weigh (map flag_weight flags) d ≡ flag_weight (get_or flags d false)
weight_of_flag [] d = refl
weight_of_flag (flag ∷ flags) zero = refl
weight_of_flag (flag ∷ flags) (suc d) = weight_of_flag flags d

one_flag : (b any : Bool) (total : ℕ) → nat_lt 0 total ≡ any → nat_lt 0 (flag_weight b + total) ≡ (b || any)
one_flag true any total same = lt-ltb 0 (1 + total) (omega arith)
one_flag false any total same = ap (nat_lt 0) {x = 0 + total} {y = total} (omega arith) ∙ same

-- some flag is set where they weigh something
pub some_flag : (test : ℕ → Bool) (xs : List ℕ) → nat_lt 0 (sum_by (λ d. flag_weight (test d)) xs) ≡ list_any test xs
some_flag test [] = refl
some_flag test (x ∷ xs) =
    ap (nat_lt 0) (sum_by-cons (λ d. flag_weight (test d)) x xs) ∙ one_flag (test x) (list_any test xs) (sum_by (λ d. flag_weight (test d)) xs) (some_flag test xs)
