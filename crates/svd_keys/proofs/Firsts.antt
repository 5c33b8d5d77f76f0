-- The least of faults is the first of least place.
use Rattle.std.proofs.Common.{◌≡◌, ℕ, ◌<◌, ◌≤◌, List, [], ◌∷◌, ◌++◌, Bool, true, false, nat_le, refl, sym, ap, ◌∙◌, subst, arith, le_trans, Option, Some, None}
use Rattle.std.specs.List.{AllByRecursion}
use Rattle.std.proofs.lemmas.Bool.Decides.{nat_tests}
use Rattle.svd_keys.specs.declared.fault.PlacedFault.{PlacedFault}
use Rattle.svd_keys.specs.Earliest.{earlier, least}
use Rattle.svd_keys.specs.Laws.{IsFirstOf}
use Rattle.svd_keys.proofs.Orders.{earlier-none}

-- no fault is less than this one
abbrev NoneLess : PlacedFault → List PlacedFault → Type 0
NoneLess fault faults = AllByRecursion (λ other. fault.at ≤ other.at) faults

less_before : (first fault : PlacedFault) (before after : List PlacedFault) → first.at ≤ fault.at → AllByRecursion (λ other. fault.at < other.at) before → NoneLess fault after → NoneLess first (before ++ (fault ∷ after))
less_before first fault [] [] below b a = (below, tt)
less_before first fault [] (next ∷ after) below b a = (below, less_after (next ∷ after) a)
  where
    less_after : (faults : List PlacedFault) → NoneLess fault faults → NoneLess first faults
    less_after [] is = tt
    less_after (other ∷ others) is = (le_trans below is.0, less_after others is.1)
less_before first fault (next ∷ before) after below b a = (step first.at fault.at next.at below b.0, less_before first fault before after below b.1 a)
  where
    step : (x y z : ℕ) → x ≤ y → y < z → x ≤ z
    step x y z h k = omega arith

picked-some : (a b : PlacedFault) (is : Bool) → nat_le a.at b.at ≡ is → earlier (Some a) (Some b) ≡ None → ⊥
unfolding earlier
picked-some a b true e none = let no_fault : Some a ≡ None = rw e at none in cc
picked-some a b false e none = let no_fault : Some b ≡ None = rw e at none in cc

some_first : (a : PlacedFault) (b : Option PlacedFault) → earlier (Some a) b ≡ None → ⊥
some_first a None none = let no_fault : Some a ≡ None = sym (earlier-none (Some a)) ∙ none in cc
some_first a (Some b) none = picked-some a b (nat_le a.at b.at) refl none

least-none : (faults : List PlacedFault) → least faults ≡ None → faults ≡ []
unfolding least
least-none [] none = refl
least-none (first ∷ others) none = absurd (some_first first (least others) none)

is_some : (a b : PlacedFault) → Some a ≡ Some b → a ≡ b
is_some a b e = cc

front : (first : PlacedFault) (others : List PlacedFault) → NoneLess first others → IsFirstOf (first ∷ others) first
front first others none = record { before = []; after = others; whole = refl; earlier_than_before = tt; not_behind = none }

behind : (first fault : PlacedFault) (others : List PlacedFault) → fault.at < first.at → IsFirstOf others fault → IsFirstOf (first ∷ others) fault
behind first fault others less is = record {
  before = first ∷ is.before;
  after = is.after;
  whole = ap (λ faults. first ∷ faults) is.whole;
  earlier_than_before = (less, is.earlier_than_before);
  not_behind = is.not_behind;
}

one_of_two : (first next fault : PlacedFault) (others : List PlacedFault) (is : Bool) → nat_le first.at next.at ≡ is → IsFirstOf others next → earlier (Some first) (Some next) ≡ Some fault → IsFirstOf (first ∷ others) fault
unfolding earlier
one_of_two first next fault others true e is picked =
    let same : first ≡ fault = is_some first fault (rw e at picked) in
    subst (IsFirstOf (first ∷ others)) same
    (front first others (subst (NoneLess first) (sym is.whole) (less_before first next is.before is.after (below e) is.earlier_than_before is.not_behind)))
  where
    below : nat_le first.at next.at ≡ true → first.at ≤ next.at
    below h = grind (arith, nat_tests)
one_of_two first next fault others false e is picked =
    let same : next ≡ fault = is_some next fault (rw e at picked) in subst (IsFirstOf (first ∷ others)) same (behind first next others (above e) is)
  where
    above : nat_le first.at next.at ≡ false → next.at < first.at
    above h = grind (arith, nat_tests)

first-next : (first fault : PlacedFault) (others : List PlacedFault) (found : Option PlacedFault) → least others ≡ found → ((next : PlacedFault) → least others ≡ Some next → IsFirstOf others next)
    → earlier (Some first) found ≡ Some fault → IsFirstOf (first ∷ others) fault
first-next first fault others None none more picked =
    let same : first ≡ fault = is_some first fault (sym (earlier-none (Some first)) ∙ picked) in
    subst (IsFirstOf (first ∷ others)) same (front first others (subst (NoneLess first) (sym (least-none others none)) tt))
first-next first fault others (Some next) found more picked = one_of_two first next fault others (nat_le first.at next.at) refl (more next found) picked

pub least-first : (faults : List PlacedFault) (fault : PlacedFault) → least faults ≡ Some fault → IsFirstOf faults fault
unfolding least
least-first [] fault found = cc
least-first (first ∷ others) fault found = first-next first fault others (least others) refl (least-first others) found
