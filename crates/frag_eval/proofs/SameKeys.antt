-- The keys of a map tell places apart.
use Rattle.std.proofs.Common.{ℕ, ◌≡◌, Bool, true, false, not, ◌&&◌, ◌||◌, List, [], ◌∷◌, ◌++◌, map, Option, Some, None, bytes_eq, refl, sym, ap, ap₂, subst, ◌∙◌, arith}
use Rattle.std.specs.Prelude.{if◌then◌else◌, nat_eq}
use Rattle.std.specs.List.{list_any}
use Rattle.std.specs.Option.{option_eq}
use Rattle.std.specs.Cmp.Lexicographic.{pointwise}
use Rattle.std.proofs.lemmas.Bool.Decides.{nat_tests}
use Rattle.std.proofs.lemmas.Bool.{and_from}
use Rattle.std.proofs.lemmas.Slice.Eq.{bytes_eq-Decides}
use Rattle.std.proofs.lemmas.List.{map-append}
use Rattle.frag_tree.specs.declared.statement.Call.{Call}
use Rattle.frag_tree.specs.declared.statement.Place.{Place}
use Rattle.frag_sem.specs.Presets.{same_index, same_place, same_step}
use Rattle.frag_eval.specs.declared.keys.PlaceKey.{PlaceKey}
use Rattle.frag_eval.specs.declared.keys.StepKey.{StepKey}
use Rattle.frag_eval.specs.Keys.{key_seen, step_seen}
use Rattle.frag_eval.proofs.CalledPlaces.{place-tells}

-- ---- a place is the same as itself

index-same : (index : Option ℕ) → same_index index index ≡ true
index-same None = refl
index-same (Some n) = grind (arith, nat_tests)

steps-same : (steps : List Call) → pointwise same_step steps steps ≡ true
steps-same [] = refl
steps-same (step ∷ steps) =
    and_from (same_step step step) (pointwise same_step steps steps) (and_from (bytes_eq step.name step.name) (same_index step.index step.index) ((bytes_eq-Decides step.name step.name).1 refl) (index-same step.index)) (steps-same steps)

place-same : (one other : Place) → one ≡ other → same_place one other ≡ true
place-same one other is = subst (λ (p : Place). same_place one p ≡ true) is (and_from (bytes_eq one.slot one.slot) (pointwise same_step one.steps one.steps) ((bytes_eq-Decides one.slot one.slot).1 refl) (steps-same one.steps))

turned : (one other : Place) → same_place one other ≡ same_place other one
turned one other = by (same_place one other) (same_place other one) (λ h. place-same other one (sym (place-tells one other h))) (λ h. place-same one other (sym (place-tells other one h)))
  where
    by : (b c : Bool) → (b ≡ true → c ≡ true) → (c ≡ true → b ≡ true) → b ≡ c
    by true c f g = sym (f refl)
    by false true f g = g refl
    by false false f g = refl

-- ---- keys

abbrev pub step_eq : StepKey → StepKey → Bool
step_eq one other = bytes_eq one.name.now other.name.now && option_eq nat_eq one.index other.index

abbrev pub key_eq : PlaceKey → PlaceKey → Bool
key_eq one other = bytes_eq one.slot.now other.slot.now && pointwise step_eq one.steps.items other.steps.items

index-eq : (one other : Option ℕ) → option_eq nat_eq one other ≡ same_index one other
index-eq None None = refl
index-eq None (Some b) = refl
index-eq (Some a) None = refl
index-eq (Some a) (Some b) = refl

steps-eq : (one other : List StepKey) → pointwise step_eq one other ≡ pointwise same_step (map step_seen one) (map step_seen other)
steps-eq [] [] = refl
steps-eq [] (b ∷ other) = refl
steps-eq (a ∷ one) [] = refl
steps-eq (a ∷ one) (b ∷ other) = ap₂ (λ (x y : Bool). x && y) (ap (λ (i : Bool). bytes_eq a.name.now b.name.now && i) (index-eq a.index b.index)) (steps-eq one other)

key-eq : (one other : PlaceKey) → key_eq one other ≡ same_place (key_seen one) (key_seen other)
key-eq one other = ap (λ (s : Bool). bytes_eq one.slot.now other.slot.now && s) (steps-eq one.steps.items other.steps.items)

-- a key is among others just where its place is
pub keys-any : (keys : List PlaceKey) (key : PlaceKey) → list_any (key_eq key) keys ≡ list_any (λ other. same_place other (key_seen key)) (map key_seen keys)
keys-any [] key = refl
keys-any (first ∷ keys) key = ap₂ (λ (x y : Bool). x || y) (key-eq key first ∙ turned (key_seen key) (key_seen first)) (keys-any keys key)

pub fresh-is : (keys : List PlaceKey) (key : PlaceKey) (place : Place) (fresh : Bool) → key_seen key ≡ place → fresh ≡ not (list_any (key_eq key) keys) → fresh ≡ not (list_any (λ other. same_place other place) (map key_seen keys))
fresh-is keys key place fresh is new = new ∙ (ap not (keys-any keys key) ∙ ap (λ (p : Place). not (list_any (λ other. same_place other p) (map key_seen keys))) is)

pub kept-is : (keys now : List PlaceKey) (key : PlaceKey) (place : Place) (fresh : Bool) → key_seen key ≡ place → fresh ≡ not (list_any (key_eq key) keys) → now ≡ (if list_any (key_eq key) keys then keys else keys ++ key ∷ [])
    → map key_seen now ≡ (if fresh then map key_seen keys ++ place ∷ [] else map key_seen keys)
kept-is keys now key place fresh is new kept = ap (map key_seen) kept ∙ (by (list_any (key_eq key) keys) ∙ ap (λ b. if b then map key_seen keys ++ place ∷ [] else map key_seen keys) (sym new))
  where
    by : (b : Bool) → map key_seen (if b then keys else keys ++ key ∷ []) ≡ (if not b then map key_seen keys ++ place ∷ [] else map key_seen keys)
    by true = refl
    by false = map-append key_seen keys (key ∷ []) ∙ ap (λ (p : Place). map key_seen keys ++ p ∷ []) is
