-- Members that are checked one after the other.
use Rattle.std.proofs.Common.{◌≡◌, ℕ, Bool, true, false, cond, List, [], ◌∷◌, map, find, length, Option, None, Some, option_map, Result, Ok, Err, inl, inr, ◌⊎◌, refl, sym, ap, ◌∙◌, arith}
use Rattle.patch_edits.specs.Visits.{Below}
use Rattle.patch_sem.specs.Arrays.{first_step, first_uneven, is_uneven, neighbours, unless_uneven, unless_unlike}
use Rattle.patch_sem.specs.declared.fault.PatchFault.{PatchFault}
use Rattle.patch_sem.specs.declared.fault.PatchFault.TheVariants.{Memory}
use Rattle.patch_sem.specs.Steps.{Outcome}
use Rattle.patch_arrays.specs.Arranging.{Element, differs, first_differing, placed_step}
use Rattle.patch_arrays.specs.Checks.{Refuses, uneven_fault, uneven_pair, unlike_fault}
use Rattle.patch_arrays.specs.Makings.{Passes, unless_unfit}
use Rattle.svd_model.specs.Steps.{Step}

abbrev Pair : Type 0
Pair = (Step × ℕ) × (Step × ℕ)

module _ {A : Type 0} (under : A → Element) where
  -- the first neighbours that stand unevenly
  abbrev pub uneven_in : ℕ → List A → Option Pair
  uneven_in step rest = find (uneven_pair step) (neighbours (map placed_step (map under rest)))

  pub uneven-none : (step : ℕ) (rest : List A) → length rest ≡ 0 → uneven_in step rest ≡ None
  unfolding neighbours
  uneven-none step [] none = refl
  uneven-none step (x ∷ rest) none = absurd (omega (arith, none))

  pub uneven-alone : (step : ℕ) (rest : List A) (one : A) (others : List A) → rest ≡ one ∷ others → length others ≡ 0 → uneven_in step rest ≡ None
  unfolding neighbours
  uneven-alone step rest one [] is none = ap (uneven_in step) is
  uneven-alone step rest one (x ∷ others) is none = absurd (omega (arith, none))

  pub uneven-step : (step : ℕ) (rest : List A) (one : A) (others : List A) (other : A) (behind : List A) → rest ≡ one ∷ others → others ≡ other ∷ behind → is_uneven step (placed_step (under one)) (placed_step (under other)) ≡ false → uneven_in step rest ≡ uneven_in step others
  unfolding neighbours
  uneven-step step rest one others other behind is next even =
      ap (uneven_in step) (is ∙ ap (λ (r : List A). one ∷ r) next)
      ∙ ap (λ (b : Bool). cond b (Some (placed_step (under one), placed_step (under other))) (uneven_in step (other ∷ behind))) even
      ∙ ap (uneven_in step) (sym next)

  pub uneven-found : (step : ℕ) (rest : List A) (one : A) (others : List A) (other : A) (behind : List A) → rest ≡ one ∷ others → others ≡ other ∷ behind → is_uneven step (placed_step (under one)) (placed_step (under other)) ≡ true → uneven_in step rest ≡ Some (placed_step (under one), placed_step (under other))
  unfolding neighbours
  uneven-found step rest one others other behind is next uneven =
      ap (uneven_in step) (is ∙ ap (λ (r : List A). one ∷ r) next)
      ∙ ap (λ (b : Bool). cond b (Some (placed_step (under one), placed_step (under other))) (uneven_in step (other ∷ behind))) uneven

  -- the first that isn't like one
  abbrev pub unlike_in : Element → List A → Option Element
  unlike_in first rest = find (differs first) (map under rest)

-- ---- both checks

module _ (line : ℕ) where
  pub unfit-by-steps : (members : List Element) (found : Option Pair) (fault : PatchFault) → first_uneven (map placed_step members) ≡ found → option_map (uneven_fault line) found ≡ Some fault → (rest : Outcome Below) → unless_unfit line members rest ≡ Err fault
  unfit-by-steps members None fault is e rest = cc
  unfit-by-steps members (Some pair) fault is e rest =
      let same : uneven_fault line pair ≡ fault = cc in
      ap (λ (o : Option Pair). unless_uneven line o (unless_unlike line (first_differing members) rest)) is ∙ ap Err same

  even-passes : (members : List Element) (rest : Outcome Below) → first_uneven (map placed_step members) ≡ None → unless_unfit line members rest ≡ unless_unlike line (first_differing members) rest
  even-passes members rest even = ap (λ (o : Option Pair). unless_uneven line o (unless_unlike line (first_differing members) rest)) even

  pub unfit-by-likeness : (first : Element) (others : List Element) (found : Option Element) (fault : PatchFault) → first_uneven (map placed_step (first ∷ others)) ≡ None → find (differs first) others ≡ found → option_map (unlike_fault line first) found ≡ Some fault → (rest : Outcome Below) → unless_unfit line (first ∷ others) rest ≡ Err fault
  unfit-by-likeness first others None fault even is e rest = cc
  unfit-by-likeness first others (Some other) fault even is e rest =
      let same : unlike_fault line first other ≡ fault = cc in
      even-passes (first ∷ others) rest even
      ∙ ap (λ (o : Option Element). unless_unlike line (option_map (λ (x : Element). (first.0, x.0)) o) rest) is
      ∙ ap Err same

  pub fit-both : (first : Element) (others : List Element) (rest : Outcome Below) → first_uneven (map placed_step (first ∷ others)) ≡ None → find (differs first) others ≡ None → unless_unfit line (first ∷ others) rest ≡ rest
  fit-both first others rest even alike =
      even-passes (first ∷ others) rest even
      ∙ ap (λ (o : Option Element). unless_unlike line (option_map (λ (x : Element). (first.0, x.0)) o) rest) alike

  pub fit-none : (rest : Outcome Below) → unless_unfit line [] rest ≡ rest
  unfolding first_uneven neighbours
  fit-none rest = refl

-- ---- whatever comes behind

pub first_uneven-is : (members : List Element) → first_uneven (map placed_step members) ≡ find (uneven_pair (first_step (map placed_step members))) (neighbours (map placed_step members))
unfolding first_uneven
first_uneven-is members = refl

-- ---- results

pub steps-refused : {A : Type 0} (told : A → PatchFault) (found : Option A) (pair : A) (fault : PatchFault) → found ≡ Some pair → (fault ≡ Memory) ⊎ (fault ≡ told pair) → (fault ≡ Memory) ⊎ (option_map told found ≡ Some fault)
steps-refused told found pair fault is (inl memory) = inl memory
steps-refused told found pair fault is (inr e) = inr (ap (option_map told) is ∙ ap Some (sym e))

-- the checks of both, where that of the steps refuses
pub passes-steps : (line : ℕ) (members : List Element) (step : ℕ) (fault : PatchFault) → step ≡ first_step (map placed_step members) → (fault ≡ Memory) ⊎ (option_map (uneven_fault line) (find (uneven_pair step) (neighbours (map placed_step members))) ≡ Some fault) → (fault ≡ Memory) ⊎ ((rest : Outcome Below) → unless_unfit line members rest ≡ Err fault)
passes-steps line members step fault is (inl memory) = inl memory
passes-steps line members step fault is (inr e) = inr (unfit-by-steps line members (find (uneven_pair step) (neighbours (map placed_step members))) fault (first_uneven-is members ∙ sym (ap (λ (n : ℕ). find (uneven_pair n) (neighbours (map placed_step members))) is)) e)

even-all : (members : List Element) (step : ℕ) → step ≡ first_step (map placed_step members) → find (uneven_pair step) (neighbours (map placed_step members)) ≡ None → first_uneven (map placed_step members) ≡ None
even-all members step is none = first_uneven-is members ∙ sym (ap (λ (n : ℕ). find (uneven_pair n) (neighbours (map placed_step members))) is) ∙ none

pub passes-none : (line : ℕ) (members : List Element) → length members ≡ 0 → (rest : Outcome Below) → unless_unfit line members rest ≡ rest
passes-none line [] none rest = fit-none line rest
passes-none line (x ∷ members) none rest = absurd (omega (arith, none))

-- and where they stand evenly, that of likeness decides
pub passes-likeness : (line : ℕ) (members : List Element) (step : ℕ) (first : Element) (others : List Element) (result : Result (Unit {0}) PatchFault) → step ≡ first_step (map placed_step members) → find (uneven_pair step) (neighbours (map placed_step members)) ≡ None → members ≡ first ∷ others → Refuses (unlike_fault line first) (find (differs first) others) result → Passes (unless_unfit line members) result
passes-likeness line members step first others (Ok done) is even split alike =
    λ rest. ap (λ (all : List Element). unless_unfit line all rest) split ∙ fit-both line first others rest (sym (ap (λ (all : List Element). first_uneven (map placed_step all)) split) ∙ even-all members step is even) alike
passes-likeness line members step first others (Err fault) is even split (inl memory) = inl memory
passes-likeness line members step first others (Err fault) is even split (inr e) =
    inr (λ rest. ap (λ (all : List Element). unless_unfit line all rest) split ∙ unfit-by-likeness line first others (find (differs first) others) fault (sym (ap (λ (all : List Element). first_uneven (map placed_step all)) split) ∙ even-all members step is even) refl e rest)
