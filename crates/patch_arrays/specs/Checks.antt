-- A check that refuses members, by what is found among them.
use Rattle.std.specs.Prelude.{◌≡◌, ◌⊎◌, ℕ, Bool, List, find, map, Option, None, Some, option_map, Result, MatchResult}
use Rattle.patch_sem.specs.Arrays.{is_uneven}
use Rattle.patch_sem.specs.declared.fault.PatchFault.{PatchFault}
use Rattle.patch_sem.specs.declared.fault.PatchFault.TheVariants.{ArrayUneven, ArrayUnlike, Memory}
use Rattle.patch_arrays.specs.Arranging.{Element, differs}
use Rattle.patch_arrays.specs.Members.{Seen, under_key}
use Rattle.svd_model.specs.declared.sibling.Sibling.{Sibling}
use Rattle.svd_model.specs.Steps.{Step}

-- what is found is refused
abbrev pub Refuses : {A : Type 0} → (A → PatchFault) → Option A → Result (Unit {0}) PatchFault → Type 0
Refuses told found result = MatchResult result (λ done. found ≡ None) (λ fault. (fault ≡ Memory) ⊎ (option_map told found ≡ Some fault))

abbrev pub uneven_pair : ℕ → ((Step × ℕ) × (Step × ℕ)) → Bool
uneven_pair step pair = is_uneven step pair.0 pair.1

abbrev pub uneven_fault : ℕ → ((Step × ℕ) × (Step × ℕ)) → PatchFault
uneven_fault line pair = ArrayUneven line pair.0.0.name pair.1.0.name

abbrev pub unlike_fault : ℕ → Element → Element → PatchFault
unlike_fault line first other = ArrayUnlike line first.0.name other.0.name

-- the first of these that isn't like the first member is refused
abbrev pub RefusesUnlike : {M : Type 0} → (M → Seen) → ℕ → (Sibling × M) → List (Sibling × M) → Result (Unit {0}) PatchFault → Type 0
RefusesUnlike seen line first others result =
    Refuses (unlike_fault line (under_key seen first)) (find (differs (under_key seen first)) (map (under_key seen) others)) result
