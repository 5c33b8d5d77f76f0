-- What a walk that adds to a description leaves, or which fault it ends with.
use Rattle.std.specs.Prelude.{◌≡◌, ◌⊎◌, Bool, ◌&&◌, nat_eq, ℕ, ◌+◌, ◌≤◌, ◌<◌, List, Result, Ok, Err, MatchResult, Option, Some}
use Rattle.std.specs.Str.{bytes_eq}
use Rattle.patch_model.specs.Acts.{PatternItems}
use Rattle.patch_sem.specs.declared.fault.PatchFault.{PatchFault}
use Rattle.patch_sem.specs.declared.fault.PatchFault.TheVariants.{AddExists, Memory, TooMany}
use Rattle.patch_sem.specs.Selecting.{selects}
use Rattle.patch_sem.specs.Steps.{Outcome}
use Rattle.patch_growth.specs.Growths.{Tally, only_if}
use Rattle.patch_edits.specs.Visits.{Below}
use Rattle.svd_model.specs.Counting.{told_count}
use Rattle.svd_model.specs.Facts.{element_limit}
use Rattle.svd_model.specs.Keys.{Key}
use Rattle.svd_model.specs.declared.sibling.Sibling.{Sibling}
use Rattle.svd_model.specs.declared.counted.Counted.TheVariants.{Elements}
use Rattle.svd_model.specs.Steps.{Kind, Step}
use Rattle.svd_rows.specs.Forest.{Tree}

-- what was made is what the steps come to, or the fault is theirs; out of memory says nothing of them
abbrev pub Makes : {A B : Type 0} → (A → B) → Outcome B → Result A PatchFault → Type 0
Makes seen outcome result = MatchResult result (λ made. outcome ≡ Ok (seen made)) (λ fault. (fault ≡ Memory) ⊎ (outcome ≡ Err fault))

-- the count and what is left are what the steps come to
abbrev pub Grown : Outcome Tally → ℕ → Below → Result (Unit {0}) PatchFault → Type 0
Grown outcome total new result = Makes (λ done. (total, new)) outcome result

-- one element whose step the pattern matches, or not: what is below it is edited, and all else stays
abbrev pub GrownOne : PatternItems → (Kind → ℕ → Below → Outcome Tally) → ℕ → (Step × Tree Step Key) → ℕ → (Step × Tree Step Key) → Result (Unit {0}) PatchFault → Type 0
GrownOne pattern edit before old total new result =
    MatchResult result
    (λ done. (only_if (selects pattern old.0) (edit old.0.kind before old.1.below) (before, old.1.below) ≡ Ok (total, new.1.below)) × (new.0 ≡ old.0) × (new.1.keys ≡ old.1.keys))
    (λ fault. (fault ≡ Memory) ⊎ (only_if (selects pattern old.0) (edit old.0.kind before old.1.below) (before, old.1.below) ≡ Err fault))

-- what is below a register or cluster is edited, and all else stays
abbrev pub GrownChild : (Option Kind → ℕ → Below → Outcome Tally) → ℕ → (Kind × Tree Step Key) → ℕ → (Kind × Tree Step Key) → Result (Unit {0}) PatchFault → Type 0
GrownChild edit before old total new result =
    MatchResult result
    (λ done. (edit (Some old.0) before old.1.below ≡ Ok (total, new.1.below)) × (new.0 ≡ old.0) × (new.1.keys ≡ old.1.keys))
    (λ fault. (fault ≡ Memory) ⊎ (edit (Some old.0) before old.1.below ≡ Err fault))

-- a sibling has the name
abbrev pub IsThere : ℕ → List ℕ → PatchFault → Type 0
IsThere line name fault = (fault ≡ Memory) ⊎ (fault ≡ AddExists line name)

-- one more element with those below it is counted, where there aren't too many then
abbrev pub Counts : ℕ → ℕ → ℕ → Result (Unit {0}) PatchFault → Type 0
Counts before below total result =
    MatchResult result
    (λ done. (total ≡ told_count (before + (1 + below))) × (told_count (before + (1 + below)) ≤ element_limit))
    (λ fault. (fault ≡ TooMany Elements (told_count (before + (1 + below)))) × (element_limit < told_count (before + (1 + below))))

-- keys are told apart by name and number
abbrev pub same_sibling : Sibling → Sibling → Bool
same_sibling key other = bytes_eq key.name other.name && nat_eq key.number other.number
