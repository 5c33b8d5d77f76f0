-- The array that stands for members, and where it is put.
use Rattle.std.specs.Prelude.{◌≡◌, ◌⊎◌, ℕ, ◌^◌, ◌-◌, min, List, [], ◌∷◌, ◌++◌, map, take, drop, Result, Ok, Err, IfOk, MatchResult, Vec}
use Rattle.patch_edits.specs.Edits.{Edited, Recounted}
use Rattle.patch_edits.specs.Visits.{Below}
use Rattle.patch_model.specs.Acts.{PatternItems}
use Rattle.patch_sem.specs.Arrays.{first_uneven, ordered_by, unless_uneven, unless_unlike}
use Rattle.patch_sem.specs.declared.fault.PatchFault.{PatchFault}
use Rattle.patch_sem.specs.declared.fault.PatchFault.TheVariants.{Memory}
use Rattle.patch_sem.specs.Steps.{Outcome}
use Rattle.patch_arrays.specs.Arranging.{Element, array_of, arraying_in, first_differing, offset_of, placed_step}
use Rattle.patch_arrays.specs.Members.{Seen, listed, under_key}
use Rattle.patch_arrays.specs.declared.parting.Parted.{Parted}
use Rattle.svd_model.specs.declared.sibling.Sibling.{Sibling}
use Rattle.svd_rows.specs.Forest.{siblings}

-- a step as the numbers of a description hold it: the greatest of them where it is above
abbrev pub capped : ℕ → ℕ
capped step = min step (2 ^ 64 - 1)

-- the key of the array
abbrev pub key_of : List ℕ → Sibling
key_of name = record { name = name; number = 0 }

-- the rest, unless members stand unevenly or one isn't like the first
abbrev pub unless_unfit : ℕ → List Element → Outcome Below → Outcome Below
unless_unfit line ordered rest = unless_uneven line (first_uneven (map placed_step ordered)) (unless_unlike line (first_differing ordered) rest)

-- the array of the members, put where the first of them stood among the others
pub record IsArranged {M : Type 0} (seen : M → Seen) (line : ℕ) (name : List ℕ) (members others : List (Sibling × M)) (place : ℕ) (made : List (Sibling × M)) : Type 0 where
  pub array : Sibling × M
  pub put : made ≡ take place others ++ (array ∷ drop place others)
  pub key : array.0 ≡ key_of name
  pub stands : map (under_key seen) (array ∷ []) ≡ array_of capped name (ordered_by offset_of (map (under_key seen) members))
  pub fits : (rest : Outcome Below) → unless_unfit line (ordered_by offset_of (map (under_key seen) members)) rest ≡ rest

-- the rest is taken as it is, or the fault comes instead of it
abbrev pub Passes : (Outcome Below → Outcome Below) → Result (Unit {0}) PatchFault → Type 0
Passes check result = MatchResult result (λ done. (rest : Outcome Below) → check rest ≡ rest) (λ fault. (fault ≡ Memory) ⊎ ((rest : Outcome Below) → check rest ≡ Err fault))

-- the array stands among the others, or the members' fault is told
abbrev pub MakesArray : {M Z : Type 0} → (M → Seen) → ℕ → List ℕ → Parted M → Result (Vec (Sibling × M) Z) PatchFault → Type 0
MakesArray seen line name parted result =
    MatchResult result
    (λ made. IsArranged seen line name parted.members.items parted.others.items parted.place made.items)
    (λ fault. (fault ≡ Memory) ⊎ ((rest : Outcome Below) → unless_unfit line (ordered_by offset_of (map (under_key seen) parted.members.items)) rest ≡ Err fault))

-- the children are those that the outcome says, or the fault is its
abbrev pub Arranges : {M Z : Type 0} → (M → Seen) → Outcome Below → Result (Vec (Sibling × M) Z) PatchFault → Type 0
Arranges seen outcome result =
    MatchResult result (λ made. outcome ≡ Ok (siblings (map (under_key seen) made.items))) (λ fault. (fault ≡ Memory) ⊎ (outcome ≡ Err fault))

-- the children become those that the array leaves, or the fault is its
abbrev pub Arrays : {M : Type 0} → (M → Seen) → ℕ → PatternItems → List ℕ → List (Sibling × M) → List (Sibling × M) → Result (Unit {0}) PatchFault → Type 0
Arrays seen line pattern name old new result = Edited (arraying_in capped line pattern name (map (under_key seen) old)) (listed seen new) result

-- a count of these children, with others, has become the count of those that are made, with the same others
abbrev pub MakesCounted : {M Z : Type 0} → (M → Seen) → Result (Vec (Sibling × M) Z) PatchFault → ℕ → List (Sibling × M) → ℕ → Type 0
MakesCounted seen result before old after = IfOk result (λ made. Recounted before (listed seen old) after (listed seen made.items))

-- all of them but the first
abbrev pub behind : List Element → List Element
behind [] = []
behind (first ∷ others) = others
