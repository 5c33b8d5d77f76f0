-- `_modify` in the lists of a description's tree: what each child is then, and when a new name is refused.
use Rattle.std.specs.Prelude.{◌≡◌, ◌⊎◌, ℕ, Bool, true, false, cond, ◌||◌, List, [], ◌∷◌, map, Option, Some, None, Result, Ok, Err, MatchResult}
use Rattle.std.specs.Str.{bytes_eq}
use Rattle.glob_select.specs.Matching.{matches}
use Rattle.patch_model.specs.Acts.{KeyList, PatternItems}
use Rattle.patch_sem.specs.declared.fault.PatchFault.{PatchFault}
use Rattle.patch_sem.specs.declared.fault.PatchFault.TheVariants.{AddExists, Memory}
use Rattle.patch_sem.specs.Copying.{renamed_step}
use Rattle.patch_sem.specs.Selecting.{is_named, selects}
use Rattle.patch_sem.specs.Settings.{container_of, keys_set, keys_with}
use Rattle.patch_sem.specs.Steps.{Outcome, refused_if}
use Rattle.svd_model.specs.declared.device.Item.{Item}
use Rattle.svd_model.specs.declared.sibling.Sibling.{Sibling}
use Rattle.svd_model.specs.Keys.{Key}
use Rattle.svd_model.specs.Steps.{Step}
use Rattle.svd_model.specs.Trees.{item_under}
use Rattle.svd_rows.specs.Forest.{Tree}

-- an element under its step
abbrev pub Element : Type 0
Element = Step × Tree Step Key

-- ---- each child

-- the keys that texts set, at a child that the pattern matches
abbrev pub keyed : PatternItems → KeyList → Element → Element
keyed pattern texts child =
    cond (selects pattern child.0) (child.0, record { keys = keys_with (keys_set (container_of child.0.kind) texts) child.1.keys; below = child.1.below }) child

-- and its new name, where there is one
abbrev pub under_new : PatternItems → Option (List ℕ) → Element → Element
under_new pattern None child = child
under_new pattern (Some name) child = cond (selects pattern child.0) (renamed_step name child.0, child.1) child

abbrev pub new_key : PatternItems → List ℕ → Sibling → Sibling
new_key pattern name key = cond (matches pattern key.name) (record { name = name; number = 0 }) key

abbrev pub new_entry : {V : Type 0} → PatternItems → Option (List ℕ) → (Sibling × V) → (Sibling × V)
new_entry pattern None entry = entry
new_entry pattern (Some name) entry = (new_key pattern name entry.0, entry.1)

-- what stands for children has the keys that texts set
abbrev pub AreKeyed : {A : Type 0} → (A → Element) → PatternItems → KeyList → List A → List A → Type 0
AreKeyed seen pattern texts old new = map seen new ≡ map (λ x. keyed pattern texts (seen x)) old

-- and stands under the new name
abbrev pub AreUnderNew : {A : Type 0} → (A → Element) → PatternItems → Option (List ℕ) → List A → List A → Type 0
AreUnderNew seen pattern name old new = map seen new ≡ map (λ x. under_new pattern name (seen x)) old

-- ---- a new name

-- does it hold of two, or of one where it did before?
abbrev pub twice : {A : Type 0} → (A → Bool) → Bool → List A → Bool
twice test before [] = false
twice test before (x ∷ xs) = cond (test x) (before || twice test true xs) (twice test before xs)

-- has a child the name then: does the pattern match it, or has it the name already?
abbrev pub comes_to : PatternItems → List ℕ → Element → Bool
comes_to pattern name child = selects pattern child.0 || is_named name child.0

abbrev pub key_comes_to : PatternItems → List ℕ → Sibling → Bool
key_comes_to pattern name key = matches pattern key.name || bytes_eq name key.name

abbrev pub entry_comes_to : {V : Type 0} → PatternItems → List ℕ → (Sibling × V) → Bool
entry_comes_to pattern name entry = key_comes_to pattern name entry.0

abbrev pub item_comes_to : PatternItems → List ℕ → Item → Bool
item_comes_to pattern name item = key_comes_to pattern name item.key

-- all is well
abbrev pub nothing : Outcome (Unit {0})
nothing = Ok tt

-- a new name is refused where two children would have it
abbrev pub allowed : {A : Type 0} → ℕ → (List ℕ → A → Bool) → Option (List ℕ) → List A → Outcome (Unit {0})
allowed line comes None all = nothing
allowed line comes (Some name) all = refused_if (twice (comes name) false all) (AddExists line name) nothing

-- what is said of the children then, unless their new name is refused
abbrev pub Renames : Outcome (Unit {0}) → Type 0 → Result (Unit {0}) PatchFault → Type 0
Renames allows Made result = MatchResult result (λ done. (allows ≡ nothing) × Made) (λ fault. (fault ≡ Memory) ⊎ (allows ≡ Err fault))

abbrev pub RenamesEntries : {V : Type 0} → ℕ → PatternItems → Option (List ℕ) → List (Sibling × V) → List (Sibling × V) → Result (Unit {0}) PatchFault → Type 0
RenamesEntries line pattern name old new result = Renames (allowed line (entry_comes_to pattern) name old) (new ≡ map (new_entry pattern name) old) result

abbrev pub RenamesItems : ℕ → PatternItems → Option (List ℕ) → List Item → List Item → Result (Unit {0}) PatchFault → Type 0
RenamesItems line pattern name old new result = Renames (allowed line (item_comes_to pattern) name old) (AreUnderNew item_under pattern name old new) result
