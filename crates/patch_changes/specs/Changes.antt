-- `_modify` in the tree: the children of one element, each with other keys and under another name.
use Rattle.std.specs.Prelude.{ℕ, Bool, true, false, List, [], ◌∷◌, ◌++◌, Option, Some, None, Ok}
use Rattle.std.specs.List.{list_any}
use Rattle.patch_edits.specs.Deletions.{but_in_field, matched}
use Rattle.patch_edits.specs.Visits.{Below}
use Rattle.patch_model.specs.Acts.{KeyList, PatternItems}
use Rattle.patch_sem.specs.declared.fault.PatchFault.TheVariants.{AddExists}
use Rattle.patch_sem.specs.Copying.{renamed_step}
use Rattle.patch_sem.specs.Modifying.{new_name}
use Rattle.patch_sem.specs.Selecting.{is_named, selects}
use Rattle.patch_sem.specs.Settings.{container_of, keys_set, keys_with}
use Rattle.patch_sem.specs.Steps.{Outcome, ◌>>=◌, refused_if, unless_none}
use Rattle.svd_model.specs.Keys.{Key}
use Rattle.svd_model.specs.Steps.{Kind, Step}
use Rattle.svd_rows.specs.Forest.{leaf, node, steps}

-- a child under a new name, which none of its siblings may have
abbrev pub named : ℕ → List Step → Step → Option (List ℕ) → Outcome Step
named line others step None = Ok step
named line others step (Some name) = refused_if (list_any (is_named name) others) (AddExists line name) (Ok (renamed_step name step))

-- of the children, those that the pattern matches are changed
abbrev pub new_step : Bool → ℕ → Option (List ℕ) → List Step → Step → Outcome Step
new_step true line name others step = named line others step name
new_step false line name others step = Ok step

abbrev pub new_keys : Bool → KeyList → Step → List Key → List Key
new_keys true texts step keys = keys_with (keys_set (container_of step.kind) texts) keys
new_keys false texts step keys = keys

-- one sibling after the other, behind those before it as they are then
unfoldable pub changed_behind : ℕ → PatternItems → KeyList → Option (List ℕ) → List Step → Below → Outcome Below
changed_behind line pattern texts name before leaf = Ok leaf
changed_behind line pattern texts name before (node step keys children others) =
    new_step (selects pattern step) line name (before ++ steps others) step
    >>= (λ new. changed_behind line pattern texts name (before ++ new ∷ []) others
    >>= (λ rest. Ok (node new (new_keys (selects pattern step) texts step keys) children rest)))

-- the children with the keys that texts set, and under a new name where there is one
unfoldable pub changed_with : ℕ → PatternItems → KeyList → Option (List ℕ) → Option Kind → Below → Outcome Below
changed_with line pattern texts name kind below = but_in_field line kind (unless_none line (matched pattern below) (changed_behind line pattern texts name [] below))

-- the new name is one of the keys
abbrev pub changed_below : ℕ → PatternItems → KeyList → Option Kind → Below → Outcome Below
changed_below line pattern texts = changed_with line pattern texts (new_name texts)
