-- `_modify`: keys are set at each matching child in turn, and a new name renames it in its place (svdtools' patch
-- documentation, narrowed).
use Rattle.std.specs.Prelude.{ℕ, Bool, not, ◌&&◌, List, [], ◌∷◌, map, codes, Option, None, Some, Ok}
use Rattle.std.specs.List.{list_any}
use Rattle.std.specs.Map.{lookup}
use Rattle.std.specs.Str.{bytes_eq}
use Rattle.patch_model.specs.Acts.{KeyList, PatternItems}
use Rattle.svd_model.specs.Steps.{Step, same_step}
use Rattle.svd_rows.specs.LookUps.{children_of}
use Rattle.svd_rows.specs.RowEdits.{moved, other_step, renamed_path}
use Rattle.patch_sem.specs.declared.fault.PatchFault.TheVariants.{AddExists}
use Rattle.patch_sem.specs.Copying.{renamed_step}
use Rattle.patch_sem.specs.Selecting.{Rows, is_named, selected}
use Rattle.patch_sem.specs.Settings.{container_of, keys_set, with_keys}
use Rattle.patch_sem.specs.Steps.{Outcome, ◌>>=◌, refused_if, unless_none}

-- the new name among the keys
abbrev pub new_name : KeyList → Option (List ℕ)
new_name keys = lookup (bytes_eq (codes "name")) keys

-- has a sibling of this child the name?
abbrev pub is_of_sibling : List ℕ → Step → Step → Bool
is_of_sibling name step other = is_named name other && not (same_step step other)

-- the child under another step, in its place
abbrev pub under_name : Step → List ℕ → Rows → Rows
under_name step name all = map (moved (renamed_path [] (other_step same_step step (renamed_step name step)))) all

abbrev pub renaming : ℕ → Step → Option (List ℕ) → Rows → Outcome Rows
renaming line step None all = Ok all
renaming line step (Some name) all =
    refused_if (list_any (is_of_sibling name step) (children_of all)) (AddExists line name) (Ok (under_name step name all))

-- one child
abbrev pub modified : ℕ → KeyList → Step → Rows → Outcome Rows
modified line keys step all =
    renaming line step (new_name keys) (with_keys (step ∷ []) (keys_set (container_of step.kind) keys) all)

-- one child after the other
unfoldable pub modified_each : ℕ → KeyList → List Step → Rows → Outcome Rows
modified_each line keys [] all = Ok all
modified_each line keys (step ∷ steps) all = modified line keys step all >>= modified_each line keys steps

unfoldable pub modifying : ℕ → PatternItems → KeyList → Rows → Outcome Rows
modifying line pattern keys all = unless_none line (selected pattern all) (modified_each line keys (selected pattern all) all)
