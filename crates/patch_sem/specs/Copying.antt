-- `_copy`: the child of a name once more under a new one, behind all rows of the parent, and then with other keys
-- (svdtools' patch documentation, narrowed).
use Rattle.std.specs.Prelude.{ℕ, List, [], ◌∷◌, ◌++◌, map, filter, find, Option, None, Some, Ok, Err}
use Rattle.std.specs.List.{list_any}
use Rattle.patch_model.specs.Acts.{KeyList}
use Rattle.svd_model.specs.Steps.{Step, same_step}
use Rattle.svd_rows.specs.LookUps.{children_of}
use Rattle.svd_rows.specs.Paths.{is_within}
use Rattle.svd_rows.specs.RowEdits.{moved, renamed_path}
use Rattle.patch_sem.specs.declared.fault.PatchFault.TheVariants.{AddExists, CopyMissing}
use Rattle.patch_sem.specs.Selecting.{Rows, is_named}
use Rattle.patch_sem.specs.Settings.{container_of, keys_set, with_keys}
use Rattle.patch_sem.specs.Steps.{Outcome, refused_if}

-- the step under another name
abbrev pub renamed_step : List ℕ → Step → Step
renamed_step name step = record { kind = step.kind; name = name; number = 0 }

-- the rows at and below a child, under another step
unfoldable pub group_of : Step → Step → Rows → Rows
group_of old new all = map (moved (renamed_path [] (λ _. new))) (filter (is_within (same_step old ∷ [])) all)

abbrev pub copied_from : ℕ → List ℕ → List ℕ → KeyList → Option Step → Rows → Outcome Rows
copied_from line name from keys None all = Err (CopyMissing line from)
copied_from line name from keys (Some step) all =
    Ok (with_keys (renamed_step name step ∷ []) (keys_set (container_of step.kind) keys) (all ++ group_of step (renamed_step name step) all))

unfoldable pub copying : ℕ → List ℕ → List ℕ → KeyList → Rows → Outcome Rows
copying line name from keys all =
    refused_if (list_any (is_named name) (children_of all)) (AddExists line name)
    (copied_from line name from keys (find (is_named from) (children_of all)) all)
