-- A copy in the tree: the child that it makes in an element.
use Rattle.std.specs.Prelude.{◌≡◌, ◌⊎◌, ℕ, Bool, cond, List, Option, None, Some, Ok, Err}
use Rattle.patch_model.specs.Acts.{KeyList}
use Rattle.patch_sem.specs.declared.fault.PatchFault.{PatchFault}
use Rattle.patch_sem.specs.declared.fault.PatchFault.TheVariants.{CopyMissing, Memory}
use Rattle.patch_sem.specs.Selecting.{is_named}
use Rattle.patch_sem.specs.Steps.{Outcome}
use Rattle.patch_settings.specs.Setting.{with_set}
use Rattle.patch_edits.specs.Visits.{Below}
use Rattle.patch_growth.specs.Growths.{Growth}
use Rattle.svd_model.specs.Keys.{Key}
use Rattle.svd_model.specs.Steps.{Kind, Step}
use Rattle.svd_rows.specs.Forest.{Tree, leaf, node}

-- the first child that passes the test
unfoldable pub first_child : (Step → Bool) → Below → Option (Step × Tree Step Key)
first_child test leaf = None
first_child test (node step keys children siblings) =
    cond (test step) (Some (step, record { keys = keys; below = children })) (first_child test siblings)

abbrev pub copy_of : ℕ → List ℕ → KeyList → Option (Step × Tree Step Key) → Outcome (Kind × Tree Step Key)
copy_of line from keys None = Err (CopyMissing line from)
copy_of line from keys (Some child) = Ok (with_set keys (child.0.kind, child.1))

-- the child of a name once more, with other keys
abbrev pub copies_child : ℕ → List ℕ → List ℕ → KeyList → Growth
copies_child line name from keys = record {
  line = line;
  name = name;
  made = λ kind below. copy_of line from keys (first_child (is_named from) below);
}

-- no child has the name of what is to be copied
abbrev pub IsMissing : ℕ → List ℕ → PatchFault → Type 0
IsMissing line name fault = (fault ≡ Memory) ⊎ (fault ≡ CopyMissing line name)
