-- What patches do, beyond the definition of each command.
use Rattle.std.specs.Prelude.{◌≡◌, ℕ, true, false, List, [], ◌∷◌, Some, Ok}
use Rattle.std.specs.List.{list_any}
use Rattle.std.specs.Str.{bytes_eq}
use Rattle.glob_select.specs.Matching.{matches}
use Rattle.patch_model.specs.Acts.{KeyList, Order, PatternItems}
use Rattle.svd_model.specs.Keys.{Key}
use Rattle.svd_model.specs.Steps.{Step, same_step}
use Rattle.svd_rows.specs.Forest.{Tree}
use Rattle.svd_rows.specs.LookUps.{children_of}
use Rattle.svd_rows.specs.Paths.{begins, exactly}
use Rattle.svd_rows.specs.RowEdits.{without}
use Rattle.svd_rows.specs.Rows.{rows}
use Rattle.patch_sem.specs.Copying.{copying, renamed_step}
use Rattle.patch_sem.specs.Modifying.{is_of_sibling, renaming}
use Rattle.patch_sem.specs.Patching.{applied_at, deleting}
use Rattle.patch_sem.specs.Selecting.{Rows, is_patched, selected, selects}

-- what a deletion matched is gone, whatever the rows are
abbrev pub DeletionLeavesNone : Type 0
DeletionLeavesNone =
    (line : ℕ) (pattern : PatternItems) (all new : Rows) → deleting line pattern all ≡ Ok new → selected pattern new ≡ []

-- neither element is the other, or stands below it
pub record AreApart (one other : List Step) : Type 0 where
  pub forth : begins (exactly same_step one) other ≡ false
  pub back : begins (exactly same_step other) one ≡ false

-- commands at two parents that are apart leave the same, whichever comes first
abbrev pub ApartCommute : Type 0
ApartCommute =
    (one other : Order) (here there : List Step) (all first second both turned : Rows) → AreApart here there
    → applied_at one here all ≡ Ok first → applied_at other there first ≡ Ok both
    → applied_at other there all ≡ Ok second → applied_at one here second ≡ Ok turned
    → both ≡ turned

-- where a copy was made, leaving out what has its name leaves the rows as they were, whatever keys the copy took
abbrev pub CopyLeftOutIsNothing : Type 0
CopyLeftOutIsNothing =
    (line : ℕ) (name from : List ℕ) (keys : KeyList) (pattern : PatternItems) (tree : Tree Step Key) (new : Rows)
    → ((other : List ℕ) → matches pattern other ≡ bytes_eq name other)
    → copying line name from keys (rows tree) ≡ Ok new
    → without (selects pattern ∷ []) new ≡ rows tree

-- where no other child has its name, a child that is renamed and renamed back is as it was
abbrev pub RenamedBackIsNothing : Type 0
RenamedBackIsNothing =
    (line again : ℕ) (step : Step) (name : List ℕ) (tree : Tree Step Key) (new : Rows)
    → is_patched step.kind ≡ true → step.number ≡ 0
    → list_any (is_of_sibling step.name step) (children_of (rows tree)) ≡ false
    → renaming line step (Some name) (rows tree) ≡ Ok new
    → renaming again (renamed_step name step) (Some step.name) new ≡ Ok (rows tree)
