-- The command at one element is the same in the tree as among its rows.
use Rattle.std.specs.Prelude.{◌≡◌, ℕ, List, Option, Ok}
use Rattle.patch_edits.specs.Visits.{Below}
use Rattle.patch_model.specs.Acts.{KeyList, PatternItems, modifies}
use Rattle.patch_sem.specs.Patching.{acted}
use Rattle.patch_sem.specs.Steps.{◌>>=◌}
use Rattle.patch_changes.specs.Changes.{changed_below}
use Rattle.svd_model.specs.Keys.{Key, rank}
use Rattle.svd_model.specs.Steps.{Kind, Step, same_step}
use Rattle.svd_rows.specs.Elements.{Every, IsDistinct}
use Rattle.svd_rows.specs.Forest.{Tree}
use Rattle.svd_rows.specs.Ranks.{IsRanked}
use Rattle.svd_rows.specs.Rows.{rows}

abbrev tree_with : List Key → Below → Tree Step Key
tree_with keys below = record { keys = keys; below = below }

-- where siblings have distinct steps, and the keys of each stand by rank
abbrev pub ModifyingIsChanging : Type 0
ModifyingIsChanging =
    (line : ℕ) (pattern : PatternItems) (texts : KeyList) (kind : Option Kind) (keys : List Key) (below : Below) → IsDistinct same_step below → Every (λ step keys. IsRanked rank keys) below
    → acted line (modifies pattern texts) kind (rows (tree_with keys below)) ≡ (changed_below line pattern texts kind below >>= (λ new. Ok (rows (tree_with keys new))))
