-- What an array in the tree is, beyond its definition.
use Rattle.std.specs.Prelude.{◌≡◌, ◌≤◌, ℕ, Bool, true, List, map, Option, Ok}
use Rattle.patch_edits.specs.Visits.{Below, visited}
use Rattle.patch_model.specs.Acts.{PatternItems}
use Rattle.patch_sem.specs.Arrays.{arraying}
use Rattle.patch_sem.specs.Steps.{Outcome, ◌>>=◌}
use Rattle.patch_arrays.specs.Arranging.{arrayed_below, arraying_in, elements, exact}
use Rattle.patch_arrays.specs.Siblings.{clashes, same_told, told}
use Rattle.svd_model.specs.declared.device.Peripheral.{Peripheral}
use Rattle.svd_model.specs.declared.sibling.Sibling.{Sibling}
use Rattle.svd_model.specs.Counting.{elements_in}
use Rattle.svd_model.specs.Facts.{IsElement, IsPlacedOrDerived}
use Rattle.svd_model.specs.Keys.{Key}
use Rattle.svd_model.specs.Steps.{Kind, Step, same_key, same_step}
use Rattle.svd_model.specs.Trees.{peripheral_under}
use Rattle.svd_rows.specs.Elements.{Every, IsDistinct}
use Rattle.svd_rows.specs.Forest.{Tree, siblings}
use Rattle.svd_rows.specs.Rows.{rows}

-- what an array leaves of the children of an element, or its fault, is what the command does among the element's rows
abbrev pub ArrayIsAmongRows : Type 0
ArrayIsAmongRows =
    (line : ℕ) (pattern : PatternItems) (name : List ℕ) (tree : Tree Step Key) → IsDistinct same_step tree.below
    → arraying line pattern name (rows tree) ≡ (arraying_in exact line pattern name (elements tree.below) >>= (λ new. Ok (rows (record { keys = tree.keys; below = new }))))

-- it leaves no more elements than there were
abbrev pub ArrayLeavesFewer : Type 0
ArrayLeavesFewer =
    (line : ℕ) (pattern : PatternItems) (name : List ℕ) (kind : Option Kind) (old new : Below) → arrayed_below exact line pattern name kind old ≡ Ok new → elements_in new ≤ elements_in old

-- and elements of a description
abbrev pub ArrayKeepsElements : Type 0
ArrayKeepsElements =
    (line : ℕ) (pattern : PatternItems) (name : List ℕ) (kind : Option Kind) (old new : Below) → arrayed_below exact line pattern name kind old ≡ Ok new → Every (IsElement IsPlacedOrDerived) old → Every (IsElement IsPlacedOrDerived) new

-- and siblings that are apart
abbrev pub ArrayKeepsSiblings : Type 0
ArrayKeepsSiblings =
    (line : ℕ) (pattern : PatternItems) (name : List ℕ) (kind : Option Kind) (old new : Below) → arrayed_below exact line pattern name kind old ≡ Ok new → IsDistinct clashes old → IsDistinct clashes new

-- as those of a device are
abbrev pub SiblingsAreApart : Type 0
SiblingsAreApart =
    (entries : List (Sibling × Peripheral)) → IsDistinct same_key (siblings (map peripheral_under entries)) → IsDistinct clashes (siblings (map peripheral_under entries))

-- edits that agree on elements of a description, as where a step is told in 64 bits or exactly, agree on a whole walk
abbrev pub BoundedEditsAgree : Type 0
BoundedEditsAgree =
    (edit other : Option Kind → Below → Outcome Below) → ((kind : Option Kind) (f : Below) → Every (IsElement IsPlacedOrDerived) f → edit kind f ≡ other kind f)
    → (tests : List (Step → Bool)) (kind : Option Kind) (f : Below) → Every (IsElement IsPlacedOrDerived) f → visited edit tests kind f ≡ visited other tests kind f

-- the test of likeness is true of elements that are equal but for their offsets, and of them alone
abbrev pub LikenessIsEquality : Type 0
LikenessIsEquality =
    (one other : Tree Step Key) → (same_told one other ≡ true → told one ≡ told other) × (told one ≡ told other → same_told one other ≡ true)
