-- A step that a description can hold is told exactly, so what the code does at each parent is the array.
use Rattle.std.proofs.Common.{◌≡◌, ℕ, ◌<◌, ◌^◌, Bool, List, [], ◌∷◌, map, filter, length, Option, None, Some, Result, Ok, refl, sym, ap, subst, arith}
use Rattle.std.specs.List.{AllByRecursion}
use Rattle.patch_edits.specs.Edits.{Edited}
use Rattle.patch_edits.specs.Visits.{Below, visited}
use Rattle.patch_model.specs.Acts.{PatternItems}
use Rattle.patch_sem.specs.Arrays.{first_step, first_uneven, unless_uneven, unless_unlike}
use Rattle.patch_sem.specs.Copying.{renamed_step}
use Rattle.patch_sem.specs.declared.fault.PatchFault.{PatchFault}
use Rattle.patch_sem.specs.declared.fault.PatchFault.TheVariants.{AddExists}
use Rattle.patch_sem.specs.Steps.{Outcome, refused_if, unless_none}
use Rattle.patch_arrays.proofs.Bridging.{visited-same}
use Rattle.patch_arrays.proofs.Each.{each_kept, each_so}
use Rattle.patch_arrays.proofs.Elements.{siblings-elements}
use Rattle.patch_arrays.proofs.Near.{IsNear, near-every, peripherals-start}
use Rattle.patch_arrays.proofs.Ordering.{all_ordered}
use Rattle.patch_arrays.specs.Arranging.{Element, arranged, array_of, arrayed_below, arraying_in, dimmed, elements, exact, first_differing, is_member, is_taken, offset_of, placed_step}
use Rattle.patch_arrays.specs.Makings.{capped}
use Rattle.svd_model.specs.declared.device.Peripheral.{Peripheral}
use Rattle.svd_model.specs.declared.sibling.Sibling.{Sibling}
use Rattle.svd_model.specs.Facts.{IsElement, IsPlacedOrDerived}
use Rattle.svd_model.specs.Steps.{Kind, Step, peripheral, cluster, register, field, set, value}
use Rattle.svd_model.specs.Trees.{peripheral_under}
use Rattle.svd_rows.proofs.Siblings.{Every-each}
use Rattle.svd_rows.specs.Elements.{Every}
use Rattle.svd_rows.specs.Forest.{siblings}
use Rattle.svd_rows.specs.RowEdits.{exchanged}

abbrev IsNearBy : Element → Type 0
IsNearBy e = offset_of e < 2 ^ 64

capped-near : (n : ℕ) → n < 2 ^ 64 → capped n ≡ n
capped-near n less = grind (arith, less)

step-near : (xs : List Element) → AllByRecursion IsNearBy xs → first_step (map placed_step xs) < 2 ^ 64
step-near [] all = omega arith
step-near (one ∷ []) all = omega arith
step-near (one ∷ (other ∷ others)) all = let near = all.1.0 in omega (arith, near)

array-capped : (name : List ℕ) (xs : List Element) → AllByRecursion IsNearBy xs → array_of capped name xs ≡ array_of exact name xs
array-capped name [] all = refl
array-capped name (first ∷ others) all =
    ap (λ (step : ℕ). (renamed_step name first.0, record { keys = dimmed (length (first ∷ others)) step first.1.keys; below = first.1.below }) ∷ []) (capped-near (first_step (map placed_step (first ∷ others))) (step-near (first ∷ others) all))

module _ (line : ℕ) (pattern : PatternItems) (name : List ℕ) where
  near-each : (f : Below) → Every IsNear f → AllByRecursion IsNearBy (elements f)
  near-each f h =
      each_so (λ e. IsNear e.0 e.1.keys × Every IsNear e.1.below) IsNearBy (λ e k. k.0) (elements f) (Every-each IsNear (elements f) (subst (Every IsNear) (sym (siblings-elements f)) h))

  arraying-capped : (all : List Element) → AllByRecursion IsNearBy all → arraying_in capped line pattern name all ≡ arraying_in exact line pattern name all
  arraying-capped all near =
      ap (λ (made : List Element). unless_none line (filter (is_member pattern) all) (refused_if (is_taken pattern name all) (AddExists line name) (unless_uneven line (first_uneven (map placed_step (arranged pattern all))) (unless_unlike line (first_differing (arranged pattern all)) (Ok (siblings (exchanged (is_member pattern) made all)))))))
      (array-capped name (arranged pattern all) (all_ordered IsNearBy offset_of (filter (is_member pattern) all) (each_kept IsNearBy (is_member pattern) all near)))

  pub arrayed-capped : (kind : Option Kind) (f : Below) → Every IsNear f → arrayed_below capped line pattern name kind f ≡ arrayed_below exact line pattern name kind f
  unfolding arrayed_below
  arrayed-capped None f h = arraying-capped (elements f) (near-each f h)
  arrayed-capped (Some peripheral) f h = arraying-capped (elements f) (near-each f h)
  arrayed-capped (Some cluster) f h = arraying-capped (elements f) (near-each f h)
  arrayed-capped (Some register) f h = arraying-capped (elements f) (near-each f h)
  arrayed-capped (Some field) f h = refl
  arrayed-capped (Some set) f h = arraying-capped (elements f) (near-each f h)
  arrayed-capped (Some value) f h = arraying-capped (elements f) (near-each f h)

-- what a walk at a description leaves is what the array is
pub walk-exact : (line : ℕ) (pattern : PatternItems) (name : List ℕ) (tests : List (Step → Bool)) (entries : List (Sibling × Peripheral)) (new : Below) (result : Result (Unit {0}) PatchFault)
    → Every (IsElement IsPlacedOrDerived) (siblings (map peripheral_under entries))
    → Edited (visited (arrayed_below capped line pattern name) tests None (siblings (map peripheral_under entries))) new result
    → Edited (visited (arrayed_below exact line pattern name) tests None (siblings (map peripheral_under entries))) new result
walk-exact line pattern name tests entries new result every edited =
    subst (λ (outcome : Outcome Below). Edited outcome new result)
    (visited-same IsNear (arrayed_below capped line pattern name) (arrayed_below exact line pattern name) (arrayed-capped line pattern name) tests None (siblings (map peripheral_under entries)) (near-every (siblings (map peripheral_under entries)) every (peripherals-start entries)))
    edited
