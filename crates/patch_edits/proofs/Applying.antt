-- A walk through a device leaves what the command leaves of its flat rows.
use Rattle.std.proofs.Common.{◌≡◌, ◌≤◌, ℕ, Bool, List, map, IfOk, arith, Option, None, Result, Ok, Err, ap, ◌∙◌, inl, inr}
use Rattle.patch_model.specs.Acts.{Order}
use Rattle.patch_sem.specs.declared.fault.PatchFault.{PatchFault}
use Rattle.patch_sem.specs.Patching.{applied, places_of}
use Rattle.patch_sem.specs.Selecting.{selects}
use Rattle.patch_sem.specs.Steps.{Outcome, ◌>>=◌}
use Rattle.patch_edits.proofs.Contexts.{tree_with}
use Rattle.patch_edits.proofs.Keeping.{Keeps, visited-distinct, visited-every}
use Rattle.patch_edits.proofs.Walks.{Agrees, AgreesWhere, GoesDown, Shrinks, visited-fewer, walk-applied, walk-applied-where}
use Rattle.patch_edits.specs.Commands.{IsApplied}
use Rattle.patch_edits.specs.Edits.{Edited}
use Rattle.patch_edits.specs.Visits.{Below, visited}
use Rattle.svd_model.proofs.Steps.{same_step-finer}
use Rattle.svd_model.specs.Counting.{elements_in}
use Rattle.svd_model.specs.Facts.{IsElement, IsFolded, element_limit}
use Rattle.svd_model.specs.Keys.{Key}
use Rattle.svd_model.specs.Steps.{Kind, Step, same_key, same_step}
use Rattle.svd_rows.proofs.Facts.{IsDistinct-finer}
use Rattle.svd_rows.specs.Elements.{Every, IsDistinct}
use Rattle.svd_rows.specs.LookUps.{element_paths}
use Rattle.svd_rows.specs.Rows.{rows}

module _ (order : Order) (edit : Option Kind → Below → Outcome Below) (keys : List Key) (f : Below) where
  left-of : (new : Below) (result : Result (Unit {0}) PatchFault) → applied order (rows (tree_with keys f)) ≡ (visited edit (map selects order.parents) None f >>= (λ left. Ok (rows (tree_with keys left))))
      → Edited (visited edit (map selects order.parents) None f) new result → IsApplied order (rows (tree_with keys f)) (rows (tree_with keys new)) result
  left-of new (Ok done) walked e = walked ∙ ap (λ (made : Outcome Below). made >>= (λ left. Ok (rows (tree_with keys left)))) e
  left-of new (Err fault) walked (inl memory) = inl memory
  left-of new (Err fault) walked (inr e) = inr (walked ∙ ap (λ (made : Outcome Below). made >>= (λ left. Ok (rows (tree_with keys left)))) e)

pub device-applied : (order : Order) (edit : Option Kind → Below → Outcome Below) → Agrees order edit → Shrinks edit → (keys : List Key) (f new : Below) (result : Result (Unit {0}) PatchFault) → IsDistinct same_key f → elements_in f ≤ element_limit
    → places_of order.deed order.parents (rows (tree_with keys f)) ≡ element_paths (map selects order.parents) (rows (tree_with keys f))
    → Edited (visited edit (map selects order.parents) None f) new result → IsApplied order (rows (tree_with keys f)) (rows (tree_with keys new)) result
device-applied order edit agrees shrinks keys f new result distinct few places e =
    left-of order edit keys f new result (walk-applied order edit agrees shrinks keys f (IsDistinct-finer same_key same_step same_step-finer f distinct) few places) e

-- the same where something holds of what is below each element
pub device-applied-where : (Holds : Option Kind → Below → Type 0) → GoesDown Holds → (order : Order) (edit : Option Kind → Below → Outcome Below) → AgreesWhere Holds order edit → Shrinks edit → (keys : List Key) (f new : Below) (result : Result (Unit {0}) PatchFault) → Holds None f → IsDistinct same_key f → elements_in f ≤ element_limit
    → places_of order.deed order.parents (rows (tree_with keys f)) ≡ element_paths (map selects order.parents) (rows (tree_with keys f))
    → Edited (visited edit (map selects order.parents) None f) new result → IsApplied order (rows (tree_with keys f)) (rows (tree_with keys new)) result
device-applied-where Holds down order edit agrees shrinks keys f new result holds distinct few places e =
    left-of order edit keys f new result (walk-applied-where Holds down order edit agrees shrinks keys f holds (IsDistinct-finer same_key same_step same_step-finer f distinct) few places) e

-- and the description stays one, where the edit keeps what is said of each element and that siblings are distinct
pub device-folded : (OfField : List Key → Type 0) (edit : Option Kind → Below → Outcome Below) (tests : List (Step → Bool)) → Shrinks edit → Keeps (Every (IsElement OfField)) edit → Keeps (IsDistinct same_key) edit → (keys : List Key) (f new : Below) (result : Result (Unit {0}) PatchFault)
    → IsFolded OfField (tree_with keys f) → Edited (visited edit tests None f) new result → IfOk result (λ done. IsFolded OfField (tree_with keys new))
device-folded OfField edit tests shrinks every distinct keys f new (Ok done) folded e = record {
  distinct = visited-distinct edit distinct tests None f new e folded.distinct;
  elements = visited-every (IsElement OfField) edit every tests None f new e folded.elements;
  few = less (elements_in new) (elements_in f) (visited-fewer edit shrinks tests None f new e) folded.few;
}
  where
    less : (a b : ℕ) → a ≤ b → b ≤ element_limit → a ≤ element_limit
    less a b fewer few = omega (arith, fewer, few)
device-folded OfField edit tests shrinks every distinct keys f new (Err fault) folded e = tt
