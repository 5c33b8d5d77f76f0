-- A walk through a device that adds to it leaves what the command leaves of its flat rows, and the description stays one.
use Rattle.std.proofs.Common.{◌≡◌, ◌≤◌, ℕ, ◌+◌, true, List, map, IfOk, OnOk, arith, None, Result, Ok, Err, sym, ap, ◌∙◌, inl, inr, subst}
use Rattle.patch_model.specs.Acts.{Order, PatternItems}
use Rattle.patch_sem.specs.declared.fault.PatchFault.{PatchFault}
use Rattle.patch_sem.specs.Patching.{applied, places_of}
use Rattle.patch_sem.specs.Selecting.{Rows, selects}
use Rattle.patch_sem.specs.Steps.{Outcome, ◌>>=◌}
use Rattle.patch_edits.proofs.Contexts.{tree_with}
use Rattle.patch_edits.specs.Commands.{IsApplied}
use Rattle.patch_edits.specs.Visits.{Below}
use Rattle.patch_growth.proofs.Counted.{visited-fits, visited-rises}
use Rattle.patch_growth.proofs.Sound.{MakesSound, device-sound}
use Rattle.patch_growth.proofs.Typed.{IsTyped}
use Rattle.patch_growth.proofs.Walks.{Agrees, walk-applied}
use Rattle.patch_growth.specs.Grown.{Grown}
use Rattle.patch_growth.specs.Growths.{Growth, Tally, grown_all}
use Rattle.svd_model.proofs.Steps.{same_step-finer}
use Rattle.svd_model.specs.Counting.{elements_in, told_count}
use Rattle.svd_model.specs.Facts.{IsFolded, IsPlacedOrDerived, element_limit}
use Rattle.svd_model.specs.Keys.{Key}
use Rattle.svd_model.specs.Steps.{same_key, same_step}
use Rattle.svd_rows.proofs.Facts.{IsDistinct-finer}
use Rattle.svd_rows.specs.LookUps.{element_paths}
use Rattle.svd_rows.specs.Rows.{rows}

module _ (growth : Growth) (keys : List Key) (f new : Below) (total now : ℕ) (typed : IsTyped true f) (folded : IsFolded IsPlacedOrDerived (tree_with keys f)) (count : total ≡ elements_in f) where
  pub device-grown : (order : Order) → Agrees order growth → (result : Result (Unit {0}) PatchFault)
      → places_of order.deed order.parents (rows (tree_with keys f)) ≡ element_paths (map selects order.parents) (rows (tree_with keys f))
      → Grown (grown_all growth (map selects order.parents) None total f) now new result → IsApplied order (rows (tree_with keys f)) (rows (tree_with keys new)) result
  device-grown order agrees result places e = cases result e
    where
      put : Outcome Tally → Outcome Rows
      put made = made >>= (λ left. Ok (rows (tree_with keys left.1)))

      walked : applied order (rows (tree_with keys f)) ≡ put (grown_all growth (map selects order.parents) None total f)
      walked =
          walk-applied order growth agrees keys f (IsDistinct-finer same_key same_step same_step-finer f folded.distinct) typed places
          ∙ ap (λ (n : ℕ). put (grown_all growth (map selects order.parents) None n f)) (sym count)

      cases : (result : Result (Unit {0}) PatchFault) → Grown (grown_all growth (map selects order.parents) None total f) now new result → IsApplied order (rows (tree_with keys f)) (rows (tree_with keys new)) result
      cases (Ok done) e = walked ∙ ap put e
      cases (Err fault) (inl memory) = inl memory
      cases (Err fault) (inr e) = inr (walked ∙ ap put e)

  pub device-kept : MakesSound growth → (patterns : List PatternItems) (result : Result (Unit {0}) PatchFault) → Grown (grown_all growth (map selects patterns) None total f) now new result → IfOk result (λ done. IsFolded IsPlacedOrDerived (tree_with keys new))
  device-kept makes patterns (Ok done) e =
      let sound = device-sound growth makes patterns total f (now, new) typed (record { elements = folded.elements; distinct = folded.distinct }) e in
      record {
        distinct = sound.distinct;
        elements = sound.elements;
        few = less now (elements_in f) (elements_in new) total (visited-rises growth (map selects patterns) None total f (now, new) e) count (visited-fits growth (map selects patterns) None total f (now, new) e (subst (λ (n : ℕ). n ≤ element_limit) (sym count) folded.few));
      }
    where
      less : (z a b t : ℕ) → z + a ≡ t + b → t ≡ a → z ≤ element_limit → b ≤ element_limit
      less z a b t rises is few = omega (arith, rises, is, few)
  device-kept makes patterns (Err fault) e = tt

  -- and the running count is that of what is left
  pub device-told : (patterns : List PatternItems) (result : Result (Unit {0}) PatchFault) → Grown (grown_all growth (map selects patterns) None total f) now new result → OnOk result (now ≡ told_count (elements_in new))
  device-told patterns (Ok done) e =
      told now (elements_in f) (elements_in new) total (visited-rises growth (map selects patterns) None total f (now, new) e) count (visited-fits growth (map selects patterns) None total f (now, new) e (subst (λ (n : ℕ). n ≤ element_limit) (sym count) folded.few))
    where
      told : (z a b t : ℕ) → z + a ≡ t + b → t ≡ a → z ≤ element_limit → z ≡ told_count b
      told z a b t rises is few = omega (arith, rises, is, few)
  device-told patterns (Err fault) e = tt
