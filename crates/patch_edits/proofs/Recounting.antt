-- The running count of all elements, while some of them are edited.
use Rattle.std.proofs.Common.{◌≡◌, ◌≤◌, ℕ, ◌+◌, ◌-◌, ◌^◌, min, Bool, cond, not, List, map, filter, set, slice_get, IfOk, OnOk, Option, Some, Result, Ok, Err, sym, ap, ◌∙◌, arith}
use Rattle.patch_sem.specs.declared.fault.PatchFault.{PatchFault}
use Rattle.patch_sem.specs.Steps.{Outcome}
use Rattle.patch_edits.proofs.Contexts.{tree_with}
use Rattle.patch_edits.proofs.Totals.{total-parts, total-set, weight-within}
use Rattle.patch_edits.proofs.Walks.{Shrinks}
use Rattle.patch_edits.specs.Edits.{Edited, Recounted, Recounts}
use Rattle.patch_edits.specs.Visits.{Below}
use Rattle.svd_model.specs.Counting.{elements_in, told_count}
use Rattle.svd_model.specs.Facts.{IsFolded, element_limit, is_counted}
use Rattle.svd_model.specs.Keys.{Key}
use Rattle.svd_model.specs.Steps.{Kind, Step}
use Rattle.svd_rows.specs.Forest.{Tree, siblings}

-- a count below the limit is told whole
pub told-whole : (total n : ℕ) → total ≡ told_count n → n ≤ element_limit → total ≡ n
told-whole total n is few = omega (arith, is, few)

-- what stands below, seen in another way
pub recounts-same : {A B : Type 0} (below : A → Below) (inner : B → Below) (result : Result (Unit {0}) PatchFault) (before after : ℕ) (old new : A) (was is : B) → below old ≡ inner was → below new ≡ inner is → Recounts inner result before was after is → Recounts below result before old after new
recounts-same below inner (Ok done) before after old new was is p q recounted =
    λ others e. recounted others (e ∙ ap (λ (f : Below). others + elements_in f) p) ∙ ap (λ (f : Below). others + elements_in f) (sym q)
recounts-same below inner (Err fault) before after old new was is p q recounted = tt

-- as many elements as before
pub recounted-even : (total : ℕ) (old new : Below) → elements_in new ≡ elements_in old → Recounted total old total new
recounted-even total old new even others e = e ∙ ap (λ (n : ℕ). others + n) (sym even)

-- an edit leaves as many elements as there were
abbrev pub Evens : (Option Kind → Below → Outcome Below) → Type 0
Evens edit = (kind : Option Kind) (f new : Below) → edit kind f ≡ Ok new → elements_in new ≡ elements_in f

pub evens-shrinks : (edit : Option Kind → Below → Outcome Below) → Evens edit → Shrinks edit
evens-shrinks edit evens kind f new e = at_most (elements_in new) (elements_in f) (evens kind f new e)
  where
    at_most : (a b : ℕ) → a ≡ b → a ≤ b
    at_most a b e = omega (arith, e)

-- and then the count is as it was
pub recounts-even : {A : Type 0} (below : A → Below) (edit : Option Kind → Below → Outcome Below) → Evens edit → (kind : Option Kind) (total : ℕ) (old new : A) (result : Result (Unit {0}) PatchFault) → Edited (edit kind (below old)) (below new) result → Recounts below result total old total new
recounts-even below edit evens kind total old new (Ok done) edited = recounted-even total (below old) (below new) (evens kind (below old) (below new) edited)
recounts-even below edit evens kind total old new (Err fault) edited = tt

module _ {A : Type 0} (seen : A → Step × Tree Step Key) where
  -- one of some siblings is edited below its step, and counted
  pub recounted-step : (old now : List A) (i : ℕ) (x y : A) (first total next : ℕ) → slice_get now i ≡ Some x → (seen y).0 ≡ (seen x).0
      → Recounted total (seen x).1.below next (seen y).1.below → Recounted first (siblings (map seen old)) total (siblings (map seen now)) → Recounted first (siblings (map seen old)) next (siblings (map seen (set now i y)))
  recounted-step old now i x y first total next here step one before others e =
      sums others (elements_in (siblings (map seen now))) (elements_in (siblings (map seen (set now i y)))) (cond (is_counted (seen x).0) 1 0) (elements_in (seen x).1.below) (elements_in (seen y).1.below) total next
      (total-set seen now i x y here ∙ ap (λ (s : Step). elements_in (siblings (map seen now)) + (cond (is_counted s) 1 0 + elements_in (seen y).1.below)) step)
      (weight-within seen now i x here) (before others e) one
    where
      sums : (others n m a b d total next : ℕ) → m + (a + b) ≡ n + (a + d) → a + b ≤ n → total ≡ others + n → ((k : ℕ) → total ≡ k + b → next ≡ k + d) → next ≡ others + m
      sums others n m a b d total next placed within is one =
          one (others + (n - b)) (omega (arith, within, is)) ∙ omega (arith, placed, within)

  -- those that pass a test are taken away
  pub recounted-without : (test : A → Bool) (old new : List A) (total gone now : ℕ) → new ≡ filter (λ x. not (test x)) old → gone ≡ told_count (elements_in (siblings (map seen (filter test old)))) → total ≤ 2 ^ 64 - 1 → now ≡ total - gone
      → Recounted total (siblings (map seen old)) now (siblings (map seen new))
  recounted-without test old new total gone now is told fits less others e =
      sums (2 ^ 64 - 1) (elements_in (siblings (map seen (filter test old)))) (elements_in (siblings (map seen (filter (λ x. not (test x)) old)))) (elements_in (siblings (map seen old))) others total gone now (total-parts seen test old) told fits less e
      ∙ ap (λ (xs : List A). others + elements_in (siblings (map seen xs))) (sym is)
    where
      sums : (most a b n others total gone now : ℕ) → a + b ≡ n → gone ≡ min a most → total ≤ most → now ≡ total - gone → total ≡ others + n → now ≡ others + b
      sums most a b n others total gone now parts told fits less e = omega (arith, parts, told, fits, less, e)

-- of a whole device
pub device-counted : (OfField : List Key → Type 0) (keys : List Key) (f new : Below) (total now : ℕ) (result : Result (Unit {0}) PatchFault) → elements_in f ≤ element_limit → total ≡ told_count (elements_in f)
    → IfOk result (λ done. IsFolded OfField (tree_with keys new)) → OnOk result (Recounted total f now new) → OnOk result (now ≡ told_count (elements_in new))
device-counted OfField keys f new total now (Ok done) few is folded recounted =
    told (elements_in new) now (recounted 0 (whole (elements_in f) is few)) folded.few
  where
    whole : (n : ℕ) → total ≡ told_count n → n ≤ element_limit → total ≡ 0 + n
    whole n is few = omega (arith, is, few)

    told : (n now : ℕ) → now ≡ 0 + n → n ≤ element_limit → now ≡ told_count n
    told n now is few = omega (arith, is, few)
device-counted OfField keys f new total now (Err fault) few is folded recounted = tt
