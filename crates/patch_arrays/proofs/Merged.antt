-- An array counts as its first member: the others are gone.
use Rattle.std.proofs.Common.{◌≡◌, ◌≤◌, ℕ, ◌+◌, ◌-◌, ◌^◌, min, Bool, true, List, [], ◌∷◌, ◌++◌, map, take, drop, Result, Ok, Err, Vec, refl, sym, ap, ap₂, ◌∙◌, arith}
use Rattle.std.proofs.lemmas.List.{map-append, take-append-drop}
use Rattle.patch_edits.specs.Edits.{Recounted}
use Rattle.patch_sem.specs.Arrays.{ordered_by}
use Rattle.patch_sem.specs.declared.fault.PatchFault.{PatchFault}
use Rattle.patch_sem.specs.Selecting.{is_patched}
use Rattle.patch_arrays.proofs.Fewer.{counted, total, total-append, total-ordered}
use Rattle.patch_arrays.specs.Arranging.{Element, array_of, offset_of}
use Rattle.patch_arrays.specs.declared.parting.Parted.{Parted}
use Rattle.patch_arrays.specs.Makings.{IsArranged, MakesCounted, behind, capped}
use Rattle.patch_arrays.specs.Members.{Seen, listed, under_key}
use Rattle.patch_arrays.specs.Partings.{IsParted}
use Rattle.patch_edits.proofs.Totals.{total-parts}
use Rattle.svd_model.specs.Counting.{elements_in, told_count}
use Rattle.svd_model.specs.declared.sibling.Sibling.{Sibling}
use Rattle.svd_model.specs.Facts.{is_counted}
use Rattle.svd_model.specs.Steps.{Kind, peripheral, cluster, register, field, set, value}
use Rattle.svd_model.specs.Trees.{step_of}
use Rattle.svd_rows.specs.Forest.{siblings}

-- what patches know is counted
pub known-counted : (kind : Kind) (key : Sibling) → is_patched kind ≡ true → is_counted (step_of kind key) ≡ true
known-counted peripheral key known = refl
known-counted cluster key known = refl
known-counted register key known = refl
known-counted field key known = refl
known-counted set key known = cc
known-counted value key known = refl

array-total : (name : List ℕ) (some : List Element) → total (array_of capped name some) + total (behind some) ≡ total some
array-total name [] = refl
array-total name (first ∷ others) = omega arith

module _ {M : Type 0} (seen : M → Seen) where
  abbrev under : Sibling × M → Element
  under = under_key seen

  two-lists : (xs ys : List (Sibling × M)) → elements_in (listed seen (xs ++ ys)) ≡ total (map under xs) + total (map under ys)
  two-lists xs ys = counted (map under (xs ++ ys)) ∙ ap total (map-append under xs ys) ∙ total-append (map under xs) (map under ys)

  -- the members and the others have become the array and the others
  pub merged-counted : (line : ℕ) (name : List ℕ) (members others : List (Sibling × M)) (place : ℕ) (made : List (Sibling × M)) (before gone now : ℕ) → IsArranged seen line name members others place made
      → gone ≡ told_count (elements_in (siblings (behind (ordered_by offset_of (map under members))))) → before ≤ 2 ^ 64 - 1 → now ≡ before - gone → Recounted before (listed seen (members ++ others)) now (listed seen made)
  merged-counted line name members others place made before gone now is told fits less rest e =
      sums (2 ^ 64 - 1) rest (total (map under members)) (total (map under others)) (total (map under (take place others))) (total (map under (drop place others))) (total (array_of capped name order)) (total (behind order)) (total order)
      (elements_in (listed seen (members ++ others))) (elements_in (listed seen made)) before gone now
      (two-lists members others) new (ap (λ (xs : List (Sibling × M)). total (map under xs)) (sym (take-append-drop place others)) ∙ both (take place others) (drop place others)) (array-total name order) (total-ordered offset_of (map under members))
      (told ∙ ap told_count (counted (behind order))) fits less e
    where
      order : List Element
      order = ordered_by offset_of (map under members)

      both : (xs ys : List (Sibling × M)) → total (map under (xs ++ ys)) ≡ total (map under xs) + total (map under ys)
      both xs ys = ap total (map-append under xs ys) ∙ total-append (map under xs) (map under ys)

      one : (x : Sibling × M) (ys : List (Sibling × M)) → total (map under (x ∷ ys)) ≡ total (map under (x ∷ [])) + total (map under ys)
      one x ys = both (x ∷ []) ys

      new : elements_in (listed seen made) ≡ total (map under (take place others)) + (total (array_of capped name order) + total (map under (drop place others)))
      new =
          ap (λ (xs : List (Sibling × M)). elements_in (listed seen xs)) is.put
          ∙ two-lists (take place others) (is.array ∷ drop place others)
          ∙ ap (λ (n : ℕ). total (map under (take place others)) + n) (one is.array (drop place others) ∙ ap (λ (xs : List Element). total xs + total (map under (drop place others))) is.stands)

      sums : (most k m o t d a b s old_all new_all before gone now : ℕ) → old_all ≡ m + o → new_all ≡ t + (a + d) → o ≡ t + d → a + b ≡ s → s ≡ m → gone ≡ min b most → before ≤ most → now ≡ before - gone → before ≡ k + old_all → now ≡ k + new_all
      sums most k m o t d a b s old_all new_all before gone now was is parts array ordered told fits less e = omega (arith, was, is, parts, array, ordered, told, fits, less, e)

  -- the parted children count as all of them
  pub parted-counted : {Z : Type 0} (test : Sibling × M → Bool) (children : List (Sibling × M)) (parted : Parted M) (result : Result (Vec (Sibling × M) Z) PatchFault) (before after : ℕ) → IsParted test children parted
      → MakesCounted seen result before (parted.members.items ++ parted.others.items) after → MakesCounted seen result before children after
  parted-counted test children parted (Ok made) before after is recounted = λ others e. recounted others (e ∙ ap (λ (n : ℕ). others + n) (sym same))
    where
      same : elements_in (listed seen (parted.members.items ++ parted.others.items)) ≡ elements_in (listed seen children)
      same =
          two-lists parted.members.items parted.others.items
          ∙ ap₂ (λ (n m : ℕ). n + m) (sym (counted (map under parted.members.items))) (sym (counted (map under parted.others.items)))
          ∙ ap₂ (λ (xs ys : List (Sibling × M)). elements_in (listed seen xs) + elements_in (listed seen ys)) is.members is.others
          ∙ total-parts under test children
  parted-counted test children parted (Err fault) before after is recounted = tt
