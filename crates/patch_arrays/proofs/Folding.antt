-- What a walk with an array leaves is a description still.
use Rattle.std.proofs.Common.{◌≡◌, ◌≤◌, ℕ, Bool, true, false, ◌||◌, List, [], ◌∷◌, IfOk, arith, Option, None, Some, Result, Ok, Err, refl, ap, ◌∙◌, subst}
use Rattle.std.specs.List.{AllByRecursion}
use Rattle.patch_sem.proofs.Outcomes.{both_ok}
use Rattle.patch_sem.specs.declared.fault.PatchFault.{PatchFault}
use Rattle.patch_sem.specs.Steps.{Outcome, ◌>>=◌}
use Rattle.patch_edits.proofs.Binds.{given, given_is}
use Rattle.patch_edits.proofs.Contexts.{tree_with}
use Rattle.patch_edits.proofs.Keeping.{Keeps, visited-every}
use Rattle.patch_edits.proofs.Walks.{Shrinks, visited-fewer}
use Rattle.patch_edits.specs.Edits.{Edited}
use Rattle.patch_edits.specs.Visits.{Below, each, only_if, visited}
use Rattle.patch_arrays.specs.Siblings.{clashes, unlike_kinds}
use Rattle.svd_model.specs.Counting.{elements_in}
use Rattle.svd_model.specs.Facts.{IsElement, IsFolded, IsPlacedOrDerived, element_limit}
use Rattle.svd_model.specs.Keys.{Key}
use Rattle.svd_model.specs.Steps.{Kind, Step, same_key}
use Rattle.svd_rows.proofs.Facts.{IsDistinct-finer}
use Rattle.svd_rows.specs.Elements.{Every, IsDistinct}
use Rattle.svd_rows.specs.Forest.{leaf, node, steps}

kept : (one other : Below) → given one ≡ given other → IsDistinct clashes one → IsDistinct clashes other
kept one other e h = subst (IsDistinct clashes) (given_is one other e) h

only-kept : (edit : Kind → Below → Outcome Below) → ((kind : Kind) (f new : Below) → edit kind f ≡ Ok new → IsDistinct clashes f → IsDistinct clashes new) → (b : Bool) (kind : Kind) (f new : Below) → only_if b (edit kind f) f ≡ Ok new → IsDistinct clashes f → IsDistinct clashes new
only-kept edit keeps true kind f new e h = keeps kind f new e h
only-kept edit keeps false kind f new e h = kept f new e h

module _ (test : Step → Bool) (edit : Kind → Below → Outcome Below) where
  each-steps : (f new : Below) → each test edit f ≡ Ok new → steps f ≡ steps new
  unfolding each steps
  each-steps leaf new e = ap steps (given_is leaf new e)
  each-steps (node s ks c n) new e =
      let first = both_ok (only_if (test s) (edit s.kind c) c) (λ below. each test edit n >>= (λ others. Ok (node s ks below others))) new e in
      let second = both_ok (each test edit n) (λ others. Ok (node s ks first.0 others)) new first.2 in
      ap (λ r. s ∷ r) (each-steps n second.0 second.1) ∙ ap steps (given_is (node s ks first.0 second.0) new second.2)

  each-apart : ((kind : Kind) (f new : Below) → edit kind f ≡ Ok new → IsDistinct clashes f → IsDistinct clashes new) → (f new : Below) → each test edit f ≡ Ok new → IsDistinct clashes f → IsDistinct clashes new
  unfolding each IsDistinct
  each-apart keeps leaf new e h = kept leaf new e h
  each-apart keeps (node s ks c n) new e h =
      let first = both_ok (only_if (test s) (edit s.kind c) c) (λ below. each test edit n >>= (λ others. Ok (node s ks below others))) new e in
      let second = both_ok (each test edit n) (λ others. Ok (node s ks first.0 others)) new first.2 in
      kept (node s ks first.0 second.0) new second.2 (
        subst (λ (all : List Step). AllByRecursion (λ other. clashes s other ≡ false) all) (each-steps n second.0 second.1) h.0,
        only-kept edit keeps (test s) s.kind c first.0 first.1 h.1,
        each-apart keeps n second.0 second.1 h.2,
      )

visited-apart : (edit : Option Kind → Below → Outcome Below) → Keeps (IsDistinct clashes) edit → (tests : List (Step → Bool)) → Keeps (IsDistinct clashes) (visited edit tests)
unfolding visited
visited-apart edit keeps [] kind f new e h = keeps kind f new e h
visited-apart edit keeps (test ∷ tests) kind f new e h =
    each-apart test (λ inner. visited edit tests (Some inner)) (λ inner. visited-apart edit keeps tests (Some inner)) f new e h

apart-finer : (one other : Step) → clashes one other ≡ false → same_key one other ≡ false
apart-finer one other e = front (same_key one other) (unlike_kinds one other) e
  where
    front : (a b : Bool) → (a || b) ≡ false → a ≡ false
    front true b e = cc
    front false b e = refl

pub array-folded : (edit : Option Kind → Below → Outcome Below) (tests : List (Step → Bool)) → Shrinks edit → Keeps (Every (IsElement IsPlacedOrDerived)) edit → Keeps (IsDistinct clashes) edit → (keys : List Key) (f new : Below) (result : Result (Unit {0}) PatchFault)
    → IsFolded IsPlacedOrDerived (tree_with keys f) → IsDistinct clashes f → Edited (visited edit tests None f) new result → IfOk result (λ done. IsFolded IsPlacedOrDerived (tree_with keys new))
array-folded edit tests shrinks every distinct keys f new (Ok done) folded apart e = record {
  distinct = IsDistinct-finer clashes same_key apart-finer new (visited-apart edit distinct tests None f new e apart);
  elements = visited-every (IsElement IsPlacedOrDerived) edit every tests None f new e folded.elements;
  few = less (elements_in new) (elements_in f) (visited-fewer edit shrinks tests None f new e) folded.few;
}
  where
    less : (a b : ℕ) → a ≤ b → b ≤ element_limit → a ≤ element_limit
    less a b fewer few = omega (arith, fewer, few)
array-folded edit tests shrinks every distinct keys f new (Err fault) folded apart e = tt
