-- What a walk keeps where its edit does: what is said of each element, and that siblings are distinct.
use Rattle.std.proofs.Common.{◌≡◌, Bool, true, false, List, [], ◌∷◌, Option, Some, Ok, ap, ◌∙◌, subst}
use Rattle.std.specs.List.{AllByRecursion}
use Rattle.patch_sem.proofs.Outcomes.{both_ok}
use Rattle.patch_sem.specs.Steps.{Outcome, ◌>>=◌}
use Rattle.patch_edits.proofs.Binds.{given, given_is}
use Rattle.patch_edits.specs.Visits.{Below, each, only_if, visited}
use Rattle.svd_model.specs.Keys.{Key}
use Rattle.svd_model.specs.Steps.{Kind, Step, same_key}
use Rattle.svd_rows.specs.Elements.{Every, IsDistinct}
use Rattle.svd_rows.specs.Forest.{leaf, node, steps}

-- an edit keeps a fact of what is below an element
abbrev pub Keeps : (Below → Type 0) → (Option Kind → Below → Outcome Below) → Type 0
Keeps Holds edit = (kind : Option Kind) (f new : Below) → edit kind f ≡ Ok new → Holds f → Holds new

kept : (Holds : Below → Type 0) (one other : Below) → given one ≡ given other → Holds one → Holds other
kept Holds one other e h = subst Holds (given_is one other e) h

only-kept : (Holds : Below → Type 0) (edit : Kind → Below → Outcome Below) → ((kind : Kind) (f new : Below) → edit kind f ≡ Ok new → Holds f → Holds new) → (b : Bool) (kind : Kind) (f new : Below) → only_if b (edit kind f) f ≡ Ok new → Holds f → Holds new
only-kept Holds edit keeps true kind f new e h = keeps kind f new e h
only-kept Holds edit keeps false kind f new e h = kept Holds f new e h

module _ (test : Step → Bool) (edit : Kind → Below → Outcome Below) where
  pub each-every : (P : Step → List Key → Type 0) → ((kind : Kind) (f new : Below) → edit kind f ≡ Ok new → Every P f → Every P new) → (f new : Below) → each test edit f ≡ Ok new → Every P f → Every P new
  unfolding each Every
  each-every P keeps leaf new e h = kept (Every P) leaf new e h
  each-every P keeps (node s ks c n) new e h =
      let first = both_ok (only_if (test s) (edit s.kind c) c) (λ below. each test edit n >>= (λ others. Ok (node s ks below others))) new e in
      let second = both_ok (each test edit n) (λ others. Ok (node s ks first.0 others)) new first.2 in
      kept (Every P) (node s ks first.0 second.0) new second.2
      (h.0, only-kept (Every P) edit keeps (test s) s.kind c first.0 first.1 h.1, each-every P keeps n second.0 second.1 h.2)

  pub each-steps : (f new : Below) → each test edit f ≡ Ok new → steps f ≡ steps new
  unfolding each steps
  each-steps leaf new e = ap steps (given_is leaf new e)
  each-steps (node s ks c n) new e =
      let first = both_ok (only_if (test s) (edit s.kind c) c) (λ below. each test edit n >>= (λ others. Ok (node s ks below others))) new e in
      let second = both_ok (each test edit n) (λ others. Ok (node s ks first.0 others)) new first.2 in
      ap (λ r. s ∷ r) (each-steps n second.0 second.1) ∙ ap steps (given_is (node s ks first.0 second.0) new second.2)

  pub each-distinct : ((kind : Kind) (f new : Below) → edit kind f ≡ Ok new → IsDistinct same_key f → IsDistinct same_key new) → (f new : Below) → each test edit f ≡ Ok new → IsDistinct same_key f → IsDistinct same_key new
  unfolding each IsDistinct
  each-distinct keeps leaf new e h = kept (IsDistinct same_key) leaf new e h
  each-distinct keeps (node s ks c n) new e h =
      let first = both_ok (only_if (test s) (edit s.kind c) c) (λ below. each test edit n >>= (λ others. Ok (node s ks below others))) new e in
      let second = both_ok (each test edit n) (λ others. Ok (node s ks first.0 others)) new first.2 in
      kept (IsDistinct same_key) (node s ks first.0 second.0) new second.2 (
        subst (λ (all : List Step). AllByRecursion (λ other. same_key s other ≡ false) all) (each-steps n second.0 second.1) h.0,
        only-kept (IsDistinct same_key) edit keeps (test s) s.kind c first.0 first.1 h.1,
        each-distinct keeps n second.0 second.1 h.2,
      )

pub visited-every : (P : Step → List Key → Type 0) (edit : Option Kind → Below → Outcome Below) → Keeps (Every P) edit → (tests : List (Step → Bool)) → Keeps (Every P) (visited edit tests)
unfolding visited
visited-every P edit keeps [] kind f new e h = keeps kind f new e h
visited-every P edit keeps (test ∷ tests) kind f new e h =
    each-every test (λ inner. visited edit tests (Some inner)) P (λ inner. visited-every P edit keeps tests (Some inner)) f new e h

pub visited-distinct : (edit : Option Kind → Below → Outcome Below) → Keeps (IsDistinct same_key) edit → (tests : List (Step → Bool)) → Keeps (IsDistinct same_key) (visited edit tests)
unfolding visited
visited-distinct edit keeps [] kind f new e h = keeps kind f new e h
visited-distinct edit keeps (test ∷ tests) kind f new e h =
    each-distinct test (λ inner. visited edit tests (Some inner)) (λ inner. visited-distinct edit keeps tests (Some inner)) f new e h
