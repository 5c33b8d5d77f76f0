-- What a deletion matched is gone.
use Rattle.std.proofs.Common.{◌≡◌, ℕ, Bool, true, false, not, ◌&&◌, cond, List, [], ◌∷◌, filter, Ok, refl, ◌∙◌, subst}
use Rattle.std.proofs.lemmas.Bool.{cond-false}
use Rattle.patch_model.specs.Acts.{PatternItems}
use Rattle.svd_model.specs.Keys.{Key}
use Rattle.svd_model.specs.Steps.{Step}
use Rattle.svd_rows.specs.LookUps.{children_of, child_step}
use Rattle.svd_rows.specs.Paths.{begins}
use Rattle.svd_rows.specs.RowEdits.{without}
use Rattle.svd_rows.specs.Rows.{Said, element, states}
use Rattle.patch_sem.proofs.Outcomes.{some_matched}
use Rattle.patch_sem.specs.Patching.{deleting}
use Rattle.patch_sem.specs.Selecting.{Rows, selected, selects}

alone : (b : Bool) → (b && true) ≡ false → b ≡ false
alone true e = e
alone false e = e

-- a row that stays is the first one of no child that the test passes
stays : (test : Step → Bool) (path : List Step) (said : Said Key) (rest : Rows) → begins (test ∷ []) path ≡ false
    → filter test (children_of (record { path = path; said = said } ∷ rest)) ≡ filter test (children_of rest)
unfolding children_of child_step begins
stays test [] said rest e = refl
stays test (step ∷ []) element rest e = cond-false (test step) (step ∷ filter test (children_of rest)) (filter test (children_of rest)) (alone (test step) e)
stays test (step ∷ []) (states key) rest e = refl
stays test (step ∷ (next ∷ path)) said rest e = refl

abbrev nothing : Rows
nothing = []

no_children : (test : Step → Bool) → filter test (children_of nothing) ≡ []
unfolding children_of
no_children test = refl

pub none_left : (test : Step → Bool) (all : Rows) → filter test (children_of (without (test ∷ []) all)) ≡ []
unfolding without
none_left test [] = no_children test
none_left test (row ∷ rest) = cases (begins (test ∷ []) row.path) refl (none_left test rest)
  where
    cases : (b : Bool) → begins (test ∷ []) row.path ≡ b → filter test (children_of (without (test ∷ []) rest)) ≡ [] → filter test (children_of (cond (not b) (row ∷ without (test ∷ []) rest) (without (test ∷ []) rest))) ≡ []
    cases true e more = more
    cases false e more = stays test row.path row.said (without (test ∷ []) rest) e ∙ more

pub deletion-leaves_none : (line : ℕ) (pattern : PatternItems) (all new : Rows) → deleting line pattern all ≡ Ok new → selected pattern new ≡ []
unfolding deleting
deletion-leaves_none line pattern all new e =
    subst (λ (left : Rows). selected pattern left ≡ []) (some_matched line (selected pattern all) (without (selects pattern ∷ []) all) new e) (none_left (selects pattern) all)
