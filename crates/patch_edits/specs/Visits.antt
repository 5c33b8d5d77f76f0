-- A command in the tree of a description: a walk along its patterns, and an edit of the children of each element that they
-- lead to.
use Rattle.std.specs.Prelude.{Bool, true, false, List, [], ◌∷◌, Option, Some, Ok}
use Rattle.patch_sem.specs.Steps.{Outcome, ◌>>=◌}
use Rattle.svd_model.specs.Keys.{Key}
use Rattle.svd_model.specs.Steps.{Step, Kind}
use Rattle.svd_rows.specs.Forest.{Forest, leaf, node}

-- the elements below an element
abbrev pub Below : Type 0
Below = Forest Step Key

abbrev pub only_if : Bool → Outcome Below → Below → Outcome Below
only_if true edited below = edited
only_if false edited below = Ok below

-- one sibling after the other, what is below those that pass the test is edited, up to the first fault
unfoldable pub each : (Step → Bool) → (Kind → Below → Outcome Below) → Below → Outcome Below
each test edit leaf = Ok leaf
each test edit (node step keys children siblings) =
    only_if (test step) (edit step.kind children) children
    >>= (λ below. each test edit siblings >>= (λ others. Ok (node step keys below others)))

-- what is below the elements to which the tests lead is edited, by the kind of the element
unfoldable pub visited : (Option Kind → Below → Outcome Below) → List (Step → Bool) → Option Kind → Below → Outcome Below
visited edit [] kind below = edit kind below
visited edit (test ∷ tests) kind below = each test (λ inner. visited edit tests (Some inner)) below
