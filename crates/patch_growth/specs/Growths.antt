-- A command that puts a new child behind the children of the elements that its patterns lead to, in the tree of a description
-- and with a running count of all elements.
use Rattle.std.specs.Prelude.{ℕ, ◌+◌, nat_le, not, Bool, true, false, List, [], ◌∷◌, Option, Some, Ok, Err}
use Rattle.std.specs.List.{list_any}
use Rattle.patch_sem.specs.declared.fault.PatchFault.TheVariants.{AddExists, NoMatch, TooMany}
use Rattle.patch_sem.specs.Selecting.{is_named}
use Rattle.patch_sem.specs.Steps.{Outcome, ◌>>=◌, refused_if}
use Rattle.patch_edits.specs.Visits.{Below}
use Rattle.svd_model.specs.Counting.{elements_in, told_count}
use Rattle.svd_model.specs.Facts.{element_limit}
use Rattle.svd_model.specs.Keys.{Key}
use Rattle.svd_model.specs.Steps.{Kind, Step, field}
use Rattle.svd_model.specs.declared.counted.Counted.TheVariants.{Elements}
use Rattle.svd_rows.specs.Forest.{Tree, join, leaf, node, steps}

-- the count of all elements of the device, and what is below an element
abbrev pub Tally : Type 0
Tally = ℕ × Below

-- a command: its line, the name of the new child, and what that child is, by the kind and the children of its parent
pub record Growth : Type 0 where
  pub line : ℕ
  pub name : List ℕ
  pub made : Option Kind → Below → Outcome (Kind × Tree Step Key)

-- a child of a kind under a name, alone
abbrev pub child_named : List ℕ → (Kind × Tree Step Key) → Below
child_named name child = node (record { kind = child.0; name = name; number = 0 }) child.1.keys child.1.below leaf

-- what a command puts behind the children of an element: a child under a name that none of them has
abbrev pub new_child : Growth → Option Kind → Below → Outcome Below
new_child growth kind below =
    refused_if (list_any (is_named growth.name) (steps below)) (AddExists growth.line growth.name)
    (growth.made kind below >>= (λ child. Ok (child_named growth.name child)))

-- a field has no children for a patch
abbrev pub but_in_field : ℕ → Option Kind → Outcome Below → Outcome Below
but_in_field line (Some field) made = Err (NoMatch line)
but_in_field line kind made = made

unfoldable pub put_new : Growth → Option Kind → Below → Outcome Below
put_new growth kind below = but_in_field growth.line kind (new_child growth kind below)

-- more elements behind the others, if there aren't too many then
abbrev pub put_behind : ℕ → Below → Below → Outcome Tally
put_behind total below more =
    refused_if (not (nat_le (total + elements_in more) element_limit)) (TooMany Elements (told_count (total + elements_in more))) (Ok (total + elements_in more, join below more))

-- the new child behind the children of one element
unfoldable pub grown : Growth → Option Kind → ℕ → Below → Outcome Tally
grown growth kind total below = put_new growth kind below >>= put_behind total below

-- ---- the walk

abbrev pub only_if : Bool → Outcome Tally → Tally → Outcome Tally
only_if true edited tally = edited
only_if false edited tally = Ok tally

-- one sibling after the other, what is below those that pass the test is edited, up to the first fault
unfoldable pub each : (Step → Bool) → (Kind → ℕ → Below → Outcome Tally) → ℕ → Below → Outcome Tally
each test edit total leaf = Ok (total, leaf)
each test edit total (node step keys children siblings) =
    only_if (test step) (edit step.kind total children) (total, children)
    >>= (λ here. each test edit here.0 siblings >>= (λ others. Ok (others.0, node step keys here.1 others.1)))

-- what is below the elements to which the tests lead is edited, by the kind of the element
unfoldable pub visited : (Option Kind → ℕ → Below → Outcome Tally) → List (Step → Bool) → Option Kind → ℕ → Below → Outcome Tally
visited edit [] kind total below = edit kind total below
visited edit (test ∷ tests) kind total below = each test (λ inner. visited edit tests (Some inner)) total below

-- the command at each element that its patterns lead to
abbrev pub grown_all : Growth → List (Step → Bool) → Option Kind → ℕ → Below → Outcome Tally
grown_all growth tests = visited (grown growth) tests
