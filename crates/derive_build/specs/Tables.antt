-- A table of settled elements, each at its number, and the trees that it tells: keys and children of each element, and
-- the unfolding of these.
use Rattle.std.specs.Prelude.{◌≡◌, ℕ, zero, suc, Bool, true, false, List, [], map, Option, None, Some, slice_get}
use Rattle.std.specs.List.{AllByRecursion, IsDistinct}
use Rattle.derive_build.specs.declared.own.Own.{Own}
use Rattle.derive_build.specs.declared.settled.Settled.{Settled}
use Rattle.derive_build.specs.Children.{node_at, child_of, children_of}
use Rattle.derive_build.specs.Nodes.{own_node}
use Rattle.derive_build.specs.Taking.{keys_by}
use Rattle.derived_graph.specs.Graphs.{Child, unfolded}
use Rattle.derived_graph.specs.Nesting.{is_child}
use Rattle.derived_rows.specs.Merging.{renumbered}
use Rattle.svd_model.specs.Keys.{Key}
use Rattle.svd_model.specs.Steps.{Step, Kind, field, set, same_key}
use Rattle.svd_rows.specs.Forest.{Tree, siblings}

-- the elements of a table
unfoldable pub owns_in : List Settled → List Own
owns_in table = map (λ settled. settled.own) table

-- ---- what the table tells of an element

-- sets and values have the numbers of their places
abbrev pub by_place : Option Kind → List Child → List Child
by_place (Some field) children = renumbered 0 children
by_place (Some set) children = renumbered 0 children
by_place kind children = children

-- the children of a settled element
abbrev pub children_in : List Settled → Settled → List Child
children_in table settled = by_place (own_node settled.own).kind (children_of (owns_in table) settled.children.items)

abbrev pub keys_in : Option Settled → List Key
keys_in None = []
keys_in (Some settled) = keys_by settled.own settled.keys

abbrev pub children_by_number : List Settled → Option Settled → List Child
children_by_number table None = []
children_by_number table (Some settled) = children_in table settled

-- the keys of the element of a number
unfoldable pub keys_told : List Settled → ℕ → List Key
keys_told table e = keys_in (slice_get table e)

-- its children
unfoldable pub children_told : List Settled → ℕ → List Child
children_told table e = children_by_number table (slice_get table e)

-- its tree, so many levels down
unfoldable pub tree_at : List Settled → ℕ → ℕ → Tree Step Key
tree_at table levels e = unfolded (keys_told table) (children_told table) levels e

-- children with their trees
abbrev pub with_trees : List Settled → ℕ → List Child → List (Step × Tree Step Key)
with_trees table levels children = map (λ child. (child.0, tree_at table levels child.1)) children

-- a settled element over children so many levels down
unfoldable pub tree_of : List Settled → ℕ → Settled → Tree Step Key
tree_of table levels settled =
    record { keys = keys_by settled.own settled.keys; below = siblings (with_trees table levels (children_in table settled)) }

-- the element of a number under its step
abbrev pub under : List Settled → ℕ → ℕ → (Step × Tree Step Key)
under table levels e = ((child_of (owns_in table) e).0, tree_at table levels e)

-- the element of a number under its name
abbrev pub named : List Settled → ℕ → ℕ → (List ℕ × Tree Step Key)
named table levels e = ((node_at (owns_in table) e).name, tree_at table levels e)

-- ---- what can be built

-- an element of the second kind may stand below one of the first; the device is of none, and stands below none
abbrev pub is_kid : Option Kind → Option Kind → Bool
is_kid kind None = false
is_kid kind (Some own) = is_child kind own

abbrev pub AtSettled : (Settled → Type 0) → Option Settled → Type 0
AtSettled P None = ⊥
AtSettled P (Some settled) = P settled

-- an element may stand below one of this kind, and holds a fact
abbrev pub KidIs : (ℕ → Type 0) → List Settled → Option Kind → ℕ → Type 0
KidIs Inside table kind e = (is_kid kind (node_at (owns_in table) e).kind ≡ true) × Inside e

-- the children of a settled element are told apart, and each may stand where it stands and holds a fact
pub record KidsAre (Inside : ℕ → Type 0) (table : List Settled) (settled : Settled) : Type 0 where
  pub apart : IsDistinct same_key (map (λ child. child.0) (children_in table settled))
  pub each : AllByRecursion (KidIs Inside table (own_node settled.own).kind) settled.children.items

-- the element of a number has fewer than so many levels below it, at each of which children are as they may be
unfoldable pub CanStand : List Settled → ℕ → ℕ → Type 0
CanStand table zero e = ⊥
CanStand table (suc levels) e = AtSettled (KidsAre (CanStand table levels) table) (slice_get table e)

-- an element that can be built may stand below one of this kind
abbrev pub IsKid : List Settled → ℕ → Option Kind → ℕ → Type 0
IsKid table levels kind e = KidIs (CanStand table levels) table kind e

-- the children of a settled element can be built
abbrev pub HasKids : List Settled → ℕ → Settled → Type 0
HasKids table levels settled = KidsAre (CanStand table levels) table settled

-- the steps of the elements of these numbers
abbrev pub steps_in : List Settled → List ℕ → List Step
steps_in table numbers = map (λ e. (child_of (owns_in table) e).0) numbers

-- no sibling has the key of the element of a number
abbrev pub IsNew : List Settled → List (Step × Tree Step Key) → ℕ → Type 0
IsNew table made e = AllByRecursion (λ one. same_key one.0 (child_of (owns_in table) e).0 ≡ false) made
