-- The elements of a device that the code lists by reference, in document order, as what they are in its tree.
use Rattle.std.specs.Prelude.{◌≡◌, ℕ, List, [], ◌∷◌, ◌++◌, map, Option, None, Some, unwrap_or}
use Rattle.derive_build.specs.declared.own.Own.{Own}
use Rattle.derive_build.specs.declared.own.Own.TheVariants as own
use Rattle.svd_model.specs.declared.device.Cluster.{Cluster as ClusterOf}
use Rattle.svd_model.specs.declared.device.Register.{Register as RegisterOf}
use Rattle.svd_model.specs.declared.device.Values.{Values}
use Rattle.svd_model.specs.declared.sibling.Sibling.{Sibling}
use Rattle.svd_model.specs.Keys.{Key}
use Rattle.svd_model.specs.Steps.{Step, Kind, peripheral, cluster, register, field, set, value}
use Rattle.svd_model.specs.Trees.{step_of, device_places, peripheral_places, register_places, field_places, set_places, value_places, register_tree, cluster_tree, set_tree}
use Rattle.svd_rows.specs.Edits.{planted}
use Rattle.svd_rows.specs.Forest.{Forest, Tree, leaf, node}
use Rattle.svd_rows.specs.Ranks.{stated}

-- An element: its kind, which the device has none of, its written name, its number among siblings of that name, and its
-- keys. Sets and values are told apart by their places among their siblings, and have the number 0 here.
pub record Node : Type 0 where
  pub kind : Option Kind
  pub name : List ℕ
  pub number : ℕ
  pub keys : List Key

abbrev pub number_of : Kind → ℕ → ℕ
number_of set number = 0
number_of value number = 0
number_of _ number = number

abbrev pub node_of : Step → List Key → Node
node_of step keys = record { kind = Some step.kind; name = step.name; number = number_of step.kind step.number; keys = keys }

abbrev pub top_node : List Key → Node
top_node keys = record { kind = None; name = []; number = 0; keys = keys }

-- siblings and all below them
unfoldable pub nodes_in : Forest Step Key → List Node
nodes_in leaf = []
nodes_in (node step keys children siblings) = node_of step keys ∷ (nodes_in children ++ nodes_in siblings)

-- all elements of a tree
unfoldable pub nodes_of : Tree Step Key → List Node
nodes_of tree = top_node tree.keys ∷ nodes_in tree.below

-- an element under its key
abbrev pub keyed : Kind → Sibling → List Key → Node
keyed kind key keys = record { kind = Some kind; name = key.name; number = key.number; keys = keys }

abbrev pub placed : Kind → List ℕ → List Key → Node
placed kind name keys = record { kind = Some kind; name = name; number = 0; keys = keys }

-- an element that the code lists, as what it is
abbrev pub own_node : Own → Node
own_node (own.Device device) = top_node (stated (device_places device.now))
own_node (own.Peripheral key element) = keyed peripheral key.now (stated (peripheral_places element.now))
own_node (own.Cluster key element) = keyed cluster key.now (cluster_tree element.now).keys
own_node (own.Register key element) = keyed register key.now (stated (register_places element.now))
own_node (own.Field key element) = keyed field key.now (stated (field_places element.now))
own_node (own.Set element) = placed set (unwrap_or element.now.name []) (stated (set_places element.now))
own_node (own.Value element) = placed value element.now.name (stated (value_places element.now))

-- the elements that are listed, and those that come behind them
abbrev pub with_rest : List Own → Forest Step Key → List Node
with_rest owns rest = map own_node owns ++ nodes_in rest

-- an element and all below it were listed, whatever siblings come behind it
abbrev pub Lists : List Own → List Own → (Step × Tree Step Key) → Type 0
Lists old new element = (rest : Forest Step Key) → with_rest new rest ≡ with_rest old (planted element.0 element.1 rest)

-- siblings and all below them were listed
abbrev pub ListsAll : List Own → List Own → Forest Step Key → Type 0
ListsAll old new siblings = map own_node new ≡ with_rest old siblings

-- a register under its key
abbrev pub register_under : Sibling → RegisterOf → (Step × Tree Step Key)
register_under key inner = (step_of register key, register_tree inner)

-- a cluster under its key
abbrev pub cluster_under : Sibling → ClusterOf → (Step × Tree Step Key)
cluster_under key inner = (step_of cluster key, cluster_tree inner)

-- a set at its place in a field
abbrev pub set_under : ℕ → Values → (Step × Tree Step Key)
set_under n inner = (record { kind = set; name = (set_tree inner).0; number = n }, (set_tree inner).1)
