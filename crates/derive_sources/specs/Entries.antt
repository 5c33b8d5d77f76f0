-- The elements that the code lists, as the items that they are.
use Rattle.std.specs.Prelude.{◌≡◌, ℕ, List, ◌++◌, map, length, option_map}
use Rattle.derive_sources.specs.declared.entry.Entry.{Entry}
use Rattle.derive_sources.specs.declared.entry.Kind.{Kind as CodeKind}
use Rattle.derive_sources.specs.declared.entry.Kind.TheVariants.{Peripheral, Cluster, Register, Field, Set, Value}
use Rattle.derive_sources.specs.Numbers.{Item, items_in}
use Rattle.svd_model.specs.declared.device.Cluster.{Cluster as ClusterOf}
use Rattle.svd_model.specs.declared.device.Register.{Register as RegisterOf}
use Rattle.svd_model.specs.declared.device.Values.{Values}
use Rattle.svd_model.specs.declared.sibling.Sibling.{Sibling}
use Rattle.svd_model.specs.Keys.{Key}
use Rattle.svd_model.specs.Steps.{Step, Kind, peripheral, cluster, register, field, set, value}
use Rattle.svd_model.specs.Trees.{step_of, register_tree, cluster_tree, set_tree}
use Rattle.svd_rows.specs.Edits.{planted}
use Rattle.svd_rows.specs.Forest.{Forest, Tree}

abbrev pub kind_of : CodeKind → Kind
kind_of Peripheral = peripheral
kind_of Cluster = cluster
kind_of Register = register
kind_of Field = field
kind_of Set = set
kind_of Value = value

-- an entry as the item that it is
abbrev pub plain : Entry → Item
plain entry = record {
  parent = entry.parent;
  kind = option_map kind_of entry.kind;
  name = entry.name.now;
  names = option_map (λ path. path.now) entry.names;
}

-- the entries, and those that come behind them
abbrev pub with_rest : List Entry → ℕ → Forest Step Key → List Item
with_rest entries parent rest = map plain entries ++ items_in parent (length entries) rest

-- an element and all below it were listed, whatever siblings come behind it
abbrev pub Lists : List Entry → List Entry → ℕ → (Step × Tree Step Key) → Type 0
Lists old new parent element =
    (rest : Forest Step Key) → with_rest new parent rest ≡ with_rest old parent (planted element.0 element.1 rest)

-- siblings and all below them were listed
abbrev pub ListsAll : List Entry → List Entry → ℕ → Forest Step Key → Type 0
ListsAll old new parent siblings = map plain new ≡ with_rest old parent siblings

-- a register under its key
abbrev pub register_under : Sibling → RegisterOf → (Step × Tree Step Key)
register_under key inner = (step_of register key, register_tree inner)

-- a cluster under its key
abbrev pub cluster_under : Sibling → ClusterOf → (Step × Tree Step Key)
cluster_under key inner = (step_of cluster key, cluster_tree inner)

-- a set at its place in a field
abbrev pub set_under : ℕ → Values → (Step × Tree Step Key)
set_under n inner = (record { kind = set; name = (set_tree inner).0; number = n }, (set_tree inner).1)
