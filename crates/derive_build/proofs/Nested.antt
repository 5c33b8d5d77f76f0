-- The tree of a device has each element below one that it may stand below, and sets and values by their places.
use Rattle.std.proofs.Common.{◌≡◌, ℕ, ◌+◌, true, List, [], ◌∷◌, map, Option, None, Some, refl, sym, subst, ◌∙◌}
use Rattle.std.specs.List.{AllByRecursion}
use Rattle.derive_build.specs.Nodes.{cluster_under, register_under}
use Rattle.derived_graph.specs.Nesting.{is_child, ArePlaced, IsNested}
use Rattle.svd_model.specs.declared.device.Child.{Child, map-Child, roll-Child}
use Rattle.svd_model.specs.declared.device.Child.TheVariants.{rolls-Cluster, rolls-Register}
use Rattle.svd_model.specs.declared.device.Child.TheFolds.{ind-Item}
use Rattle.svd_model.specs.declared.device.Child.TheOpen.{Child-F, Cluster-F, Item-F}
use Rattle.svd_model.specs.declared.device.Child.TheOpen as opened
use Rattle.svd_model.specs.declared.device.Cluster.{Cluster, out-Cluster, out-roll-Cluster, roll-Cluster}
use Rattle.svd_model.specs.declared.device.Device.{Device}
use Rattle.svd_model.specs.declared.device.Field.{Field}
use Rattle.svd_model.specs.declared.device.Item.{Item, roll-Item}
use Rattle.svd_model.specs.declared.device.Peripheral.{Peripheral}
use Rattle.svd_model.specs.declared.device.Register.{Register}
use Rattle.svd_model.specs.declared.device.Values.{Values}
use Rattle.svd_model.specs.declared.device.Variant.{Variant}
use Rattle.svd_model.specs.declared.sibling.Sibling.{Sibling}
use Rattle.svd_model.specs.Keys.{Key}
use Rattle.svd_model.specs.Steps.{Kind, Step, peripheral, cluster, register, field, set, value}
use Rattle.svd_model.specs.Trees.{child_tree, item_under, field_under, peripheral_under, device_tree, set_tree, value_tree, numbered, step_of}
use Rattle.svd_model.proofs.Trees.{child_tree-cluster, child_tree-register, cluster_tree-is, item_under-roll}
use Rattle.svd_rows.specs.Forest.{Tree, siblings, steps}

-- siblings that are numbered have the numbers of their places
numbered-placed : (kind : Kind) (n : ℕ) (xs : List (List ℕ × Tree Step Key)) → ArePlaced n (steps (numbered kind n xs))
unfolding numbered ArePlaced steps
numbered-placed kind n [] = tt
numbered-placed kind n (x ∷ xs) = (refl, numbered-placed kind (n + 1) xs)

values-nested : (n : ℕ) (values : List Variant) → IsNested (Some set) (numbered value n (map value_tree values))
unfolding numbered IsNested
values-nested n [] = tt
values-nested n (v ∷ values) = (refl, tt, tt, values-nested (n + 1) values)

sets-nested : (n : ℕ) (sets : List Values) → IsNested (Some field) (numbered set n (map set_tree sets))
unfolding numbered IsNested
sets-nested n [] = tt
sets-nested n (s ∷ sets) = (refl, numbered-placed value 0 (map value_tree s.items.items), values-nested 0 s.items.items, sets-nested (n + 1) sets)

fields-nested : (fields : List (Sibling × Field)) → IsNested (Some register) (siblings (map field_under fields))
unfolding siblings IsNested
fields-nested [] = tt
fields-nested (f ∷ fields) = (refl, numbered-placed set 0 (map set_tree f.1.values.items), sets-nested 0 f.1.values.items, fields-nested fields)

-- ---- registers and clusters, below a peripheral or a cluster

-- an element by itself
abbrev Nested : Option Kind → (Step × Tree Step Key) → Type 0
Nested kind x = IsNested kind (siblings (x ∷ []))

abbrev IsBlock : Option Kind → Type 0
IsBlock kind = (is_child kind cluster ≡ true) × (is_child kind register ≡ true)

register-nested : (kind : Option Kind) → IsBlock kind → (key : Sibling) (r : Register) → Nested kind (register_under key r)
unfolding siblings IsNested
register-nested kind block key r = (block.1, tt, fields-nested r.fields.entries, tt)

-- elements one after the other
nested-all : (kind : Option Kind) → IsBlock kind → (items : List Item) → AllByRecursion (λ item. (k : Option Kind) → IsBlock k → Nested k (item_under item)) items → IsNested kind (siblings (map item_under items))
unfolding siblings IsNested
nested-all kind block [] all = tt
nested-all kind block (item ∷ items) all = let one = all.0 kind block in (one.0, one.1, one.2, nested-all kind block items all.1)

cluster-nested : (kind : Option Kind) → IsBlock kind → (key : Sibling) (c : Cluster) → AllByRecursion (λ item. (k : Option Kind) → IsBlock k → Nested k (item_under item)) (out-Cluster c).children.items → Nested kind (cluster_under key c)
unfolding siblings IsNested
cluster-nested kind block key c all =
    subst (λ (tree : Tree Step Key). Nested kind (step_of cluster key, tree)) (sym (cluster_tree-is c)) (block.0, tt, nested-all (Some cluster) (refl, refl) (out-Cluster c).children.items all, tt)

-- ---- all items

abbrev ChildNested : Child → Type 0
ChildNested child = (kind : Option Kind) → IsBlock kind → (key : Sibling) → Nested kind (step_of (child_tree child).0 key, (child_tree child).1)

abbrev ClusterNested : Cluster → Type 0
ClusterNested c = (kind : Option Kind) → IsBlock kind → (key : Sibling) → Nested kind (cluster_under key c)

abbrev ItemNested : Item → Type 0
ItemNested item = (kind : Option Kind) → IsBlock kind → Nested kind (item_under item)

-- a child with what is said of it
child-nested : (y : Child-F ((x : Child) × ChildNested x) ((x : Cluster) × ClusterNested x) ((x : Item) × ItemNested x)) → ChildNested (roll-Child (map-Child _ _ _ Child Cluster Item (λ e. e.0) (λ e. e.0) (λ e. e.0) y))
child-nested (opened.Cluster e) = subst ChildNested (sym (rolls-Cluster e.0)) (λ kind block key. subst (λ (t : Kind × Tree Step Key). Nested kind (step_of t.0 key, t.1)) (sym (child_tree-cluster e.0)) (e.1 kind block key))
child-nested (opened.Register r) = subst ChildNested (sym (rolls-Register r)) (λ kind block key. subst (λ (t : Kind × Tree Step Key). Nested kind (step_of t.0 key, t.1)) (sym (child_tree-register r)) (register-nested kind block key r))

firsts : (items : List ((item : Item) × ItemNested item)) → AllByRecursion ItemNested (map (λ e. e.0) items)
firsts [] = tt
firsts (e ∷ items) = (e.1, firsts items)

item-nested : (item : Item) → ItemNested item
item-nested = ind-Item ChildNested ClusterNested ItemNested
    (λ x y is. subst (λ (z : Child-F Child Cluster Item). ChildNested (roll-Child z)) is (child-nested y))
    (λ x y is kind block key. cluster-nested kind block key (roll-Cluster x) (subst (λ (z : Cluster-F Child Cluster Item). AllByRecursion ItemNested z.children.items) (is ∙ sym (out-roll-Cluster x)) (firsts y.children.items)))
    (λ x y is. subst (λ (z : Item-F Child Cluster Item). ItemNested (roll-Item z)) is (λ kind block. subst (Nested kind) (sym (item_under-roll (record { key = y.key; child = y.child.0 }))) (y.child.1 kind block y.key)))

each-nested : (items : List Item) → AllByRecursion ItemNested items
each-nested [] = tt
each-nested (item ∷ items) = (item-nested item, each-nested items)

-- ---- the device

peripherals-nested : (peripherals : List (Sibling × Peripheral)) → IsNested None (siblings (map peripheral_under peripherals))
unfolding siblings IsNested
peripherals-nested [] = tt
peripherals-nested (p ∷ peripherals) = (refl, tt, nested-all (Some peripheral) (refl, refl) p.1.children.items (each-nested p.1.children.items), peripherals-nested peripherals)

pub device-nested : (device : Device) → IsNested None (device_tree device).below
unfolding device_tree
device-nested device = peripherals-nested device.peripherals.entries
