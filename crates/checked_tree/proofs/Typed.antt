-- What only the declared types say of a device's tree: that registers and clusters stand in blocks, and that each register of it is a declared one.
use Rattle.std.proofs.Common.{◌≡◌, List, [], ◌∷◌, map, None, refl, sym, subst, ◌∙◌}
use Rattle.std.specs.Prelude.{⊤}
use Rattle.std.specs.List.{AllByRecursion}
use Rattle.svd_model.specs.declared.device.Child.{Child, map-Child, roll-Child}
use Rattle.svd_model.specs.declared.device.Child.TheVariants.{rolls-Cluster, rolls-Register}
use Rattle.svd_model.specs.declared.device.Child.TheFolds.{ind-Item}
use Rattle.svd_model.specs.declared.device.Child.TheOpen.{Child-F, Cluster-F, Item-F}
use Rattle.svd_model.specs.declared.device.Child.TheOpen as opened
use Rattle.svd_model.specs.declared.device.Cluster.{Cluster, out-Cluster, out-roll-Cluster, roll-Cluster}
use Rattle.svd_model.specs.declared.device.Item.{Item, roll-Item}
use Rattle.svd_model.specs.declared.device.Register.{Register}
use Rattle.svd_model.specs.declared.sibling.Sibling.{Sibling}
use Rattle.svd_model.specs.Keys.{Key}
use Rattle.svd_model.specs.Stating.{value_of, stated_base}
use Rattle.svd_model.specs.Steps.{Kind, Step, cluster, register}
use Rattle.svd_model.specs.Trees.{child_tree, item_under, step_of, cluster_under, register_under}
use Rattle.svd_model.proofs.Stated.{cluster-base, register-base}
use Rattle.svd_model.proofs.Trees.{child_tree-cluster, child_tree-register, cluster_tree-is, item_under-roll}
use Rattle.svd_rows.specs.Forest.{Forest, Tree, leaf, node, siblings}

-- the element is a declared register
pub record IsDeclared (step : Step) (keys : List Key) (children : Forest Step Key) : Type 0 where
  pub key : Sibling
  pub entry : Register
  pub is : ◌≡◌ {A = Step × Tree Step Key} (step, record { keys = keys; below = children }) (register_under key entry)

-- one fact of a register, and another of a cluster; there is nothing else
abbrev pub OfKind : Kind → Type 0 → Type 0 → Type 0
OfKind register of_register of_cluster = of_register
OfKind cluster of_register of_cluster = of_cluster
OfKind _ of_register of_cluster = ⊥

unfoldable pub AreTyped : Forest Step Key → Type 0
AreTyped leaf = ⊤
AreTyped (node step keys children others) = (value_of stated_base keys ≡ None) × OfKind step.kind (IsDeclared step keys children) (AreTyped children) × AreTyped others

-- ---- an element by itself

abbrev Typed : (Step × Tree Step Key) → Type 0
Typed x = AreTyped (siblings (x ∷ []))

typed-register : (key : Sibling) (r : Register) → Typed (register_under key r)
unfolding AreTyped siblings
typed-register key r = (register-base r, record { key = key; entry = r; is = refl }, tt)

-- elements one after the other
typed-all : (items : List Item) → AllByRecursion (λ item. Typed (item_under item)) items → AreTyped (siblings (map item_under items))
unfolding AreTyped siblings
typed-all [] all = tt
typed-all (item ∷ items) all = (all.0.0, all.0.1, typed-all items all.1)

typed-cluster : (key : Sibling) (c : Cluster) → AllByRecursion (λ item. Typed (item_under item)) (out-Cluster c).children.items → Typed (cluster_under key c)
unfolding AreTyped siblings
typed-cluster key c all =
    subst (λ (tree : Tree Step Key). Typed (step_of cluster key, tree)) (sym (cluster_tree-is c)) (cluster-base (out-Cluster c), typed-all (out-Cluster c).children.items all, tt)

-- ---- all items

abbrev ChildTyped : Child → Type 0
ChildTyped child = (key : Sibling) → Typed (step_of (child_tree child).0 key, (child_tree child).1)

abbrev ClusterTyped : Cluster → Type 0
ClusterTyped c = (key : Sibling) → Typed (cluster_under key c)

abbrev ItemTyped : Item → Type 0
ItemTyped item = Typed (item_under item)

-- a child with what is said of it
child-typed : (y : Child-F ((x : Child) × ChildTyped x) ((x : Cluster) × ClusterTyped x) ((x : Item) × ItemTyped x)) → ChildTyped (roll-Child (map-Child _ _ _ Child Cluster Item (λ e. e.0) (λ e. e.0) (λ e. e.0) y))
child-typed (opened.Cluster e) = subst ChildTyped (sym (rolls-Cluster e.0)) (λ key. subst (λ (t : Kind × Tree Step Key). Typed (step_of t.0 key, t.1)) (sym (child_tree-cluster e.0)) (e.1 key))
child-typed (opened.Register r) = subst ChildTyped (sym (rolls-Register r)) (λ key. subst (λ (t : Kind × Tree Step Key). Typed (step_of t.0 key, t.1)) (sym (child_tree-register r)) (typed-register key r))

firsts : (items : List ((item : Item) × ItemTyped item)) → AllByRecursion ItemTyped (map (λ e. e.0) items)
firsts [] = tt
firsts (e ∷ items) = (e.1, firsts items)

item-typed : (item : Item) → ItemTyped item
item-typed = ind-Item ChildTyped ClusterTyped ItemTyped
    (λ x y is. subst (λ (z : Child-F Child Cluster Item). ChildTyped (roll-Child z)) is (child-typed y))
    (λ x y is key. typed-cluster key (roll-Cluster x) (subst (λ (z : Cluster-F Child Cluster Item). AllByRecursion ItemTyped z.children.items) (is ∙ sym (out-roll-Cluster x)) (firsts y.children.items)))
    (λ x y is. subst (λ (z : Item-F Child Cluster Item). ItemTyped (roll-Item z)) is (subst Typed (sym (item_under-roll (record { key = y.key; child = y.child.0 }))) (y.child.1 y.key)))

each-typed : (items : List Item) → AllByRecursion ItemTyped items
each-typed [] = tt
each-typed (item ∷ items) = (item-typed item, each-typed items)

-- the registers and clusters of a block are typed, with all below them
pub are-typed : (items : List Item) → AreTyped (siblings (map item_under items))
are-typed items = typed-all items (each-typed items)
