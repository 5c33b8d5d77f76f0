-- What the declared types alone say of the tree of a description: the keys of each element stand by rank, and what stands in the
-- device, a peripheral, a cluster or a register is known to patches.
use Rattle.std.proofs.Common.{◌≡◌, ℕ, ◌+◌, Bool, true, false, List, [], ◌∷◌, map, Option, Some, None, refl, sym, subst, ◌∙◌}
use Rattle.std.specs.Prelude.{⊤}
use Rattle.std.specs.List.{AllByRecursion}
use Rattle.patch_sem.specs.Selecting.{is_patched}
use Rattle.svd_model.specs.declared.device.Child.{Child, map-Child, roll-Child}
use Rattle.svd_model.specs.declared.device.Child.TheVariants.{rolls-Cluster, rolls-Register}
use Rattle.svd_model.specs.declared.device.Child.TheFolds.{ind-Item}
use Rattle.svd_model.specs.declared.device.Child.TheOpen.{Child-F, Cluster-F, Item-F}
use Rattle.svd_model.specs.declared.device.Child.TheOpen as opened
use Rattle.svd_model.specs.declared.device.Cluster.{Cluster, out-Cluster, out-roll-Cluster, roll-Cluster}
use Rattle.svd_model.specs.declared.device.Field.{Field}
use Rattle.svd_model.specs.declared.device.Item.{Item, roll-Item}
use Rattle.svd_model.specs.declared.device.Peripheral.{Peripheral}
use Rattle.svd_model.specs.declared.device.Register.{Register}
use Rattle.svd_model.specs.declared.device.Values.{Values}
use Rattle.svd_model.specs.declared.device.Variant.{Variant}
use Rattle.svd_model.specs.declared.sibling.Sibling.{Sibling}
use Rattle.svd_model.proofs.Placed.{cluster-placed, field-placed, peripheral-placed, register-placed, set-placed, value-placed}
use Rattle.svd_model.proofs.Trees.{child_tree-cluster, child_tree-register, cluster_tree-is, item_under-roll}
use Rattle.svd_model.specs.Keys.{Key, rank}
use Rattle.svd_model.specs.Steps.{Kind, Step, peripheral, cluster, register, field, set, value}
use Rattle.svd_model.specs.Trees.{child_tree, cluster_places, field_places, field_under, item_under, numbered, peripheral_places, peripheral_under, register_places, register_tree, set_places, set_tree, step_of, value_places, value_tree, cluster_tree}
use Rattle.svd_rows.proofs.Places.{stated-ranked}
use Rattle.svd_rows.specs.Forest.{Forest, Tree, leaf, node, siblings}
use Rattle.svd_rows.specs.Ranks.{IsPlaced, IsRanked, stated}

-- are the children of an element of this kind known to patches?
abbrev pub holds : Kind → Bool
holds peripheral = true
holds cluster = true
holds register = true
holds field = false
holds set = false
holds value = false

abbrev pub holds_at : Option Kind → Bool
holds_at None = true
holds_at (Some kind) = holds kind

unfoldable pub IsTyped : Bool → Forest Step Key → Type 0
IsTyped known leaf = ⊤
IsTyped known (node step keys children others) =
    (known ≡ true → is_patched step.kind ≡ true) × IsRanked rank keys × IsTyped (holds step.kind) children × IsTyped known others

ranked : (places : List (Option Key)) → IsPlaced rank 0 places → IsRanked rank (stated places)
ranked places is = stated-ranked rank 0 places is

-- ---- fields

values-typed : (n : ℕ) (items : List Variant) → IsTyped false (numbered value n (map value_tree items))
unfolding IsTyped numbered
values-typed n [] = tt
values-typed n (item ∷ items) = ((λ e. absurd cc), ranked (value_places item) (value-placed item), tt, values-typed (n + 1) items)

sets-typed : (n : ℕ) (sets : List Values) → IsTyped false (numbered set n (map set_tree sets))
unfolding IsTyped numbered
sets-typed n [] = tt
sets-typed n (one ∷ sets) = ((λ e. absurd cc), ranked (set_places one) (set-placed one), values-typed 0 one.items.items, sets-typed (n + 1) sets)

fields-typed : (fields : List (Sibling × Field)) → IsTyped true (siblings (map field_under fields))
unfolding IsTyped siblings
fields-typed [] = tt
fields-typed (entry ∷ fields) = ((λ e. refl), ranked (field_places entry.1) (field-placed entry.1), sets-typed 0 entry.1.values.items, fields-typed fields)

-- ---- an element by itself

abbrev Typed : (Step × Tree Step Key) → Type 0
Typed x = IsTyped true (siblings (x ∷ []))

typed-register : (key : Sibling) (r : Register) → Typed (step_of register key, register_tree r)
unfolding IsTyped siblings
typed-register key r = ((λ e. refl), ranked (register_places r) (register-placed r), fields-typed r.fields.entries, tt)

typed-all : (items : List Item) → AllByRecursion (λ item. Typed (item_under item)) items → IsTyped true (siblings (map item_under items))
unfolding IsTyped siblings
typed-all [] all = tt
typed-all (item ∷ items) all = (all.0.0, all.0.1, all.0.2, typed-all items all.1)

typed-cluster : (key : Sibling) (c : Cluster) → AllByRecursion (λ item. Typed (item_under item)) (out-Cluster c).children.items → Typed (step_of cluster key, cluster_tree c)
unfolding IsTyped siblings
typed-cluster key c all =
    subst (λ (tree : Tree Step Key). Typed (step_of cluster key, tree)) (sym (cluster_tree-is c)) ((λ e. refl), ranked (cluster_places (out-Cluster c)) (cluster-placed (out-Cluster c)), typed-all (out-Cluster c).children.items all, tt)

-- ---- all items

abbrev ChildTyped : Child → Type 0
ChildTyped child = (key : Sibling) → Typed (step_of (child_tree child).0 key, (child_tree child).1)

abbrev ClusterTyped : Cluster → Type 0
ClusterTyped c = (key : Sibling) → Typed (step_of cluster key, cluster_tree c)

abbrev ItemTyped : Item → Type 0
ItemTyped item = Typed (item_under item)

child-typed : (y : Child-F ((x : Child) × ChildTyped x) ((x : Cluster) × ClusterTyped x) ((x : Item) × ItemTyped x)) → ChildTyped (roll-Child (map-Child _ _ _ Child Cluster Item (λ e. e.0) (λ e. e.0) (λ e. e.0) y))
child-typed (opened.Cluster e) = subst ChildTyped (sym (rolls-Cluster e.0)) (λ key. subst (λ (t : Kind × Tree Step Key). Typed (step_of t.0 key, t.1)) (sym (child_tree-cluster e.0)) (e.1 key))
child-typed (opened.Register r) = subst ChildTyped (sym (rolls-Register r)) (λ key. subst (λ (t : Kind × Tree Step Key). Typed (step_of t.0 key, t.1)) (sym (child_tree-register r)) (typed-register key r))

firsts : (items : List ((item : Item) × ItemTyped item)) → AllByRecursion ItemTyped (map (λ e. e.0) items)
firsts [] = tt
firsts (e ∷ items) = (e.1, firsts items)

item-typed : (item : Item) → ItemTyped item
item-typed = ind-Item ChildTyped ClusterTyped ItemTyped
    (λ x y is. subst (λ (z : Child-F Child Cluster Item). ChildTyped (roll-Child z)) is (child-typed y))
    (λ x y is key. typed-cluster key (roll-Cluster x) (subst (λ (z : Cluster-F Child Cluster Item). AllByRecursion ItemTyped z.children.items) (is ∙ sym (out-roll-Cluster x)) (firsts y.children.items)))
    (λ x y is. subst (λ (z : Item-F Child Cluster Item). ItemTyped (roll-Item z)) is (subst Typed (sym (item_under-roll (record { key = y.key; child = y.child.0 }))) (y.child.1 y.key)))

each-typed : (items : List Item) → AllByRecursion ItemTyped items
each-typed [] = tt
each-typed (item ∷ items) = (item-typed item, each-typed items)

-- the peripherals of a device, with all below them
pub peripherals-typed : (entries : List (Sibling × Peripheral)) → IsTyped true (siblings (map peripheral_under entries))
unfolding IsTyped siblings
peripherals-typed [] = tt
peripherals-typed (entry ∷ entries) = (
  (λ e. refl),
  ranked (peripheral_places entry.1) (peripheral-placed entry.1),
  typed-all entry.1.children.items (each-typed entry.1.children.items),
  peripherals-typed entries,
)
