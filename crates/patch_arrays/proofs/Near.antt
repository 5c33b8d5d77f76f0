-- Where the elements of a description start, as its numbers hold it.
use Rattle.std.proofs.Common.{◌≡◌, ℕ, ◌+◌, ◌<◌, ◌^◌, List, [], ◌∷◌, map, Option, Some, None, unwrap_or, sym, ap, ◌∙◌, subst, arith, inl, inr, ◌⊎◌}
use Rattle.std.specs.List.{AllByRecursion}
use Rattle.patch_edits.specs.Visits.{Below}
use Rattle.patch_arrays.proofs.Dimmed.{base-with, offset-with}
use Rattle.patch_arrays.specs.Unplaced.{Unplaced, of_cluster, of_field, of_peripheral, of_register, of_set, of_value, places_with}
use Rattle.svd_model.specs.declared.device.Child.{Child, map-Child, roll-Child}
use Rattle.svd_model.specs.declared.device.Child.TheVariants.{rolls-Cluster, rolls-Register}
use Rattle.svd_model.specs.declared.device.Child.TheFolds.{ind-Item}
use Rattle.svd_model.specs.declared.device.Child.TheOpen.{Child-F, Cluster-F, Item-F}
use Rattle.svd_model.specs.declared.device.Child.TheOpen as opened
use Rattle.svd_model.specs.declared.device.Cluster.{Cluster, out-Cluster, out-roll-Cluster, roll-Cluster}
use Rattle.svd_model.specs.declared.device.Field.{Field}
use Rattle.svd_model.specs.declared.device.Item.{Item, roll-Item}
use Rattle.svd_model.specs.declared.device.Peripheral.{Peripheral}
use Rattle.svd_model.specs.declared.device.Values.{Values}
use Rattle.svd_model.specs.declared.device.Variant.{Variant}
use Rattle.svd_model.specs.declared.sibling.Sibling.{Sibling}
use Rattle.svd_model.specs.Facts.{IsBounded, IsElement, IsPlacedOrDerived}
use Rattle.svd_model.specs.Keys.{Key, at_offset, base_address}
use Rattle.svd_model.specs.Stating.{start_of, stated_base, stated_offset, value_of}
use Rattle.svd_model.specs.Steps.{Kind, Step, set, value}
use Rattle.svd_model.specs.Trees.{child_tree, cluster_places, cluster_tree, field_places, field_under, item_under, numbered, peripheral_places, peripheral_under, register_places, set_places, set_tree, step_of, value_places, value_tree}
use Rattle.svd_model.proofs.Trees.{child_tree-cluster, child_tree-register, cluster_tree-is, item_under-roll}
use Rattle.svd_rows.specs.Elements.{Every}
use Rattle.svd_rows.specs.Forest.{Tree, leaf, node, siblings}
use Rattle.svd_rows.specs.Ranks.{stated}

-- it states no base, or no offset
abbrev pub HasOneStart : Step → List Key → Type 0
HasOneStart step keys = (value_of stated_base keys ≡ None) ⊎ (value_of stated_offset keys ≡ None)

abbrev pub StartsOnce : Below → Type 0
StartsOnce f = Every HasOneStart f

no_base : (step : Step) (offset : Option ℕ) (one : Unplaced) → HasOneStart step (stated (places_with None offset one))
no_base step offset one = inl (base-with None offset one)

-- ---- values and sets

values-start : (n : ℕ) (elements : List Variant) → StartsOnce (numbered value n (map value_tree elements))
unfolding numbered Every value_places places_with
values-start n [] = tt
values-start n (one ∷ others) = (no_base (record { kind = value; name = one.name; number = n }) None (of_value one), tt, values-start (n + 1) others)

sets-start : (n : ℕ) (elements : List Values) → StartsOnce (numbered set n (map set_tree elements))
unfolding numbered Every set_places places_with
sets-start n [] = tt
sets-start n (one ∷ others) = (no_base (record { kind = set; name = (set_tree one).0; number = n }) None (of_set one), values-start 0 one.items.items, sets-start (n + 1) others)

-- ---- elements under their keys

abbrev Starts : Step × Tree Step Key → Type 0
Starts x = HasOneStart x.0 x.1.keys × StartsOnce x.1.below

listed : {A : Type 0} (seen : A → Step × Tree Step Key) (xs : List A) → AllByRecursion (λ x. Starts (seen x)) xs → StartsOnce (siblings (map seen xs))
unfolding siblings Every
listed seen [] all = tt
listed seen (x ∷ xs) all = (all.0.0, all.0.1, listed seen xs all.1)

each-field : (entries : List (Sibling × Field)) → AllByRecursion (λ entry. Starts (field_under entry)) entries
unfolding field_places places_with
each-field [] = tt
each-field (entry ∷ entries) = ((no_base (field_under entry).0 entry.1.place.offset (of_field entry.1), sets-start 0 entry.1.values.items), each-field entries)

fields-start : (entries : List (Sibling × Field)) → StartsOnce (siblings (map field_under entries))
fields-start entries = listed field_under entries (each-field entries)

-- ---- items

abbrev AreStarts : Tree Step Key → Type 0
AreStarts tree = ((step : Step) → HasOneStart step tree.keys) × StartsOnce tree.below

abbrev ChildStarts : Child → Type 0
ChildStarts child = AreStarts (child_tree child).1

abbrev ClusterStarts : Cluster → Type 0
ClusterStarts element = AreStarts (cluster_tree element)

abbrev ItemStarts : Item → Type 0
ItemStarts item = Starts (item_under item)

cluster-start : (element : Cluster) → AllByRecursion ItemStarts (out-Cluster element).children.items → ClusterStarts element
unfolding cluster_places places_with
cluster-start element all =
    subst AreStarts (sym (cluster_tree-is element)) ((λ step. no_base step (Some (out-Cluster element).offset) (of_cluster (out-Cluster element))), listed item_under (out-Cluster element).children.items all)

child-start : (y : Child-F ((x : Child) × ChildStarts x) ((x : Cluster) × ClusterStarts x) ((x : Item) × ItemStarts x)) → ChildStarts (roll-Child (map-Child _ _ _ Child Cluster Item (λ e. e.0) (λ e. e.0) (λ e. e.0) y))
unfolding register_places places_with
child-start (opened.Cluster e) = subst ChildStarts (sym (rolls-Cluster e.0)) (subst (λ (x : Kind × Tree Step Key). AreStarts x.1) (sym (child_tree-cluster e.0)) e.1)
child-start (opened.Register r) = subst ChildStarts (sym (rolls-Register r)) (subst (λ (x : Kind × Tree Step Key). AreStarts x.1) (sym (child_tree-register r)) ((λ step. no_base step (Some r.offset) (of_register r)), fields-start r.fields.entries))

firsts : (items : List ((item : Item) × ItemStarts item)) → AllByRecursion ItemStarts (map (λ e. e.0) items)
firsts [] = tt
firsts (e ∷ items) = (e.1, firsts items)

item-start : (item : Item) → ItemStarts item
item-start = ind-Item ChildStarts ClusterStarts ItemStarts
    (λ x y is. subst (λ (z : Child-F Child Cluster Item). ChildStarts (roll-Child z)) is (child-start y))
    (λ x y is. cluster-start (roll-Cluster x) (subst (λ (z : Cluster-F Child Cluster Item). AllByRecursion ItemStarts z.children.items) (is ∙ sym (out-roll-Cluster x)) (firsts y.children.items)))
    (λ x y is. subst (λ (z : Item-F Child Cluster Item). ItemStarts (roll-Item z)) is (subst Starts (sym (item_under-roll (record { key = y.key; child = y.child.0 }))) (y.child.1.0 (step_of (child_tree y.child.0).0 y.key), y.child.1.1)))

each-item : (items : List Item) → AllByRecursion ItemStarts items
each-item [] = tt
each-item (item ∷ items) = (item-start item, each-item items)

each-peripheral : (entries : List (Sibling × Peripheral)) → AllByRecursion (λ entry. Starts (peripheral_under entry)) entries
unfolding peripheral_places places_with
each-peripheral [] = tt
each-peripheral (entry ∷ entries) = ((inr (offset-with (Some entry.1.base) None (of_peripheral entry.1)), listed item_under entry.1.children.items (each-item entry.1.children.items)), each-peripheral entries)

pub peripherals-start : (entries : List (Sibling × Peripheral)) → StartsOnce (siblings (map peripheral_under entries))
peripherals-start entries = listed peripheral_under entries (each-peripheral entries)

-- ---- how far

abbrev pub IsNear : Step → List Key → Type 0
IsNear step keys = start_of keys None < 2 ^ 64

module _ (limit : ℕ) (some : 0 < limit) where
  base-near : (keys : List Key) → AllByRecursion (IsBounded limit) keys → unwrap_or (value_of stated_base keys) 0 < limit
  unfolding value_of
  base-near [] all = some
  base-near (base_address n ∷ keys) all = all.0
  base-near (_ ∷ keys) all = base-near keys all.1

  offset-near : (keys : List Key) → AllByRecursion (IsBounded limit) keys → unwrap_or (value_of stated_offset keys) 0 < limit
  unfolding value_of
  offset-near [] all = some
  offset-near (at_offset n ∷ keys) all = all.0
  offset-near (_ ∷ keys) all = offset-near keys all.1

  start-near : (keys : List Key) (step : Step) → AllByRecursion (IsBounded limit) keys → HasOneStart step keys → start_of keys None < limit
  start-near keys step all (inl none) = let zero_base = ap (λ (o : Option ℕ). unwrap_or o 0) none in let near = offset-near keys all in omega (arith, zero_base, near)
  start-near keys step all (inr none) = let zero_offset = ap (λ (o : Option ℕ). unwrap_or o 0) none in let near = base-near keys all in omega (arith, zero_offset, near)

-- each element of a description starts within 64 bits
pub near-every : (f : Below) → Every (IsElement IsPlacedOrDerived) f → StartsOnce f → Every IsNear f
unfolding Every
near-every leaf h k = tt
near-every (node s ks c n) h k = (start-near (2 ^ 64) (omega arith) ks s h.0.bounded k.0, near-every c h.1 k.1, near-every n h.2 k.2)
