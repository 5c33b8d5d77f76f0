-- All siblings of a description are known to patches, or none is: sets of enumerated values and values stand by themselves.
use Rattle.std.proofs.Common.{◌≡◌, Bool, true, false, cond, not, ◌||◌, ℕ, ◌+◌, List, [], ◌∷◌, map, refl, sym, ap₂, ◌∙◌, subst}
use Rattle.std.specs.List.{AllByRecursion}
use Rattle.patch_edits.specs.Visits.{Below}
use Rattle.patch_sem.specs.Selecting.{is_patched}
use Rattle.patch_arrays.specs.Siblings.{clashes, unlike_kinds}
use Rattle.svd_model.specs.declared.device.Child.{Child, map-Child, roll-Child}
use Rattle.svd_model.specs.declared.device.Child.TheVariants.{rolls-Cluster, rolls-Register}
use Rattle.svd_model.specs.declared.device.Child.TheFolds.{ind-Item}
use Rattle.svd_model.specs.declared.device.Child.TheOpen.{Child-F, Cluster-F, Item-F}
use Rattle.svd_model.specs.declared.device.Child.TheOpen as opened
use Rattle.svd_model.specs.declared.device.Cluster.{Cluster, out-Cluster, out-roll-Cluster, roll-Cluster}
use Rattle.svd_model.specs.declared.device.Field.{Field}
use Rattle.svd_model.specs.declared.device.Item.{Item, roll-Item}
use Rattle.svd_model.specs.declared.device.Peripheral.{Peripheral}
use Rattle.svd_model.specs.declared.device.Values.{Values}
use Rattle.svd_model.specs.declared.device.Variant.{Variant}
use Rattle.svd_model.specs.declared.sibling.Sibling.{Sibling}
use Rattle.svd_model.specs.Keys.{Key}
use Rattle.svd_model.specs.Steps.{Kind, Step, set, value, same_key}
use Rattle.svd_model.specs.Trees.{child_tree, cluster_tree, field_under, item_under, numbered, peripheral_under, set_tree, value_tree}
use Rattle.svd_model.proofs.Trees.{child_tree-cluster, child_tree-register, cluster_tree-is, item_under-roll}
use Rattle.svd_rows.specs.Elements.{IsDistinct}
use Rattle.svd_rows.specs.Forest.{Tree, leaf, node, siblings, steps}

-- no two siblings differ in whether patches know them
abbrev Alike : Below → Type 0
Alike f = IsDistinct unlike_kinds f

same-not-unlike : (b : Bool) → cond b (not b) b ≡ false
same-not-unlike true = refl
same-not-unlike false = refl

-- all of one sort
abbrev AllSo : Bool → Below → Type 0
AllSo b f = AllByRecursion (λ step. is_patched step.kind ≡ b) (steps f)

unlike-none : (b : Bool) (one other : Step) → is_patched one.kind ≡ b → is_patched other.kind ≡ b → unlike_kinds one other ≡ false
unlike-none b one other e k = ap₂ (λ (x y : Bool). cond x (not y) y) e k ∙ same-not-unlike b

absent : (b : Bool) (one : Step) (others : List Step) → is_patched one.kind ≡ b → AllByRecursion (λ step. is_patched step.kind ≡ b) others → AllByRecursion (λ other. unlike_kinds one other ≡ false) others
absent b one [] e all = tt
absent b one (other ∷ others) e all = (unlike-none b one other e all.0, absent b one others e all.1)

-- ---- values and sets

values-so : (n : ℕ) (elements : List Variant) → AllSo false (numbered value n (map value_tree elements)) × Alike (numbered value n (map value_tree elements))
unfolding numbered steps IsDistinct
values-so n [] = (tt, tt)
values-so n (one ∷ others) =
    let more = values-so (n + 1) others in
    ((refl, more.0), (absent false (record { kind = value; name = (value_tree one).0; number = n }) (steps (numbered value (n + 1) (map value_tree others))) refl more.0, tt, more.1))

sets-so : (n : ℕ) (elements : List Values) → AllSo false (numbered set n (map set_tree elements)) × Alike (numbered set n (map set_tree elements))
unfolding numbered steps IsDistinct
sets-so n [] = (tt, tt)
sets-so n (one ∷ others) =
    let more = sets-so (n + 1) others in
    ((refl, more.0), (absent false (record { kind = set; name = (set_tree one).0; number = n }) (steps (numbered set (n + 1) (map set_tree others))) refl more.0, (values-so 0 one.items.items).1, more.1))

-- ---- elements under their keys

module _ {A : Type 0} (seen : A → Step × Tree Step Key) (known : (x : A) → is_patched (seen x).0.kind ≡ true) where
  listed : (xs : List A) → AllByRecursion (λ x. Alike (seen x).1.below) xs → AllSo true (siblings (map seen xs)) × Alike (siblings (map seen xs))
  unfolding siblings steps IsDistinct
  listed [] all = (tt, tt)
  listed (x ∷ xs) all =
      let more = listed xs all.1 in
      ((known x, more.0), (absent true (seen x).0 (steps (siblings (map seen xs))) (known x) more.0, all.0, more.1))

each-field : (entries : List (Sibling × Field)) → AllByRecursion (λ entry. Alike (field_under entry).1.below) entries
each-field [] = tt
each-field (entry ∷ entries) = ((sets-so 0 entry.1.values.items).1, each-field entries)

fields-alike : (entries : List (Sibling × Field)) → Alike (siblings (map field_under entries))
fields-alike entries = (listed field_under (λ entry. refl) entries (each-field entries)).1

-- ---- items

abbrev ChildAlike : Child → Type 0
ChildAlike child = (is_patched (child_tree child).0 ≡ true) × Alike (child_tree child).1.below

abbrev ClusterAlike : Cluster → Type 0
ClusterAlike element = Alike (cluster_tree element).below

abbrev ItemAlike : Item → Type 0
ItemAlike item = (is_patched (item_under item).0.kind ≡ true) × Alike (item_under item).1.below

items-listed : (items : List Item) → AllByRecursion ItemAlike items → AllSo true (siblings (map item_under items)) × Alike (siblings (map item_under items))
unfolding siblings steps IsDistinct
items-listed [] all = (tt, tt)
items-listed (item ∷ items) all =
    let more = items-listed items all.1 in
    ((all.0.0, more.0), (absent true (item_under item).0 (steps (siblings (map item_under items))) all.0.0 more.0, all.0.1, more.1))

cluster-alike : (element : Cluster) → AllByRecursion ItemAlike (out-Cluster element).children.items → ClusterAlike element
cluster-alike element all = subst (λ (tree : Tree Step Key). Alike tree.below) (sym (cluster_tree-is element)) (items-listed (out-Cluster element).children.items all).1

child-alike : (y : Child-F ((x : Child) × ChildAlike x) ((x : Cluster) × ClusterAlike x) ((x : Item) × ItemAlike x)) → ChildAlike (roll-Child (map-Child _ _ _ Child Cluster Item (λ e. e.0) (λ e. e.0) (λ e. e.0) y))
child-alike (opened.Cluster e) = subst ChildAlike (sym (rolls-Cluster e.0)) (subst (λ (x : Kind × Tree Step Key). (is_patched x.0 ≡ true) × Alike x.1.below) (sym (child_tree-cluster e.0)) (refl, e.1))
child-alike (opened.Register r) = subst ChildAlike (sym (rolls-Register r)) (subst (λ (x : Kind × Tree Step Key). (is_patched x.0 ≡ true) × Alike x.1.below) (sym (child_tree-register r)) (refl, fields-alike r.fields.entries))

firsts : (items : List ((item : Item) × ItemAlike item)) → AllByRecursion ItemAlike (map (λ e. e.0) items)
firsts [] = tt
firsts (e ∷ items) = (e.1, firsts items)

item-alike : (item : Item) → ItemAlike item
item-alike = ind-Item ChildAlike ClusterAlike ItemAlike
    (λ x y is. subst (λ (z : Child-F Child Cluster Item). ChildAlike (roll-Child z)) is (child-alike y))
    (λ x y is. cluster-alike (roll-Cluster x) (subst (λ (z : Cluster-F Child Cluster Item). AllByRecursion ItemAlike z.children.items) (is ∙ sym (out-roll-Cluster x)) (firsts y.children.items)))
    (λ x y is. subst (λ (z : Item-F Child Cluster Item). ItemAlike (roll-Item z)) is (subst (λ (x : Step × Tree Step Key). (is_patched x.0.kind ≡ true) × Alike x.1.below) (sym (item_under-roll (record { key = y.key; child = y.child.0 }))) y.child.1))

each-item : (items : List Item) → AllByRecursion ItemAlike items
each-item [] = tt
each-item (item ∷ items) = (item-alike item, each-item items)

each-peripheral : (entries : List (Sibling × Peripheral)) → AllByRecursion (λ entry. Alike (peripheral_under entry).1.below) entries
each-peripheral [] = tt
each-peripheral (entry ∷ entries) = ((items-listed entry.1.children.items (each-item entry.1.children.items)).1, each-peripheral entries)

peripherals-alike : (entries : List (Sibling × Peripheral)) → Alike (siblings (map peripheral_under entries))
peripherals-alike entries = (listed peripheral_under (λ entry. refl) entries (each-peripheral entries)).1

-- ---- both

both-apart : (f : Below) → IsDistinct same_key f → IsDistinct unlike_kinds f → IsDistinct clashes f
unfolding IsDistinct
both-apart leaf h k = tt
both-apart (node s ks c n) h k = (each (steps n) h.0 k.0, both-apart c h.1 k.1, both-apart n h.2 k.2)
  where
    each : (others : List Step) → AllByRecursion (λ other. same_key s other ≡ false) others → AllByRecursion (λ other. unlike_kinds s other ≡ false) others → AllByRecursion (λ other. clashes s other ≡ false) others
    each [] a b = tt
    each (other ∷ others) a b = (ap₂ (λ (x y : Bool). x || y) a.0 b.0, each others a.1 b.1)

pub peripherals-apart : (entries : List (Sibling × Peripheral)) → IsDistinct same_key (siblings (map peripheral_under entries)) → IsDistinct clashes (siblings (map peripheral_under entries))
peripherals-apart entries h = both-apart (siblings (map peripheral_under entries)) h (peripherals-alike entries)
