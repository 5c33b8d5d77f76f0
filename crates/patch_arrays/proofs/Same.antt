-- Children and fields that are compared with others.
use Rattle.std.proofs.Common.{◌≡◌, ℕ, Bool, true, false, ◌&&◌, not, nat_eq, List, [], map, None, Some, unwrap_or, refl, sym, ap, ap₂, ◌∙◌, subst}
use Rattle.std.specs.Bool.{Decides}
use Rattle.std.specs.Cmp.Lexicographic.{pointwise}
use Rattle.std.specs.Option.{option_eq}
use Rattle.std.specs.Str.{bytes_eq}
use Rattle.patch_arrays.proofs.Pointwise.{seen-pointwise}
use Rattle.patch_arrays.proofs.Told.{alike-made, nothing-decided, numbered-decided, siblings-decided, tree-by-told, tree-made}
use Rattle.patch_arrays.specs.Members.{is_alike}
use Rattle.patch_arrays.specs.Siblings.{same_told}
use Rattle.patch_arrays.specs.Unplaced.{IsMade, of_cluster, of_field, of_peripheral, of_register, of_set, of_value, places_with, same_element, same_field, same_item, same_named, same_set, same_tree, same_unplaced, same_value}
use Rattle.svd_model.proofs.Copies.{sibling_eq}
use Rattle.svd_model.proofs.Trees.{cluster_tree-is, item_under-is}
use Rattle.svd_model.specs.declared.device.Cluster.{Cluster, out-Cluster}
use Rattle.svd_model.specs.declared.device.Field.{Field}
use Rattle.svd_model.specs.declared.device.Item.{Item}
use Rattle.svd_model.specs.declared.device.Peripheral.{Peripheral}
use Rattle.svd_model.specs.declared.device.Register.{Register}
use Rattle.svd_model.specs.declared.device.Values.{Values}
use Rattle.svd_model.specs.declared.device.Variant.{Variant}
use Rattle.svd_model.specs.declared.sibling.Sibling.{Sibling}
use Rattle.svd_model.specs.Keys.{Key}
use Rattle.svd_model.specs.Steps.{Step, set, value, same_kind, same_step}
use Rattle.svd_model.specs.Trees.{child_tree, cluster_places, cluster_tree, field_places, field_tree, field_under, item_under, numbered, peripheral_places, peripheral_tree, register_places, register_tree, set_places, set_tree, value_places, value_tree}
use Rattle.svd_rows.specs.Forest.{Tree, leaf, siblings}

values-decided : (xs ys : List Variant) → Decides (pointwise same_value xs ys) (numbered value 0 (map value_tree xs) ≡ numbered value 0 (map value_tree ys))
values-decided xs ys =
    subst (λ (b : Bool). Decides b (numbered value 0 (map value_tree xs) ≡ numbered value 0 (map value_tree ys))) (sym (seen-pointwise same_named value_tree xs ys)) (numbered-decided value 0 (map value_tree xs) (map value_tree ys))

sets-decided : (xs ys : List Values) → Decides (pointwise same_set xs ys) (numbered set 0 (map set_tree xs) ≡ numbered set 0 (map set_tree ys))
sets-decided xs ys =
    subst (λ (b : Bool). Decides b (numbered set 0 (map set_tree xs) ≡ numbered set 0 (map set_tree ys))) (sym (seen-pointwise same_named set_tree xs ys)) (numbered-decided set 0 (map set_tree xs) (map set_tree ys))

fields-decided : (xs ys : List (Sibling × Field)) → Decides (pointwise same_field xs ys) (siblings (map field_under xs) ≡ siblings (map field_under ys))
fields-decided xs ys =
    subst (λ (b : Bool). Decides b (siblings (map field_under xs) ≡ siblings (map field_under ys))) (sym (seen-pointwise same_element field_under xs ys)) (siblings-decided (map field_under xs) (map field_under ys))

items-decided : (xs ys : List Item) → Decides (pointwise same_item xs ys) (siblings (map item_under xs) ≡ siblings (map item_under ys))
items-decided xs ys =
    subst (λ (b : Bool). Decides b (siblings (map item_under xs) ≡ siblings (map item_under ys))) (sym (seen-pointwise same_element item_under xs ys)) (siblings-decided (map item_under xs) (map item_under ys))

pub field-like : (one other : Field) → (same_unplaced (of_field one) (of_field other) && pointwise same_set one.values.items other.values.items) ≡ same_told (field_tree one) (field_tree other)
unfolding field_places places_with
field-like one other =
    alike-made None None one.place.offset other.place.offset (of_field one) (of_field other) (numbered set 0 (map set_tree one.values.items)) (numbered set 0 (map set_tree other.values.items)) (pointwise same_set one.values.items other.values.items) (sets-decided one.values.items other.values.items)

pub register-like : (one other : Register) → (same_unplaced (of_register one) (of_register other) && pointwise same_field one.fields.entries other.fields.entries) ≡ same_told (register_tree one) (register_tree other)
unfolding register_places places_with
register-like one other =
    alike-made None None (Some one.offset) (Some other.offset) (of_register one) (of_register other) (siblings (map field_under one.fields.entries)) (siblings (map field_under other.fields.entries)) (pointwise same_field one.fields.entries other.fields.entries) (fields-decided one.fields.entries other.fields.entries)

pub cluster-like : (one other : Cluster) → (same_unplaced (of_cluster (out-Cluster one)) (of_cluster (out-Cluster other)) && pointwise same_item (out-Cluster one).children.items (out-Cluster other).children.items) ≡ same_told (cluster_tree one) (cluster_tree other)
unfolding cluster_places places_with
cluster-like one other =
    alike-made None None (Some (out-Cluster one).offset) (Some (out-Cluster other).offset) (of_cluster (out-Cluster one)) (of_cluster (out-Cluster other)) (siblings (map item_under (out-Cluster one).children.items)) (siblings (map item_under (out-Cluster other).children.items)) (pointwise same_item (out-Cluster one).children.items (out-Cluster other).children.items) (items-decided (out-Cluster one).children.items (out-Cluster other).children.items)
    ∙ sym (ap₂ same_told (cluster_tree-is one) (cluster_tree-is other))

pub peripheral-like : (one other : Peripheral) → (same_unplaced (of_peripheral one) (of_peripheral other) && pointwise same_item one.children.items other.children.items) ≡ same_told (peripheral_tree one) (peripheral_tree other)
unfolding peripheral_places places_with
peripheral-like one other =
    alike-made (Some one.base) (Some other.base) None None (of_peripheral one) (of_peripheral other) (siblings (map item_under one.children.items)) (siblings (map item_under other.children.items)) (pointwise same_item one.children.items other.children.items) (items-decided one.children.items other.children.items)

-- ---- under their keys

pub field-same : (key also : Sibling) (one other : Field) → same_field (key, one) (also, other) ≡ (sibling_eq key also && (option_eq nat_eq one.place.offset other.place.offset && same_told (field_tree one) (field_tree other)))
unfolding field_places places_with same_step
field-same key also one other =
    ap (λ (b : Bool). sibling_eq key also && b) (tree-by-told one.place.offset other.place.offset (of_field one) (of_field other) (numbered set 0 (map set_tree one.values.items)) (numbered set 0 (map set_tree other.values.items)))

made-same : (one other : Tree Step Key) (m n : ℕ) → IsMade one m → IsMade other n → same_tree one other ≡ (nat_eq m n && same_told one other)
made-same one other m n is also =
    ap₂ same_tree is.1 also.1
    ∙ tree-by-told (Some m) (Some n) is.0 also.0 one.below other.below
    ∙ ap (λ (b : Bool). nat_eq m n && b) (sym (ap₂ same_told is.1 also.1))

turned : (a b c d : Bool) → ((a && b) && (c && d)) ≡ (b && (c && (a && d)))
turned true true c d = refl
turned true false c d = refl
turned false true true d = refl
turned false true false d = refl
turned false false c d = refl

pub item-same : (one other : Item) (m n : ℕ) → IsMade (child_tree one.child).1 m → IsMade (child_tree other.child).1 n → same_item one other ≡ (sibling_eq one.key other.key && (nat_eq m n && is_alike (child_tree one.child) (child_tree other.child)))
unfolding same_step
item-same one other m n is also =
    ap₂ same_element (item_under-is one) (item_under-is other)
    ∙ ap (λ (b : Bool). (same_kind (child_tree one.child).0 (child_tree other.child).0 && sibling_eq one.key other.key) && b) (made-same (child_tree one.child).1 (child_tree other.child).1 m n is also)
    ∙ turned (same_kind (child_tree one.child).0 (child_tree other.child).0) (sibling_eq one.key other.key) (nat_eq m n) (same_told (child_tree one.child).1 (child_tree other.child).1)

-- other keys
second-not : (a b c : Bool) → b ≡ false → ((a && b) && c) ≡ false
second-not true b c e = ap (λ (x : Bool). x && c) e
second-not false b c e = refl

pub item-key : (one other : Item) → sibling_eq one.key other.key ≡ false → false ≡ same_item one other
unfolding same_step
item-key one other e =
    sym (ap₂ same_element (item_under-is one) (item_under-is other)
    ∙ second-not (same_kind (child_tree one.child).0 (child_tree other.child).0) (sibling_eq one.key other.key) (same_tree (child_tree one.child).1 (child_tree other.child).1) e)

-- ---- sets and values

with_true : (b : Bool) → (b && true) ≡ b
with_true true = refl
with_true false = refl

pub value-same : (one other : Variant) → (bytes_eq one.name other.name && option_eq nat_eq one.value other.value) ≡ same_value one other
unfolding value_places places_with same_unplaced
value-same one other =
    ap (λ (b : Bool). bytes_eq one.name other.name && b)
    (sym (with_true (option_eq nat_eq one.value other.value))
    ∙ sym (with_true (option_eq nat_eq one.value other.value && true))
    ∙ tree-made None None (of_value one) (of_value other) leaf leaf true nothing-decided)

pub set-same : (one other : Values) → (bytes_eq (unwrap_or one.name []) (unwrap_or other.name []) && (same_unplaced (of_set one) (of_set other) && pointwise same_value one.items.items other.items.items)) ≡ same_set one other
unfolding set_places places_with
set-same one other =
    ap (λ (b : Bool). bytes_eq (unwrap_or one.name []) (unwrap_or other.name []) && b)
    (tree-made None None (of_set one) (of_set other) (numbered value 0 (map value_tree one.items.items)) (numbered value 0 (map value_tree other.items.items)) (pointwise same_value one.items.items other.items.items) (values-decided one.items.items other.items.items))

-- ---- tests one after the other

pub and-then : (a b x r : Bool) → a ≡ true → r ≡ b → (a && b) ≡ x → r ≡ x
and-then a b x r e f g = f ∙ sym (ap (λ (c : Bool). c && b) e) ∙ g

pub and-else : (a b x : Bool) → a ≡ false → (a && b) ≡ x → false ≡ x
and-else a b x e g = sym (ap (λ (c : Bool). c && b) e) ∙ g

pub and-second : (a b c x : Bool) → b ≡ false → (a && (b && c)) ≡ x → false ≡ x
and-second true b c x e g = sym (ap (λ (d : Bool). d && c) e) ∙ g
and-second false b c x e g = g

pub and-third : (a b c x r : Bool) → a ≡ true → b ≡ true → r ≡ c → (a && (b && c)) ≡ x → r ≡ x
and-third a b c x r e f h g = h ∙ sym (ap₂ (λ (d s : Bool). d && (s && c)) e f) ∙ g

pub is_not : (b : Bool) → not b ≡ true → b ≡ false
is_not true e = cc
is_not false e = refl

pub is_so : (b : Bool) → not b ≡ false → b ≡ true
is_so true e = refl
is_so false e = cc
