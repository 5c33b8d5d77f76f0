-- What may become a member, kind by kind: whether it states `dim`, where it starts, and what it is as an array.
use Rattle.std.proofs.Common.{◌≡◌, ℕ, ◌+◌, List, map, None, Some, is_some, unwrap_or, sym, ap, ◌∙◌, arith}
use Rattle.std.specs.List.{list_any}
use Rattle.patch_arrays.proofs.Dimmed.{dim-with, dimmed-with, start-with}
use Rattle.patch_arrays.specs.Members.{Seen, with_dim}
use Rattle.patch_arrays.specs.Unplaced.{IsMade, of_cluster, of_field, of_peripheral, of_register, places_with, tree_of, with_members}
use Rattle.svd_model.proofs.Trees.{child_tree-cluster, child_tree-register, cluster_tree-is, cluster_tree-roll}
use Rattle.svd_model.specs.declared.device.Child.{Child}
use Rattle.svd_model.specs.declared.device.Child.TheOpen.{Cluster-F}
use Rattle.svd_model.specs.declared.device.Child.TheVariants as children
use Rattle.svd_model.specs.declared.device.Cluster.{Cluster, out-Cluster, roll-Cluster}
use Rattle.svd_model.specs.declared.device.Field.{Field}
use Rattle.svd_model.specs.declared.device.Item.{Item}
use Rattle.svd_model.specs.declared.device.Peripheral.{Peripheral}
use Rattle.svd_model.specs.declared.device.Register.{Register}
use Rattle.svd_model.specs.Facts.{is_dim}
use Rattle.svd_model.specs.Keys.{Key}
use Rattle.svd_model.specs.Stating.{start_of}
use Rattle.svd_model.specs.Steps.{Step, cluster, field, peripheral, register}
use Rattle.svd_model.specs.Trees.{child_tree, cluster_places, cluster_tree, field_places, field_tree, item_under, peripheral_places, peripheral_tree, register_places, register_tree}
use Rattle.svd_rows.specs.Forest.{Tree, siblings}

plain : (a : ℕ) → a + 0 ≡ a
plain a = omega arith

front : (a : ℕ) → 0 + a ≡ a
front a = omega arith

-- ---- is it a list or an array?

pub peripheral-dim : (one : Peripheral) → is_some one.dim.count ≡ list_any is_dim (peripheral_tree one).keys
unfolding peripheral_places places_with
peripheral-dim one = sym (dim-with (Some one.base) None (of_peripheral one))

pub field-dim : (one : Field) → is_some one.dim.count ≡ list_any is_dim (field_tree one).keys
unfolding field_places places_with
field-dim one = sym (dim-with None one.place.offset (of_field one))

register-dim : (one : Register) → is_some one.dim.count ≡ list_any is_dim (register_tree one).keys
unfolding register_places places_with
register-dim one = sym (dim-with None (Some one.offset) (of_register one))

cluster-dim : (one : Cluster) → is_some (out-Cluster one).dim.count ≡ list_any is_dim (cluster_tree one).keys
unfolding cluster_places places_with
cluster-dim one = sym (ap (λ (tree : Tree Step Key). list_any is_dim tree.keys) (cluster_tree-is one) ∙ dim-with None (Some (out-Cluster one).offset) (of_cluster (out-Cluster one)))

pub child-cluster-dim : (child : Child) (one : Cluster) → child ≡ children.Cluster one → is_some (out-Cluster one).dim.count ≡ list_any is_dim (child_tree child).1.keys
child-cluster-dim child one is = cluster-dim one ∙ sym (ap (λ (seen : Seen). list_any is_dim seen.1.keys) (ap child_tree is ∙ child_tree-cluster one))

pub child-register-dim : (child : Child) (one : Register) → child ≡ children.Register one → is_some one.dim.count ≡ list_any is_dim (child_tree child).1.keys
child-register-dim child one is = register-dim one ∙ sym (ap (λ (seen : Seen). list_any is_dim seen.1.keys) (ap child_tree is ∙ child_tree-register one))

-- ---- where it starts

pub peripheral-start : (one : Peripheral) → one.base ≡ start_of (peripheral_tree one).keys None
unfolding peripheral_places places_with
peripheral-start one = sym (start-with (Some one.base) None (of_peripheral one) ∙ plain one.base)

pub field-start : (one : Field) → unwrap_or one.place.offset 0 ≡ start_of (field_tree one).keys None
unfolding field_places places_with
field-start one = sym (start-with None one.place.offset (of_field one) ∙ front (unwrap_or one.place.offset 0))

pub cluster-made : (child : Child) (one : Cluster) → child ≡ children.Cluster one → IsMade (child_tree child).1 (out-Cluster one).offset
unfolding cluster_places places_with
cluster-made child one is =
    let tree = ap (λ (seen : Seen). seen.1) (ap child_tree is ∙ child_tree-cluster one) ∙ cluster_tree-is one in
    (of_cluster (out-Cluster one), tree ∙ ap (tree_of (Some (out-Cluster one).offset) (of_cluster (out-Cluster one))) (sym (ap (λ (t : Tree Step Key). t.below) tree)))

pub register-made : (child : Child) (one : Register) → child ≡ children.Register one → IsMade (child_tree child).1 one.offset
unfolding register_places places_with
register-made child one is =
    let tree = ap (λ (seen : Seen). seen.1) (ap child_tree is ∙ child_tree-register one) in
    (of_register one, tree ∙ ap (tree_of (Some one.offset) (of_register one)) (sym (ap (λ (t : Tree Step Key). t.below) tree)))

pub made-start : (tree : Tree Step Key) (offset : ℕ) → IsMade tree offset → offset ≡ start_of tree.keys None
made-start tree offset is = sym (ap (λ (t : Tree Step Key). start_of t.keys None) is.1 ∙ start-with None (Some offset) is.0 ∙ front offset)

-- ---- as an array

pub peripheral-dimmed : (old new : Peripheral) (count step : ℕ) → new ≡ record { derived = old.derived; dim = with_members count step old.dim; base = old.base; props = old.props; children = old.children } → (peripheral, peripheral_tree new) ≡ with_dim count step (peripheral, peripheral_tree old)
unfolding peripheral_places places_with
peripheral-dimmed old new count step is =
    ap (λ (one : Peripheral). (peripheral, peripheral_tree one)) is
    ∙ ap (λ (keys : List Key). (peripheral, record { keys = keys; below = (peripheral_tree old).below })) (dimmed-with (Some old.base) None (of_peripheral old) count step)

pub field-dimmed : (old new : Field) (count step : ℕ) → new ≡ record { derived = old.derived; dim = with_members count step old.dim; place = old.place; access = old.access; kind = old.kind; action = old.action; values = old.values } → (field, field_tree new) ≡ with_dim count step (field, field_tree old)
unfolding field_places places_with
field-dimmed old new count step is =
    ap (λ (one : Field). (field, field_tree one)) is
    ∙ ap (λ (keys : List Key). (field, record { keys = keys; below = (field_tree old).below })) (dimmed-with None old.place.offset (of_field old) count step)

pub register-dimmed : (child : Child) (old new : Register) (count step : ℕ) → child ≡ children.Register old
    → new ≡ record { derived = old.derived; dim = with_members count step old.dim; offset = old.offset; alternate = old.alternate; group = old.group; props = old.props; kind = old.kind; action = old.action; fields = old.fields }
    → child_tree (children.Register new) ≡ with_dim count step (child_tree child)
unfolding register_places places_with
register-dimmed child old new count step is made =
    child_tree-register new
    ∙ ap (λ (one : Register). (register, register_tree one)) made
    ∙ ap (λ (keys : List Key). (register, record { keys = keys; below = (register_tree old).below })) (dimmed-with None (Some old.offset) (of_register old) count step)
    ∙ sym (ap (with_dim count step) (ap child_tree is ∙ child_tree-register old))

pub cluster-dimmed : (child : Child) (old : Cluster) (new : Cluster-F Child Cluster Item) (count step : ℕ) → child ≡ children.Cluster old
    → new ≡ record { derived = (out-Cluster old).derived; dim = with_members count step (out-Cluster old).dim; offset = (out-Cluster old).offset; alternate = (out-Cluster old).alternate; props = (out-Cluster old).props; children = (out-Cluster old).children }
    → child_tree (children.Cluster (roll-Cluster new)) ≡ with_dim count step (child_tree child)
unfolding cluster_places places_with
cluster-dimmed child old new count step is made =
    child_tree-cluster (roll-Cluster new)
    ∙ ap (λ (tree : Tree Step Key). (cluster, tree))
    (ap (λ (one : Cluster-F Child Cluster Item). cluster_tree (roll-Cluster one)) made
    ∙ cluster_tree-roll (record { derived = (out-Cluster old).derived; dim = with_members count step (out-Cluster old).dim; offset = (out-Cluster old).offset; alternate = (out-Cluster old).alternate; props = (out-Cluster old).props; children = (out-Cluster old).children })
    ∙ ap (λ (keys : List Key). record { keys = keys; below = siblings (map item_under (out-Cluster old).children.items) }) (dimmed-with None (Some (out-Cluster old).offset) (of_cluster (out-Cluster old)) count step))
    ∙ sym (ap (with_dim count step) (ap child_tree is ∙ child_tree-cluster old ∙ ap (λ (tree : Tree Step Key). (cluster, tree)) (cluster_tree-is old)))
