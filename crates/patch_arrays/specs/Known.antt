-- Patches know the kind of each child of a peripheral or cluster.
use Rattle.std.proofs.Common.{◌≡◌, true, sym, ap, subst}
use Rattle.patch_sem.specs.Selecting.{is_patched}
use Rattle.svd_model.specs.declared.device.Child.{Child, map-Child, roll-Child}
use Rattle.svd_model.specs.declared.device.Child.TheVariants.{rolls-Cluster, rolls-Register}
use Rattle.svd_model.specs.declared.device.Child.TheFolds.{ind-Child}
use Rattle.svd_model.specs.declared.device.Child.TheOpen.{Child-F}
use Rattle.svd_model.specs.declared.device.Child.TheOpen as opened
use Rattle.svd_model.specs.declared.device.Cluster.{Cluster}
use Rattle.svd_model.specs.declared.device.Item.{Item}
use Rattle.svd_model.specs.Keys.{Key}
use Rattle.svd_model.specs.Steps.{Kind, Step}
use Rattle.svd_model.specs.Trees.{child_tree}
use Rattle.svd_model.proofs.Trees.{child_tree-cluster, child_tree-register}
use Rattle.svd_rows.specs.Forest.{Tree}

abbrev IsKnown : Child → Type 0
IsKnown child = is_patched (child_tree child).0 ≡ true

abbrev No : {A : Type 0} → A → Type 0
No x = Unit {0}

layer_known : (y : Child-F ((x : Child) × IsKnown x) ((x : Cluster) × No x) ((x : Item) × No x)) → IsKnown (roll-Child (map-Child _ _ _ Child Cluster Item (λ e. e.0) (λ e. e.0) (λ e. e.0) y))
layer_known (opened.Cluster e) = subst IsKnown (sym (rolls-Cluster e.0)) (ap (λ (x : Kind × Tree Step Key). is_patched x.0) (child_tree-cluster e.0))
layer_known (opened.Register r) = subst IsKnown (sym (rolls-Register r)) (ap (λ (x : Kind × Tree Step Key). is_patched x.0) (child_tree-register r))

pub child_known : (child : Child) → is_patched (child_tree child).0 ≡ true
child_known = ind-Child IsKnown No No
    (λ x y is. subst (λ (z : Child-F Child Cluster Item). IsKnown (roll-Child z)) is (layer_known y))
    (λ x y is. tt)
    (λ x y is. tt)
