-- What is left of the tree of an element below which something was edited.
use Rattle.std.proofs.Common.{◌≡◌, ℕ, Bool, true, ◌&&◌, map, Option, Some, Result, Ok, Err, refl, sym, ap, ap₂, ◌∙◌, subst, inl, inr}
use Rattle.glob_select.specs.Matching.{matches}
use Rattle.patch_model.specs.Acts.{PatternItems}
use Rattle.patch_sem.specs.declared.fault.PatchFault.{PatchFault}
use Rattle.patch_sem.specs.Selecting.{is_patched, selects}
use Rattle.patch_sem.specs.Steps.{Outcome}
use Rattle.patch_edits.proofs.Recounting.{recounts-same}
use Rattle.patch_edits.specs.Edits.{Edited, EditedChild, EditedOne, Recounts, below_block, below_child, below_item, below_register}
use Rattle.patch_edits.specs.Visits.{Below, only_if}
use Rattle.svd_model.specs.declared.device.Child.{Child}
use Rattle.svd_model.specs.declared.device.Child.TheVariants.{Cluster, Register}
use Rattle.svd_model.specs.declared.device.Child.TheOpen.{Cluster-F, Item-F}
use Rattle.svd_model.specs.declared.device.Cluster.{Cluster as ClusterOf, out-Cluster, roll-Cluster}
use Rattle.svd_model.specs.declared.device.Item.{Item, roll-Item}
use Rattle.svd_model.specs.declared.device.Peripheral.{Peripheral}
use Rattle.svd_model.specs.declared.device.Register.{Register as RegisterOf}
use Rattle.svd_model.specs.declared.sibling.Sibling.{Sibling}
use Rattle.svd_model.proofs.Trees.{child_tree-cluster, child_tree-register, cluster_tree-below, cluster_tree-with_children, item_under-is, item_under-name, item_under-roll}
use Rattle.svd_model.specs.Keys.{Key}
use Rattle.svd_model.specs.Steps.{Kind, Step, cluster, peripheral, register}
use Rattle.svd_model.specs.Trees.{child_tree, cluster_tree, item_under, peripheral_places, peripheral_under, register_places, register_tree}
use Rattle.svd_rows.specs.Forest.{Tree, siblings}
use Rattle.svd_rows.specs.Ranks.{stated}

-- an element that the pattern matches
pub one-edited : (pattern : PatternItems) (edit : Kind → Below → Outcome Below) (old new : Step × Tree Step Key) (result : Result (Unit {0}) PatchFault) → selects pattern old.0 ≡ true → new.0 ≡ old.0 → new.1.keys ≡ old.1.keys → Edited (edit old.0.kind old.1.below) new.1.below result → EditedOne pattern edit old new result
one-edited pattern edit old new (Ok done) matched step keys e = (ap (λ (b : Bool). only_if b (edit old.0.kind old.1.below) old.1.below) matched ∙ e, step, keys)
one-edited pattern edit old new (Err fault) matched step keys (inl memory) = inl memory
one-edited pattern edit old new (Err fault) matched step keys (inr e) = inr (ap (λ (b : Bool). only_if b (edit old.0.kind old.1.below) old.1.below) matched ∙ e)

selected-so : (pattern : PatternItems) (step : Step) (b : Bool) → is_patched step.kind ≡ true → matches pattern step.name ≡ b → selects pattern step ≡ b
unfolding selects
selected-so pattern step b known is = ap₂ (λ (one other : Bool). one && other) known is

-- a peripheral with other children
pub peripheral-edited : (pattern : PatternItems) (edit : Kind → Below → Outcome Below) (key : Sibling) (old new : Peripheral) (result : Result (Unit {0}) PatchFault) → matches pattern key.name ≡ true → peripheral_places new ≡ peripheral_places old → Edited (edit peripheral (peripheral_under (key, old)).1.below) (peripheral_under (key, new)).1.below result → EditedOne pattern edit (peripheral_under (key, old)) (peripheral_under (key, new)) result
peripheral-edited pattern edit key old new result is places e =
    one-edited pattern edit (peripheral_under (key, old)) (peripheral_under (key, new)) result (selected-so pattern (peripheral_under (key, old)).0 true refl is) refl (ap stated places) e

pub child-patched : (child : Child) → is_patched (child_tree child).0 ≡ true
child-patched (Cluster element) = ap (λ (x : Kind × Tree Step Key). is_patched x.0) (child_tree-cluster element)
child-patched (Register element) = ap (λ (x : Kind × Tree Step Key). is_patched x.0) (child_tree-register element)

item-patched : (item : Item) → is_patched (item_under item).0.kind ≡ true
item-patched item = ap (λ (x : Step × Tree Step Key). is_patched x.0.kind) (item_under-is item) ∙ child-patched item.child

-- whether a pattern matches an item
pub item-selected : (pattern : PatternItems) (item : Item) (b : Bool) → matches pattern item.key.name ≡ b → selects pattern (item_under item).0 ≡ b
item-selected pattern item b is = selected-so pattern (item_under item).0 b (item-patched item) (ap (matches pattern) (item_under-name item) ∙ is)

-- an item with another child
pub item-edited : (pattern : PatternItems) (edit : Option Kind → Below → Outcome Below) (item : Item) (made : Item-F Child ClusterOf Item) (result : Result (Unit {0}) PatchFault) → matches pattern item.key.name ≡ true → made.key ≡ item.key → EditedChild edit (child_tree item.child) (child_tree made.child) result → EditedOne pattern (λ kind. edit (Some kind)) (item_under item) (item_under (roll-Item made)) result
item-edited pattern edit item made result is key e = cases result e
  where
    old_kind : (item_under item).0.kind ≡ (child_tree item.child).0
    old_kind = ap (λ (x : Step × Tree Step Key). x.0.kind) (item_under-is item)

    old_tree : (item_under item).1 ≡ (child_tree item.child).1
    old_tree = ap (λ (x : Step × Tree Step Key). x.1) (item_under-is item)

    new_tree : (item_under (roll-Item made)).1 ≡ (child_tree made.child).1
    new_tree = ap (λ (x : Step × Tree Step Key). x.1) (item_under-roll made)

    does : only_if (selects pattern (item_under item).0) (edit (Some (item_under item).0.kind) (item_under item).1.below) (item_under item).1.below ≡ edit (Some (child_tree item.child).0) (child_tree item.child).1.below
    does =
        ap (λ (b : Bool). only_if b (edit (Some (item_under item).0.kind) (item_under item).1.below) (item_under item).1.below) (item-selected pattern item true is)
        ∙ ap₂ (λ (kind : Kind) (tree : Tree Step Key). edit (Some kind) tree.below) old_kind old_tree

    cases : (result : Result (Unit {0}) PatchFault) → EditedChild edit (child_tree item.child) (child_tree made.child) result → EditedOne pattern (λ kind. edit (Some kind)) (item_under item) (item_under (roll-Item made)) result
    cases (Ok done) e = (
      does ∙ e.0 ∙ ap (λ (tree : Tree Step Key). Ok tree.below) (sym new_tree),
      ap (λ (x : Step × Tree Step Key). x.0) (item_under-roll made)
          ∙ ap₂ (λ (kind : Kind) (k : Sibling). record { kind = kind; name = k.name; number = k.number }) e.1 key
          ∙ sym (ap (λ (x : Step × Tree Step Key). x.0) (item_under-is item)),
      ap (λ (tree : Tree Step Key). tree.keys) new_tree ∙ e.2 ∙ sym (ap (λ (tree : Tree Step Key). tree.keys) old_tree),
    )
    cases (Err fault) (inl memory) = inl memory
    cases (Err fault) (inr e) = inr (does ∙ e)

-- a child whose children were edited, where its trees before and after are told
child-edited : (edit : Option Kind → Below → Outcome Below) (kind : Kind) (old new : Tree Step Key) (before after : Kind × Tree Step Key) (result : Result (Unit {0}) PatchFault) → before ≡ (kind, old) → after ≡ (kind, new) → new.keys ≡ old.keys → Edited (edit (Some kind) old.below) new.below result → EditedChild edit before after result
child-edited edit kind old new before after (Ok done) was is keys e = (
  ap (λ (x : Kind × Tree Step Key). edit (Some x.0) x.1.below) was ∙ e ∙ ap (λ (x : Kind × Tree Step Key). Ok x.1.below) (sym is),
  ap (λ (x : Kind × Tree Step Key). x.0) is ∙ sym (ap (λ (x : Kind × Tree Step Key). x.0) was),
  ap (λ (x : Kind × Tree Step Key). x.1.keys) is ∙ keys ∙ sym (ap (λ (x : Kind × Tree Step Key). x.1.keys) was),
)
child-edited edit kind old new before after (Err fault) was is keys (inl memory) = inl memory
child-edited edit kind old new before after (Err fault) was is keys (inr e) = inr (ap (λ (x : Kind × Tree Step Key). edit (Some x.0) x.1.below) was ∙ e)

pub cluster-edited : (edit : Option Kind → Below → Outcome Below) (child : Child) (element : ClusterOf) (made : Cluster-F Child ClusterOf Item) (result : Result (Unit {0}) PatchFault) → child ≡ Cluster element → made.derived ≡ (out-Cluster element).derived → made.dim ≡ (out-Cluster element).dim → made.offset ≡ (out-Cluster element).offset → made.alternate ≡ (out-Cluster element).alternate → made.props ≡ (out-Cluster element).props → Edited (edit (Some cluster) (siblings (map item_under (out-Cluster element).children.items))) (siblings (map item_under made.children.items)) result → EditedChild edit (child_tree child) (child_tree (Cluster (roll-Cluster made))) result
cluster-edited edit child element made result is derived dim offset alternate props e =
    child-edited edit cluster (cluster_tree element) (record { keys = (cluster_tree element).keys; below = siblings (map item_under made.children.items) }) (child_tree child) (child_tree (Cluster (roll-Cluster made))) result
    (ap child_tree is ∙ child_tree-cluster element)
    (child_tree-cluster (roll-Cluster made) ∙ ap (λ (tree : Tree Step Key). (cluster, tree)) (cluster_tree-with_children made element derived dim offset alternate props))
    refl
    (subst (λ (below : Below). Edited (edit (Some cluster) below) (siblings (map item_under made.children.items)) result) (sym (cluster_tree-below element)) e)

pub register-edited : (edit : Option Kind → Below → Outcome Below) (child : Child) (element made : RegisterOf) (result : Result (Unit {0}) PatchFault) → child ≡ Register element → register_places made ≡ register_places element → Edited (edit (Some register) (register_tree element).below) (register_tree made).below result → EditedChild edit (child_tree child) (child_tree (Register made)) result
register-edited edit child element made result is places e =
    child-edited edit register (register_tree element) (register_tree made) (child_tree child) (child_tree (Register made)) result (ap child_tree is ∙ child_tree-register element) (child_tree-register made) (ap stated places) e

-- ---- the running count at a child, by that of what stands below it

pub item-recounts : (item : Item) (made : Item-F Child ClusterOf Item) (result : Result (Unit {0}) PatchFault) (before after : ℕ) → Recounts below_child result before item.child after made.child → Recounts below_item result before item after (roll-Item made)
item-recounts item made result before after e =
    recounts-same below_item below_child result before after item (roll-Item made) item.child made.child (ap (λ (x : Step × Tree Step Key). x.1.below) (item_under-is item)) (ap (λ (x : Step × Tree Step Key). x.1.below) (item_under-roll made)) e

pub cluster-recounts : (child : Child) (element : ClusterOf) (made : Cluster-F Child ClusterOf Item) (result : Result (Unit {0}) PatchFault) (before after : ℕ) → child ≡ Cluster element → made.derived ≡ (out-Cluster element).derived → made.dim ≡ (out-Cluster element).dim → made.offset ≡ (out-Cluster element).offset → made.alternate ≡ (out-Cluster element).alternate → made.props ≡ (out-Cluster element).props → Recounts below_block result before (out-Cluster element).children.items after made.children.items → Recounts below_child result before child after (Cluster (roll-Cluster made))
cluster-recounts child element made result before after is derived dim offset alternate props e =
    recounts-same below_child below_block result before after child (Cluster (roll-Cluster made)) (out-Cluster element).children.items made.children.items
    (ap below_child is ∙ ap (λ (x : Kind × Tree Step Key). x.1.below) (child_tree-cluster element) ∙ cluster_tree-below element)
    (ap (λ (x : Kind × Tree Step Key). x.1.below) (child_tree-cluster (roll-Cluster made)) ∙ ap (λ (tree : Tree Step Key). tree.below) (cluster_tree-with_children made element derived dim offset alternate props))
    e

pub register-recounts : (child : Child) (element made : RegisterOf) (result : Result (Unit {0}) PatchFault) (before after : ℕ) → child ≡ Register element → Recounts below_register result before element.fields.entries after made.fields.entries → Recounts below_child result before child after (Register made)
register-recounts child element made result before after is e =
    recounts-same below_child below_register result before after child (Register made) element.fields.entries made.fields.entries
    (ap below_child is ∙ ap (λ (x : Kind × Tree Step Key). x.1.below) (child_tree-register element))
    (ap (λ (x : Kind × Tree Step Key). x.1.below) (child_tree-register made))
    e
