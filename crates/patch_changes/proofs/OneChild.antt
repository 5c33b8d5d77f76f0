-- One child in which keys are set, or which has another name.
use Rattle.std.proofs.Common.{◌≡◌, ℕ, Bool, true, false, cond, List, Some, sym, ap, ap₂, ◌∙◌}
use Rattle.patch_changes.specs.Listed.{Element, keyed, under_new}
use Rattle.patch_model.specs.Acts.{KeyList, PatternItems}
use Rattle.patch_sem.specs.Copying.{renamed_step}
use Rattle.patch_sem.specs.Selecting.{selects}
use Rattle.patch_sem.specs.Settings.{container_of, keys_set, keys_with}
use Rattle.patch_settings.proofs.ChildKeys.{set-tree}
use Rattle.patch_settings.specs.Setting.{IsSet, with_set}
use Rattle.svd_model.proofs.Trees.{item_under-is, item_under-roll}
use Rattle.svd_model.specs.declared.device.Child.{Child}
use Rattle.svd_model.specs.declared.device.Child.TheOpen.{Item-F}
use Rattle.svd_model.specs.declared.device.Cluster.{Cluster}
use Rattle.svd_model.specs.declared.device.Item.{Item, roll-Item}
use Rattle.svd_model.specs.declared.sibling.Sibling.{Sibling}
use Rattle.svd_model.specs.Keys.{Key}
use Rattle.svd_model.specs.Steps.{Kind, Step}
use Rattle.svd_model.specs.Trees.{child_tree, item_under, step_of}
use Rattle.svd_rows.specs.Forest.{Tree}

module _ (pattern : PatternItems) (texts : KeyList) where
  abbrev with_keys : Element → Element
  with_keys x = (x.0, record { keys = keys_with (keys_set (container_of x.0.kind) texts) x.1.keys; below = x.1.below })

  chosen-keyed : (x : Element) → selects pattern x.0 ≡ true → with_keys x ≡ keyed pattern texts x
  chosen-keyed x is = sym (ap (λ (b : Bool). cond b (with_keys x) x) is)

  pub child-keyed : (step : Step) (old new : Tree Step Key) → selects pattern step ≡ true → IsSet (container_of step.kind) texts old new → (step, new) ≡ keyed pattern texts (step, old)
  child-keyed step old new is made = ap (λ (tree : Tree Step Key). (step, tree)) (set-tree (container_of step.kind) texts old new made) ∙ chosen-keyed (step, old) is

  pub child-kept : (x : Element) → selects pattern x.0 ≡ false → x ≡ keyed pattern texts x
  child-kept x is = sym (ap (λ (b : Bool). cond b (with_keys x) x) is)

-- ---- items

abbrev shown : Sibling → (Kind × Tree Step Key) → Element
shown key child = (step_of child.0 key, child.1)

pub item-keyed : (pattern : PatternItems) (texts : KeyList) (item : Item) (made : Item-F Child Cluster Item) → selects pattern (item_under item).0 ≡ true → made.key ≡ item.key → child_tree made.child ≡ with_set texts (child_tree item.child) → item_under (roll-Item made) ≡ keyed pattern texts (item_under item)
item-keyed pattern texts item made is key child =
    item_under-roll made
    ∙ ap₂ shown key child
    ∙ ap (with_keys pattern texts) (sym (item_under-is item))
    ∙ chosen-keyed pattern texts (item_under item) is

pub item-renamed : (pattern : PatternItems) (name : List ℕ) (item : Item) (made : Item-F Child Cluster Item) → selects pattern (item_under item).0 ≡ true → made.key ≡ record { name = name; number = 0 } → made.child ≡ item.child → item_under (roll-Item made) ≡ under_new pattern (Some name) (item_under item)
item-renamed pattern name item made is key child =
    item_under-roll made
    ∙ ap₂ (λ (k : Sibling) (c : Child). shown k (child_tree c)) key child
    ∙ ap (λ (x : Element). (renamed_step name x.0, x.1)) (sym (item_under-is item))
    ∙ sym (ap (λ (b : Bool). cond b (renamed_step name (item_under item).0, (item_under item).1) (item_under item)) is)

pub item-kept : (pattern : PatternItems) (name : List ℕ) (x : Element) → selects pattern x.0 ≡ false → x ≡ under_new pattern (Some name) x
item-kept pattern name x is = sym (ap (λ (b : Bool). cond b (renamed_step name x.0, x.1) x) is)
