-- The tree of an element in which keys are set.
use Rattle.std.proofs.Common.{◌≡◌, List, Result, Ok, Err, IfOk, sym, ap, ap₂, ◌∙◌}
use Rattle.pac_base.specs.declared.memory.NoMemory.{NoMemory}
use Rattle.patch_model.specs.Acts.{KeyList}
use Rattle.patch_sem.specs.Settings.{container_of, keys_set, keys_with}
use Rattle.patch_settings.specs.Setting.{IsSet, with_set}
use Rattle.svd_model.specs.Keys.{Key}
use Rattle.svd_model.specs.Steps.{Kind, Step}
use Rattle.svd_rows.specs.Forest.{Forest, Tree}
use Rattle.svd_schema.specs.declared.container.Container.{Container}

pub set-tree : (held : Container) (texts : KeyList) (old new : Tree Step Key) → IsSet held texts old new → new ≡ record { keys = keys_with (keys_set held texts) old.keys; below = old.below }
set-tree held texts old new is = ap₂ (λ (keys : List Key) (below : Forest Step Key). record { keys = keys; below = below }) is.keys is.below

pub if_ok : {P Q : Type 0} (result : Result (Unit {0}) NoMemory) → (P → Q) → IfOk result (λ done. P) → IfOk result (λ done. Q)
if_ok (Ok done) more p = more p
if_ok (Err fault) more p = tt

-- a child in which keys are set
pub child-set : (texts : KeyList) (kind : Kind) (was now : Kind × Tree Step Key) (old new : Tree Step Key) → was ≡ (kind, old) → now ≡ (kind, new) → IsSet (container_of kind) texts old new → now ≡ with_set texts was
child-set texts kind was now old new before after is =
    after ∙ ap (λ (tree : Tree Step Key). (kind, tree)) (set-tree (container_of kind) texts old new is) ∙ ap (with_set texts) (sym before)
