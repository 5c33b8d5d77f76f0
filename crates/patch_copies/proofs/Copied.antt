-- What the code of a copy makes of the child that it finds.
use Rattle.std.proofs.Common.{◌≡◌, ◌⊎◌, ℕ, List, Option, Some, None, option_map, Result, Ok, Err, MatchResult, IfOk, refl, sym, ap, ◌∙◌, subst, inl, inr}
use Rattle.pac_base.specs.declared.memory.NoMemory.{NoMemory}
use Rattle.patch_model.specs.Acts.{KeyList}
use Rattle.patch_sem.specs.declared.fault.PatchFault.{PatchFault}
use Rattle.patch_sem.specs.declared.fault.PatchFault.TheVariants.{CopyMissing, Memory}
use Rattle.patch_sem.specs.Steps.{Outcome}
use Rattle.patch_copies.specs.Copies.{IsMissing, copy_of}
use Rattle.patch_growth.specs.Grown.{Makes}
use Rattle.svd_model.specs.declared.device.Item.{Item}
use Rattle.svd_model.specs.declared.sibling.Sibling.{Sibling}
use Rattle.svd_model.proofs.Trees.{item_under-is}
use Rattle.svd_model.specs.Keys.{Key}
use Rattle.svd_model.specs.Steps.{Kind, Step}
use Rattle.svd_model.specs.Trees.{child_tree, item_under, step_of}
use Rattle.svd_rows.specs.Forest.{Tree}
use Rattle.patch_settings.specs.Setting.{with_set}

-- what was made is what the steps come to
pub finishes : {V B : Type 0} (seen : V → B) (outcome : Outcome B) (value : B) (made : Result V NoMemory) (result : Result V PatchFault) → outcome ≡ Ok value → IfOk made (λ v. seen v ≡ value) → MatchResult made (λ v. result ≡ Ok v) (λ fault. result ≡ Err Memory) → Makes seen outcome result
finishes seen outcome value (Ok v) result e is told = subst (Makes seen outcome) (sym told) (e ∙ ap Ok (sym is))
finishes seen outcome value (Err fault) result e is told = subst (Makes seen outcome) (sym told) (inl refl)

-- a name that none has
pub missing-so : {B : Type 0} (line : ℕ) (from : List ℕ) (outcome : Outcome B) (fault : PatchFault) → outcome ≡ Err (CopyMissing line from) → IsMissing line from fault → (fault ≡ Memory) ⊎ (outcome ≡ Err fault)
missing-so line from outcome fault e (inl memory) = inl memory
missing-so line from outcome fault e (inr is) = inr (e ∙ ap Err (sym is))

module _ (line : ℕ) (from : List ℕ) (texts : KeyList) where
  pub entry-copied : {V : Type 0} (kind : Kind) (tree : V → Tree Step Key) (o : Option (Sibling × V)) (v : V) → Some v ≡ option_map (λ e. e.1) o → copy_of line from texts (option_map (λ e. (step_of kind e.0, tree e.1)) o) ≡ Ok (with_set texts (kind, tree v))
  entry-copied kind tree None v e = absurd cc
  entry-copied kind tree (Some entry) v e = ap (λ w. Ok (with_set texts (kind, tree w))) same
    where
      same : entry.1 ≡ v
      same = cc

  pub entry-missing : {V : Type 0} (kind : Kind) (tree : V → Tree Step Key) (o : Option (Sibling × V)) → None ≡ option_map (λ e. e.1) o → copy_of line from texts (option_map (λ e. (step_of kind e.0, tree e.1)) o) ≡ Err (CopyMissing line from)
  entry-missing kind tree None e = refl
  entry-missing kind tree (Some entry) e = absurd cc

  pub item-copied : (o : Option Item) (item : Item) → Some item ≡ o → copy_of line from texts (option_map item_under o) ≡ Ok (with_set texts (child_tree item.child))
  item-copied None item e = absurd cc
  item-copied (Some other) item e =
      ap (λ (x : Step × Tree Step Key). Ok (with_set texts (x.0.kind, x.1))) (item_under-is other)
      ∙ ap (λ (x : Item). Ok (with_set texts (child_tree x.child))) same
    where
      same : other ≡ item
      same = cc

  pub item-missing : (o : Option Item) → None ≡ o → copy_of line from texts (option_map item_under o) ≡ Err (CopyMissing line from)
  item-missing None e = refl
  item-missing (Some other) e = absurd cc
