-- What the code makes, or why it doesn't, is what an addition comes to.
use Rattle.std.proofs.Common.{◌≡◌, ◌⊎◌, ℕ, List, Option, None, Result, Ok, Err, IsErrAnd, Vec, sym, ap, ◌∙◌, subst, inl, inr}
use Rattle.std.specs.declared.hash.BuildHasherDefault.{BuildHasherDefault}
use Rattle.std.specs.declared.hash.FoldHasher.{FoldHasher}
use Rattle.indexmap.specs.IndexMap.{IndexMap}
use Rattle.patch_additions.specs.Additions.{Builds, BuildsFields, BuildsRegisters, IsRefusal, IsUnmade, built_tree, lack_of}
use Rattle.patch_additions.specs.declared.addition.Unmade.{Unmade}
use Rattle.patch_additions.specs.declared.addition.Unmade.TheVariants as unmade
use Rattle.patch_model.specs.Acts.{Added, AddedOne}
use Rattle.patch_sem.specs.Additions.{first_missing, unless_missing}
use Rattle.patch_sem.specs.declared.fault.PatchFault.{PatchFault}
use Rattle.patch_sem.specs.declared.fault.PatchFault.TheVariants as faults
use Rattle.patch_sem.specs.Steps.{Outcome}
use Rattle.svd_model.specs.declared.device.Field.{Field}
use Rattle.svd_model.specs.declared.device.Item.{Item}
use Rattle.svd_model.specs.declared.sibling.Sibling.{Sibling}
use Rattle.svd_model.specs.Keys.{Key}
use Rattle.svd_model.specs.Steps.{Kind, Step, register, field}
use Rattle.svd_rows.specs.Forest.{Tree}

-- what one part isn't made for, the whole isn't
pub not-built : {A : Type 0} (seen : A → Tree Step Key) (kind : Kind) (one : AddedOne) (why : Unmade) (result : Result A Unmade) → IsErrAnd result (λ found. found ≡ why) → IsUnmade (lack_of kind one) why → Builds seen kind one result
not-built seen kind one why (Ok made) is lacks = absurd is
not-built seen kind one why (Err found) is lacks = subst (IsUnmade (lack_of kind one)) (sym is) lacks

pub fields-not-built : (all : Added) (why : Unmade) (result : Result (IndexMap Sibling Field (BuildHasherDefault FoldHasher)) Unmade) → IsErrAnd result (λ found. found ≡ why) → IsUnmade (first_missing field all) why → BuildsFields all result
fields-not-built all why (Ok made) is lacks = absurd is
fields-not-built all why (Err found) is lacks = subst (IsUnmade (first_missing field all)) (sym is) lacks

pub registers-not-built : {Z : Type 0} (all : Added) (why : Unmade) (result : Result (Vec Item Z) Unmade) → IsErrAnd result (λ found. found ≡ why) → IsUnmade (first_missing register all) why → BuildsRegisters all result
registers-not-built all why (Ok made) is lacks = absurd is
registers-not-built all why (Err found) is lacks = subst (IsUnmade (first_missing register all)) (sym is) lacks

module _ (line : ℕ) (kind : Kind) (one : AddedOne) where
  abbrev made : Outcome (Kind × Tree Step Key)
  made = Ok (kind, built_tree kind one)

  pub makes : {A : Type 0} (seen : A → Tree Step Key) (value : A) → (lack_of kind one ≡ None) × (seen value ≡ built_tree kind one) → unless_missing line (lack_of kind one) made ≡ Ok (kind, seen value)
  makes seen value is = ap (λ (lack : Option (List ℕ)). unless_missing line lack made) is.0 ∙ ap (λ (tree : Tree Step Key). Ok (kind, tree)) (sym is.1)

  pub refuses : (why : Unmade) (fault : PatchFault) → IsUnmade (lack_of kind one) why → IsRefusal line why fault → (fault ≡ faults.Memory) ⊎ (unless_missing line (lack_of kind one) made ≡ Err fault)
  refuses (unmade.Lacks key) fault lacks (inl memory) = inl memory
  refuses (unmade.Lacks key) fault lacks (inr is) = inr (ap (λ (lack : Option (List ℕ)). unless_missing line lack made) lacks ∙ ap Err (sym is))
  refuses unmade.Memory fault lacks is = inl is
