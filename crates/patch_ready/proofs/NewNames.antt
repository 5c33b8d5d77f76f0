-- The new name among the keys of an element, whose value is held to be a name.
use Rattle.std.proofs.Common.{◌≡◌, ℕ, Bool, true, false, List, [], ◌∷◌, ◌++◌, Option, Some, None, codes, refl, sym, ap, subst, ◌∙◌}
use Rattle.std.proofs.lemmas.Slice.Eq.{bytes_eq-Decides}
use Rattle.std.specs.Map.{lookup}
use Rattle.std.specs.Str.{bytes_eq}
use Rattle.pac_base.specs.Names.{IsName}
use Rattle.patch_form.specs.Demands.{each_key, element_demands, key_demands, place_demands}
use Rattle.patch_form.specs.Forms.{trimmed}
use Rattle.patch_form.specs.Unmet.{AllMet}
use Rattle.patch_form.specs.Words.{element_keys, key_kind}
use Rattle.patch_form.specs.declared.form.Form.TheVariants.{Name}
use Rattle.patch_form.specs.declared.form.KeyKind.{KeyKind}
use Rattle.patch_form.specs.declared.form.KeyKind.TheVariants.{Used, Children, PassedOver}
use Rattle.patch_form.specs.declared.word.Purpose.TheVariants.{Modifying}
use Rattle.patch_model.proofs.Copying.{met_left, met_right}
use Rattle.patch_model.specs.Acts.{KeyList}
use Rattle.patch_model.specs.Orders.{counts, kept_key, kept_keys, keys_of}
use Rattle.patch_ready.specs.Ready.{IsNewName}
use Rattle.yaml_block.specs.Trees.{Tree, EntryTrees, nothing, scalar, list, mapping, no_entries, entry}

none_new : IsNewName []
none_new name is = absurd cc

-- one key more in front
new_front : (key value : List ℕ) (rest : KeyList) (same : Bool) → bytes_eq (codes "name") key ≡ same → (same ≡ true → IsName value) → IsNewName rest → IsNewName ((key, value) ∷ rest)
new_front key value rest true is here more = λ name found. subst IsName (value_is name (sym (hit is) ∙ found)) (here refl)
  where
    hit : bytes_eq (codes "name") key ≡ true → lookup (bytes_eq (codes "name")) ((key, value) ∷ rest) ≡ Some value
    hit is = rw is refl

    value_is : (name : List ℕ) → Some value ≡ Some name → value ≡ name
    value_is name e = cc
new_front key value rest false is here more = λ name found. more name (sym (passed is) ∙ found)
  where
    passed : bytes_eq (codes "name") key ≡ false → lookup (bytes_eq (codes "name")) ((key, value) ∷ rest) ≡ lookup (bytes_eq (codes "name")) rest
    passed is = rw is refl

name_kind : key_kind (codes "name") ≡ Some (Used Name)
unfolding key_kind element_keys
name_kind = refl

is_name_kind : (key : List ℕ) → bytes_eq (codes "name") key ≡ true → key_kind key ≡ Some (Used Name)
is_name_kind key is = ap key_kind (sym ((bytes_eq-Decides (codes "name") key).0 is)) ∙ name_kind

scalar_named : (line : ℕ) (text : List ℕ) (kind : Option KeyKind) → kind ≡ Some (Used Name) → AllMet (key_demands kind line (scalar text)) → IsName (trimmed text)
scalar_named line text kind is met = (subst (λ (one : Option KeyKind). AllMet (key_demands one line (scalar text))) is met).0

-- an entry of the keys in front
module _ (line : ℕ) (key : List ℕ) (rest : KeyList) (more : IsNewName rest) where
  new_kept : (counting : Bool) (kind : Option KeyKind) (tree : Tree) → (bytes_eq (codes "name") key ≡ true → kind ≡ Some (Used Name)) → AllMet (key_demands kind line tree) → IsNewName (kept_key counting kind key tree ++ rest)
  new_kept false kind tree named met = more
  new_kept true None tree named met = more
  new_kept true (Some Children) tree named met = more
  new_kept true (Some PassedOver) tree named met = more
  new_kept true (Some (Used form)) nothing named met = more
  new_kept true (Some (Used form)) (scalar text) named met =
      new_front key (trimmed text) rest (bytes_eq (codes "name") key) refl (λ is. scalar_named line text (Some (Used form)) (named is) met) more
  new_kept true (Some (Used form)) (list items) named met = more
  new_kept true (Some (Used form)) (mapping inside) named met = more

new_keys : (named : EntryTrees) → AllMet (each_key named) → IsNewName (kept_keys Modifying named)
new_keys no_entries met = none_new
new_keys (entry line key tree others) met =
    new_kept line key (kept_keys Modifying others) (new_keys others (met_right (key_demands (key_kind key) line tree) (each_key others) met))
    (counts Modifying key) (key_kind key) tree (is_name_kind key) (met_left (key_demands (key_kind key) line tree) (each_key others) met)

-- of keys that meet their demands the new name is a name
pub new_name_met : (line : ℕ) (tree : Tree) → AllMet (element_demands line tree) → IsNewName (keys_of Modifying tree)
new_name_met line nothing met = none_new
new_name_met line (scalar text) met = none_new
new_name_met line (list items) met = none_new
new_name_met line (mapping named) met = new_keys named (met_left (each_key named) (place_demands line named) met)
