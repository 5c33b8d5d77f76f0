-- What comes of an addition: the element, or the key that is missing.
use Rattle.std.specs.Prelude.{◌≡◌, ◌⊎◌, cond, ◌&&◌, nat_eq, List, ℕ, codes, Option, None, Some, Result, Ok, MatchResult, Vec, map, ⊤}
use Rattle.std.specs.Option.{option_or}
use Rattle.std.specs.Str.{bytes_eq}
use Rattle.std.specs.declared.hash.BuildHasherDefault.{BuildHasherDefault}
use Rattle.std.specs.declared.hash.FoldHasher.{FoldHasher}
use Rattle.indexmap.specs.IndexMap.{IndexMap}
use Rattle.patch_additions.specs.declared.addition.Needed.{Needed}
use Rattle.patch_additions.specs.declared.addition.Needed.TheVariants.{BaseAddress, AddressOffset, BitOffset}
use Rattle.patch_additions.specs.declared.addition.Unmade.{Unmade}
use Rattle.patch_additions.specs.declared.addition.Unmade.TheVariants.{Lacks, Memory}
use Rattle.patch_edits.specs.Visits.{Below}
use Rattle.patch_growth.specs.Growths.{Growth}
use Rattle.patch_model.specs.Acts.{Added, AddedOne, KeyList, added, no_more}
use Rattle.patch_sem.specs.declared.fault.PatchFault.{PatchFault}
use Rattle.patch_sem.specs.declared.fault.PatchFault.TheVariants as faults
use Rattle.patch_sem.specs.Additions.{first_missing, held_by, keys_made, made_in, needed, unless_missing}
use Rattle.svd_model.specs.declared.device.Field.{Field}
use Rattle.svd_model.specs.declared.device.Item.{Item}
use Rattle.svd_model.specs.declared.sibling.Sibling.{Sibling}
use Rattle.svd_model.specs.Keys.{Key}
use Rattle.svd_model.specs.Steps.{Kind, Step, register, field}
use Rattle.svd_model.specs.Trees.{field_under, item_under}
use Rattle.svd_rows.specs.Forest.{Tree, leaf, node, siblings}

-- the name of a key that must stand
abbrev pub key_text : Needed → List ℕ
key_text BaseAddress = codes "baseAddress"
key_text AddressOffset = codes "addressOffset"
key_text BitOffset = codes "bitOffset"

-- the first key that one element lacks: its own, then those within it
abbrev pub lack_of : Kind → AddedOne → Option (List ℕ)
lack_of kind one =
    option_or (needed kind (keys_made kind one.keys)) (held_by kind None (first_missing register one.registers) (first_missing field one.fields))

-- why an element isn't made: the key that it lacks; out of memory says nothing of it
abbrev pub IsUnmade : Option (List ℕ) → Unmade → Type 0
IsUnmade lack (Lacks key) = lack ≡ Some (key_text key)
IsUnmade lack Memory = ⊤

-- ---- what the code makes: fields in a map, in which the later of two of one name takes the place of the first

unfoldable pub put_field : List ℕ → Tree Step Key → Below → Below
put_field name tree leaf = node (record { kind = field; name = name; number = 0 }) tree.keys tree.below leaf
put_field name tree (node step keys children siblings) =
    cond (bytes_eq name step.name && nat_eq 0 step.number) (node step tree.keys tree.below siblings) (node step keys children (put_field name tree siblings))

abbrev pub field_made : KeyList → Tree Step Key
field_made keys = record { keys = keys_made field keys; below = leaf }

-- one field after the other
unfoldable pub put_fields : Added → Below → Below
put_fields no_more done = done
put_fields (added name keys registers fields others) done = put_fields others (put_field name (field_made keys) done)

abbrev pub register_made : KeyList → Added → Tree Step Key
register_made keys fields = record { keys = keys_made register keys; below = put_fields fields leaf }

unfoldable pub put_registers : Added → Below
put_registers no_more = leaf
put_registers (added name keys registers fields others) =
    node (record { kind = register; name = name; number = 0 }) (keys_made register keys) (put_fields fields leaf) (put_registers others)

abbrev pub built_tree : Kind → AddedOne → Tree Step Key
built_tree kind one = record { keys = keys_made kind one.keys; below = held_by kind leaf (put_registers one.registers) (put_fields one.fields leaf) }

-- the element is made, as nothing is lacking, or not
abbrev pub Builds : {A : Type 0} → (A → Tree Step Key) → Kind → AddedOne → Result A Unmade → Type 0
Builds seen kind one result =
    MatchResult result (λ made. (lack_of kind one ≡ None) × (seen made ≡ built_tree kind one)) (IsUnmade (lack_of kind one))

-- the same of elements side by side, each of them lacking nothing
abbrev pub BuildsAll : {A : Type 0} → (A → Below) → Kind → Below → Added → Result A Unmade → Type 0
BuildsAll seen kind built all result =
    MatchResult result (λ made. (first_missing kind all ≡ None) × (seen made ≡ built)) (IsUnmade (first_missing kind all))

abbrev pub BuildsFields : Added → Result (IndexMap Sibling Field (BuildHasherDefault FoldHasher)) Unmade → Type 0
BuildsFields all result = BuildsAll (λ made. siblings (map field_under made.entries)) field (put_fields all leaf) all result

abbrev pub BuildsRegisters : {Z : Type 0} → Added → Result (Vec Item Z) Unmade → Type 0
BuildsRegisters all result = BuildsAll (λ made. siblings (map item_under made.items)) register (put_registers all) all result

abbrev pub built_child : ℕ → AddedOne → Growth
built_child line one = record {
  line = line;
  name = one.name;
  made = λ kind below. unless_missing line (lack_of (made_in kind) one) (Ok (made_in kind, built_tree (made_in kind) one));
}

-- the fault that a key is missing
abbrev pub IsLacking : ℕ → List ℕ → PatchFault → Type 0
IsLacking line key fault = (fault ≡ faults.Memory) ⊎ (fault ≡ faults.Incomplete line key)

abbrev pub IsRefusal : ℕ → Unmade → PatchFault → Type 0
IsRefusal line (Lacks key) fault = IsLacking line (key_text key) fault
IsRefusal line Memory fault = fault ≡ faults.Memory
