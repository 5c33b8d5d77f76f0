-- Which crates fit: the typing rules of crate texts (this project's own, after what Rust asks of such a text), each as a test of the whole crate, and the kind of the first that fails.
use Rattle.std.specs.Prelude.{ℕ, ◌≡◌, ◌+◌, ◌^◌, ◌≤◌, Bool, true, false, not, ◌&&◌, nat_lt, nat_le, IsTrue, List, [], ◌∷◌, ◌++◌, map, flat_map, Option, Some, None, is_some, IfSome, if◌then◌else◌}
use Rattle.std.specs.List.{list_all, list_any}
use Rattle.std.specs.Str.{bytes_eq}
use Rattle.pac_base.specs.Widths.{bits_of}
use Rattle.frag_tree.specs.declared.access.Access.{Access}
use Rattle.frag_tree.specs.declared.access.Body.{Body}
use Rattle.frag_tree.specs.declared.access.Body.TheVariants as body
use Rattle.frag_tree.specs.declared.block.Element.{Element}
use Rattle.frag_tree.specs.declared.block.FieldType.{FieldType}
use Rattle.frag_tree.specs.declared.block.FieldType.TheVariants as holds
use Rattle.frag_tree.specs.declared.block.StructField.{StructField}
use Rattle.frag_tree.specs.declared.krate.Version.{Version}
use Rattle.frag_tree.specs.declared.register.Constant.{Constant}
use Rattle.frag_tree.specs.declared.register.ReadForm.{ReadForm}
use Rattle.frag_tree.specs.declared.register.ReadForm.TheVariants as read
use Rattle.frag_tree.specs.declared.register.RegisterModule.{RegisterModule}
use Rattle.frag_tree.specs.declared.register.Values.{Values}
use Rattle.frag_tree.specs.declared.register.Values.TheVariants as values
use Rattle.frag_tree.specs.declared.register.Writable.{Writable}
use Rattle.frag_tree.specs.declared.register.WriteForm.{WriteForm}
use Rattle.frag_tree.specs.declared.register.WriteForm.TheVariants as write
use Rattle.frag_tree.specs.declared.statement.Place.{Place}
use Rattle.frag_tree.specs.Trees.{BlockTree, CrateTree, Modules}
use Rattle.frag_sem.specs.CallPlaces.{RegisterAt, bytes_of, field_named, register_at}
use Rattle.frag_sem.specs.Layout.{extent_of}
use Rattle.frag_sem.specs.Modules.{all_blocks, all_registers, are_distinct, are_distinct_names, module_name, module_of, modules_of, same_element, top_block}
use Rattle.frag_sem.specs.PreludeCalls.{is_prelude_name}
use Rattle.frag_sem.specs.PreludeWords.{same_truth}
use Rattle.frag_sem.specs.ProxyTypes.{ProxyType, readers_of, same_type, same_width, types_of, value_names, values_type, writers_of}
use Rattle.frag_sem.specs.Spots.{last_spot, read_spot, spot_has_members, write_spot}

-- ---- distinct names

-- the names of the modules of one parent
abbrev pub module_names : Modules → List (List ℕ)
module_names modules = map (λ entry. module_name entry.0) (modules_of modules)

-- the modules, the struct's fields and the accessors of a block have distinct names
abbrev pub block_names_differ : BlockTree → Bool
block_names_differ unit =
    are_distinct_names (module_names unit.inside)
    && (are_distinct_names (map (λ field. field.name) unit.head.fields)
    && are_distinct_names (map (λ access. access.name) unit.head.accessors))

-- the calls of values of a register module, each with the type on which it stands
abbrev pub value_calls : RegisterModule → List (ProxyType × List ℕ)
value_calls unit = flat_map (λ block. map (λ name. (values_type block, name)) (value_names block)) unit.values

-- two calls of one type and one name
abbrev pub same_call : (ProxyType × List ℕ) → (ProxyType × List ℕ) → Bool
same_call one other = same_type one.0 other.0 && bytes_eq one.1 other.1

-- the markers, the readers, the writers, and the calls of the values of one type have distinct names
abbrev pub register_names_differ : RegisterModule → Bool
register_names_differ unit =
    are_distinct_names unit.markers
    && (are_distinct_names (map (λ reader. reader.name) (readers_of unit))
    && (are_distinct_names (map (λ writer. writer.name) (writers_of unit))
    && are_distinct same_call (value_calls unit)))

-- Names are distinct: of slots, of the modules of one parent, of struct fields, accessors, markers, readers, writers, and of the calls of all values of one type.
unfoldable pub names_differ : CrateTree → Bool
names_differ krate =
    are_distinct_names (map (λ slot. slot.name) krate.slots)
    && (are_distinct_names (map (λ unit. unit.head.name) krate.blocks)
    && (list_all block_names_differ (all_blocks krate)
    && list_all register_names_differ (all_registers krate)))

-- ---- paths

-- A slot's module is a block module at the top.
unfoldable pub slots_lead : CrateTree → Bool
slots_lead krate = list_all (λ slot. is_some (top_block slot.block krate.blocks)) krate.slots

abbrev pub is_module : Modules → Element → Bool
is_module modules element = is_some (module_of element modules)

abbrev pub names_module : Modules → FieldType → Bool
names_module modules (holds.One element) = is_module modules element
names_module modules (holds.Array element count) = is_module modules element
names_module modules (holds.Gap bytes) = true

-- `m::RegisterBlock` names a block module, `m::Spec` a register module, directly inside the same module.
unfoldable pub paths_lead : CrateTree → Bool
paths_lead krate =
    list_all (λ unit. list_all (λ field. names_module unit.inside field.holds) unit.head.fields && list_all (λ access. is_module unit.inside access.element) unit.head.accessors) (all_blocks krate)

-- ---- accessor bodies

-- a test of every accessor in its block
abbrev pub each_access : (BlockTree → Access → Bool) → CrateTree → Bool
each_access test krate = list_all (λ unit. list_all (test unit) unit.head.accessors) (all_blocks krate)

abbrev pub names_field : List StructField → Body → Bool
names_field fields (body.Field field) = is_some (field_named field fields)
names_field fields (body.Member field) = is_some (field_named field fields)
names_field fields (body.At offset) = true
names_field fields (body.AtIndex offset stride count) = true

-- `self.f` and `self.f[n]` name a field of the struct.
unfoldable pub bodies_name_fields : CrateTree → Bool
bodies_name_fields krate = each_access (λ unit access. names_field unit.head.fields access.body) krate

abbrev pub is_one : Element → FieldType → Bool
is_one element (holds.One other) = same_element element other
is_one element (holds.Array other count) = false
is_one element (holds.Gap bytes) = false

abbrev pub is_array : Element → FieldType → Bool
is_array element (holds.One other) = false
is_array element (holds.Array other count) = same_element element other
is_array element (holds.Gap bytes) = false

abbrev pub holds_such : (FieldType → Bool) → Option StructField → Bool
holds_such test None = false
holds_such test (Some field) = test field.holds

abbrev pub body_types : List StructField → Access → Body → Bool
body_types fields access (body.Field field) = not access.is_indexed && holds_such (is_one access.element) (field_named field fields)
body_types fields access (body.Member field) = access.is_indexed && holds_such (is_array access.element) (field_named field fields)
body_types fields access (body.At offset) = not access.is_indexed
body_types fields access (body.AtIndex offset stride count) = access.is_indexed

-- `self.f` is the accessor's element, `self.f[n]` a member of an array of it; an accessor is indexed exactly where its body is.
unfoldable pub bodies_fit : CrateTree → Bool
bodies_fit krate = each_access (λ unit access. body_types unit.head.fields access access.body) krate

-- ---- counts

abbrev pub type_has_members : FieldType → Bool
type_has_members (holds.One element) = true
type_has_members (holds.Array element count) = nat_le 1 count
type_has_members (holds.Gap bytes) = true

abbrev pub body_has_members : Body → Bool
body_has_members (body.Field field) = true
body_has_members (body.Member field) = true
body_has_members (body.At offset) = true
body_has_members (body.AtIndex offset stride count) = nat_le 1 count

abbrev pub spots_have_members : RegisterModule → Bool
spots_have_members unit = list_all (λ reader. spot_has_members (read_spot reader.form)) (readers_of unit) && list_all (λ writer. spot_has_members (write_spot writer.form)) (writers_of unit)

-- The count of an array, of `at_index` and of `at_bit` is at least 1; a gap may be any number.
unfoldable pub counts_are_some : CrateTree → Bool
counts_are_some krate =
    list_all (λ unit. list_all (λ field. type_has_members field.holds) unit.head.fields && list_all (λ access. body_has_members access.body) unit.head.accessors) (all_blocks krate)
    && list_all spots_have_members (all_registers krate)

-- ---- constants

abbrev pub masks_of : Option Writable → List Constant
masks_of None = []
masks_of (Some masks) = masks.zero_to_modify ∷ masks.one_to_modify ∷ []

-- the constants of a register module
abbrev pub constants_of : RegisterModule → List Constant
constants_of unit = masks_of unit.writable ++ unit.reset ∷ []

-- a number of a type of so many bits
abbrev pub has_bits : ℕ → ℕ → Bool
has_bits bits number = nat_lt number (2 ^ bits)

-- The constants' type is `Ux`.
unfoldable pub constants_have_type : CrateTree → Bool
constants_have_type krate = list_all (λ unit. list_all (λ constant. same_width constant.width unit.word) (constants_of unit)) (all_registers krate)

abbrev pub register_constants_fit : RegisterModule → Bool
register_constants_fit unit = list_all (λ constant. has_bits (bits_of unit.word) constant.value) (constants_of unit)

-- Each constant's literal fits `Ux`.
unfoldable pub constants_fit : CrateTree → Bool
constants_fit krate = list_all register_constants_fit (all_registers krate)

-- ---- readers and writers

abbrev pub is_marker : RegisterModule → List ℕ → Bool
is_marker unit marker = list_any (bytes_eq marker) unit.markers

-- A reader's marker is declared.
unfoldable pub reader_markers : CrateTree → Bool
reader_markers krate = list_all (λ unit. list_all (λ reader. is_marker unit reader.marker) (readers_of unit)) (all_registers krate)

abbrev pub read_fits : ℕ → ReadForm → Bool
read_fits bits (read.Bit spot mask) = nat_lt (last_spot spot) bits && has_bits bits mask
read_fits bits (read.Field width spot mask) = nat_lt (last_spot spot) bits && has_bits bits mask

-- A reader's shift, that of the last member, is below the bits of `Ux`, and its mask fits `Ux`.
unfoldable pub reader_places : CrateTree → Bool
reader_places krate = list_all (λ unit. list_all (λ reader. read_fits (bits_of unit.word) reader.form) (readers_of unit)) (all_registers krate)

-- A writer's marker is declared.
unfoldable pub writer_markers : CrateTree → Bool
writer_markers krate = list_all (λ unit. list_all (λ writer. is_marker unit writer.marker) (writers_of unit)) (all_registers krate)

abbrev pub write_fits : ℕ → WriteForm → Bool
write_fits bits (write.Bit kind spot) = nat_le (last_spot spot + 1) bits
write_fits bits (write.Field width wide spot) = nat_le (last_spot spot + wide) bits && (nat_le 1 wide && nat_le wide (bits_of width))

-- A writer's offset, that of the last member, plus its width, which is 1 for one bit, is at most the bits of `Ux`; a `FieldWriter`'s width is 1 to the bits of its value type.
unfoldable pub writer_places : CrateTree → Bool
writer_places krate = list_all (λ unit. list_all (λ writer. write_fits (bits_of unit.word) writer.form) (writers_of unit)) (all_registers krate)

-- ---- values

-- A block of values stands on the type of a reader or a writer of the same module.
unfoldable pub value_types : CrateTree → Bool
value_types krate = list_all (λ unit. list_all (λ block. list_any (same_type (values_type block)) (types_of unit)) unit.values) (all_registers krate)

abbrev pub values_fit : Values → Bool
values_fit (values.BitReading marker calls) = true
values_fit (values.FieldReading marker width calls) = list_all (λ call. has_bits (bits_of width) call.value) calls
values_fit (values.BitWriting kind marker calls) = true
values_fit (values.FieldWriting marker width bits calls) = list_all (λ call. has_bits (bits_of width) call.value) calls

-- The literals of a block of values fit the value type.
unfoldable pub value_literals : CrateTree → Bool
value_literals krate = list_all (λ unit. list_all values_fit unit.values) (all_registers krate)

-- ---- prelude names and directions

abbrev pub is_free : Version → List ℕ → Bool
is_free version name = not (is_prelude_name version name)

abbrev pub register_names_free : Version → RegisterModule → Bool
register_names_free version unit =
    list_all (λ reader. is_free version reader.name) (readers_of unit)
    && (list_all (λ writer. is_free version writer.name) (writers_of unit)
    && list_all (λ block. list_all (is_free version) (value_names block)) unit.values)

-- No accessor, reader, writer or call of a value has a name of the prelude of the text's version.
unfoldable pub names_are_free : CrateTree → Bool
names_are_free krate = each_access (λ unit access. is_free krate.version access.name) krate && list_all (register_names_free krate.version) (all_registers krate)

-- `impl R` stands exactly with `Readable`, `impl W` exactly with `Writable`.
unfoldable pub directions_agree : CrateTree → Bool
directions_agree krate = list_all (λ unit. same_truth unit.readable (is_some unit.readers) && same_truth (is_some unit.writable) (is_some unit.writers)) (all_registers krate)

-- ---- addresses

-- a register ends at or below 2^64
abbrev pub EndsInRange : RegisterAt → Type 0
EndsInRange found = found.address + bytes_of found.register ≤ 2 ^ 64

-- Every block's size is at most 2^64, and so is the end of the register to which any accessors lead from a slot, with each index below its count.
pub record AddressRange (krate : CrateTree) : Type 0 where
  pub sizes : IsTrue (list_all (λ unit. nat_le (extent_of unit).size (2 ^ 64)) (all_blocks krate))
  pub ends : (place : Place) → IfSome (register_at krate place) EndsInRange

-- ---- all rules

abbrev pub DistinctNames : CrateTree → Type 0
DistinctNames krate = IsTrue (names_differ krate)

abbrev pub SlotModules : CrateTree → Type 0
SlotModules krate = IsTrue (slots_lead krate)

abbrev pub ModulePaths : CrateTree → Type 0
ModulePaths krate = IsTrue (paths_lead krate)

abbrev pub AccessorBodies : CrateTree → Type 0
AccessorBodies krate = IsTrue (bodies_name_fields krate) × IsTrue (bodies_fit krate)

abbrev pub Counts : CrateTree → Type 0
Counts krate = IsTrue (counts_are_some krate)

abbrev pub Constants : CrateTree → Type 0
Constants krate = IsTrue (constants_have_type krate) × IsTrue (constants_fit krate)

abbrev pub Readers : CrateTree → Type 0
Readers krate = IsTrue (reader_markers krate) × IsTrue (reader_places krate)

abbrev pub Writers : CrateTree → Type 0
Writers krate = IsTrue (writer_markers krate) × IsTrue (writer_places krate)

abbrev pub ValueCalls : CrateTree → Type 0
ValueCalls krate = IsTrue (value_types krate) × IsTrue (value_literals krate)

abbrev pub PreludeNames : CrateTree → Type 0
PreludeNames krate = IsTrue (names_are_free krate)

abbrev pub Directions : CrateTree → Type 0
Directions krate = IsTrue (directions_agree krate)

-- A crate fits where all rules hold.
pub record CrateFits (krate : CrateTree) : Type 0 where
  pub distinct_names : DistinctNames krate
  pub slot_modules : SlotModules krate
  pub module_paths : ModulePaths krate
  pub accessor_bodies : AccessorBodies krate
  pub counts : Counts krate
  pub constants : Constants krate
  pub readers : Readers krate
  pub writers : Writers krate
  pub values : ValueCalls krate
  pub prelude_names : PreludeNames krate
  pub directions : Directions krate
  pub address_range : AddressRange krate

-- ---- the first rule that fails

-- why a crate doesn't fit
pub data TypingKind : Type 0 where
  unknown_name : TypingKind
  double_name : TypingKind
  wrong_type : TypingKind
  literal_range : TypingKind
  too_large : TypingKind

-- The tests of all rules but the last in their order, each over the whole crate, with the kind where it fails. Where a rule has two kinds, the first wins though the other stands earlier in the text.
unfoldable pub tests : CrateTree → List (Bool × TypingKind)
tests krate =
    (names_differ krate, double_name) ∷
    (slots_lead krate, unknown_name) ∷
    (paths_lead krate, unknown_name) ∷
    (bodies_name_fields krate, unknown_name) ∷ (bodies_fit krate, wrong_type) ∷
    (counts_are_some krate, literal_range) ∷
    (constants_have_type krate, wrong_type) ∷ (constants_fit krate, literal_range) ∷
    (reader_markers krate, unknown_name) ∷ (reader_places krate, literal_range) ∷
    (writer_markers krate, unknown_name) ∷ (writer_places krate, literal_range) ∷
    (value_types krate, unknown_name) ∷ (value_literals krate, literal_range) ∷
    (names_are_free krate, double_name) ∷
    (directions_agree krate, wrong_type) ∷ []

-- the kind of the first test that fails
abbrev pub first_failed : {K : Type 0} → List (Bool × K) → Option K
first_failed [] = None
first_failed (test ∷ others) = if test.0 then first_failed others else Some test.1

-- the kind of the test that failed, or else that of the address range where it fails
abbrev pub IsKind : CrateTree → TypingKind → Option TypingKind → Type 0
IsKind krate kind None = (kind ≡ too_large) × (¬ (AddressRange krate))
IsKind krate kind (Some first) = kind ≡ first

-- A crate is refused with this kind: that of the first rule that fails.
unfoldable pub IsTypingFault : CrateTree → TypingKind → Type 0
IsTypingFault krate kind = IsKind krate kind (first_failed (tests krate))
