-- What a register does with words: its fields are places in a word, told by division, and its masks are bits. Nothing of the text of its module is looked at.
use Rattle.std.specs.Prelude.{ℕ, ◌≡◌, ◌+◌, ◌*◌, ◌^◌, ◌<◌, ◌≤◌, Bool, true, false, ◌==◌, List, [], ◌∷◌, ◌++◌, codes, filter, find, Option, Some, None, option_map, unwrap_or, if◌then◌else◌, map, nat_le}
use Rattle.std.specs.List.{AllByRecursion, list_all}
use Rattle.std.specs.Str.{bytes_eq}
use Rattle.bits_word.specs.Places.{get, put}
use Rattle.pac_base.specs.Widths.{bits_of}
use Rattle.frag_tree.specs.declared.event.Said.{Said}
use Rattle.frag_tree.specs.declared.event.Said.TheVariants.{Number, Truth}
use Rattle.frag_tree.specs.declared.krate.Version.{Version}
use Rattle.frag_tree.specs.declared.register.BitKind.{BitKind}
use Rattle.frag_tree.specs.declared.register.BitKind.TheVariants as kind
use Rattle.frag_tree.specs.declared.register.NumberCall.{NumberCall}
use Rattle.frag_sem.specs.CallPlaces.{admits}
use Rattle.frag_sem.specs.CrateTyping.{is_free}
use Rattle.frag_sem.specs.Modules.{are_distinct_names}
use Rattle.frag_sem.specs.PreludeWords.{written}
use Rattle.register_form.specs.declared.register.Field.{Field}
use Rattle.register_form.specs.declared.register.FieldArray.{FieldArray}
use Rattle.register_form.specs.declared.register.Register.{Register}
use Rattle.register_form.specs.Fields.{HasBits, is_bit}
use Rattle.register_form.specs.Forms.{markers_of}

-- ---- members

-- how many members an array has; none for what is no array
abbrev pub field_count : Field → Option ℕ
field_count field = option_map (λ (array : FieldArray). array.count) field.array

abbrev pub bit_in : ℕ → Option FieldArray → Option ℕ → ℕ
bit_in offset None index = offset
bit_in offset (Some array) index = offset + unwrap_or index 0 * array.step

-- the lowest bit of a field; of an array, of the member of this index
abbrev pub lowest_bit : Field → Option ℕ → ℕ
lowest_bit field index = bit_in field.offset field.array index

abbrev pub has_members : Option ℕ → Bool
has_members None = true
has_members (Some count) = nat_le 1 count

-- ---- calls

abbrev pub call : List ℕ → ℕ → NumberCall
call name value = record { name = name; value = value }

-- the calls that test a bit, beside `bit`, which gives it
abbrev pub bit_tests : List NumberCall
bit_tests = call (codes "bit_is_set") 1 ∷ call (codes "bit_is_clear") 0 ∷ []

-- the calls that write a bit, beside `bit`, which takes what it writes
abbrev pub bit_writes : BitKind → List NumberCall
bit_writes kind.Plain = call (codes "set_bit") 1 ∷ call (codes "clear_bit") 0 ∷ []
bit_writes kind.OneToSet = call (codes "set_bit") 1 ∷ []
bit_writes kind.ZeroToClear = call (codes "clear_bit") 0 ∷ []
bit_writes kind.OneToClear = call (codes "clear_bit_by_one") 1 ∷ []
bit_writes kind.ZeroToSet = call (codes "set_bit_by_zero") 0 ∷ []
bit_writes kind.OneToToggle = call (codes "toggle_bit") 1 ∷ []
bit_writes kind.ZeroToToggle = call (codes "toggle_bit") 0 ∷ []

abbrev pub call_named : List ℕ → List NumberCall → Option NumberCall
call_named method calls = find (λ call. bytes_eq method call.name) calls

-- ---- what is read

-- whether a value is what a call stands for
abbrev pub compared : ℕ → Option NumberCall → Said
compared value None = Number 0
compared value (Some call) = Truth (value == call.value)

-- what a method gives of a field's value, where the field is a bit or not
abbrev pub said_by : Bool → List NumberCall → List ℕ → ℕ → Said
said_by true calls method value = if bytes_eq method (codes "bit") then Truth (value == 1) else compared value (call_named method (bit_tests ++ calls))
said_by false calls method value = if bytes_eq method (codes "bits") then Number value else compared value (call_named method calls)

abbrev pub field_got : Option ℕ → List ℕ → ℕ → Option Field → Said
field_got index method word None = Number 0
field_got index method word (Some field) = said_by (is_bit field) field.tests method (get word (lowest_bit field index) field.bits)

-- the field of this name that can be read
abbrev pub readable_named : List ℕ → Register → Option Field
readable_named name register = find (λ (field : Field). bytes_eq name field.name) (filter (λ (field : Field). field.readable) register.fields)

-- ---- what is written

-- what a call writes: what it stands for, or else its value
abbrev pub value_or : Option NumberCall → ℕ → ℕ
value_or None value = value
value_or (Some call) value = call.value

-- `bit` or `bits` writes its value, every other call what it stands for
abbrev pub value_by : Bool → Field → List ℕ → ℕ → ℕ
value_by true field method value = if bytes_eq method (codes "bit") then value else value_or (call_named method (bit_writes field.kind ++ field.sets)) value
value_by false field method value = if bytes_eq method (codes "bits") then value else value_or (call_named method field.sets) value

abbrev pub field_put : Option ℕ → List ℕ → ℕ → ℕ → Option Field → ℕ
field_put index method value word None = word
field_put index method value word (Some field) = put word (lowest_bit field index) field.bits (value_by (is_bit field) field method value)

-- the prelude's formula of writers at that place, wherever it lies
abbrev pub field_writes : ℕ → Option ℕ → List ℕ → ℕ → ℕ → Option Field → ℕ
field_writes bits index method value word None = word
field_writes bits index method value word (Some field) = written bits word (lowest_bit field index) field.bits (value_by (is_bit field) field method value)

-- the field of this name that can be written
abbrev pub writable_named : List ℕ → Register → Option Field
writable_named name register = find (λ (field : Field). bytes_eq name field.name) (filter (λ (field : Field). field.writable) register.fields)

-- ---- what checking says of a register

abbrev pub CallsFit : ℕ → List NumberCall → Type 0
CallsFit bits calls = AllByRecursion (λ (call : NumberCall). call.value < 2 ^ bits) calls

-- A field has 1 to 64 bits and each member lies within the word; its values fit it; it has no direction that the register hasn't.
pub record FieldIsSound (register : Register) (field : Field) : Type 0 where
  pub bits : HasBits field
  pub within : (index : Option ℕ) → admits (field_count field) index ≡ true → lowest_bit field index + field.bits ≤ bits_of register.word
  pub tests : CallsFit field.bits field.tests
  pub sets : CallsFit field.bits field.sets
  pub readable : field.readable ≡ true → register.readable ≡ true
  pub writable : field.writable ≡ true → register.writable ≡ true

-- Markers are distinct, each field is sound, the constants are words, and what can't be written has no masks.
pub record RegisterIsSound (register : Register) : Type 0 where
  pub markers : are_distinct_names (markers_of register.fields) ≡ true
  pub fields : AllByRecursion (FieldIsSound register) register.fields
  pub reset : register.reset < 2 ^ bits_of register.word
  pub one : register.one < 2 ^ bits_of register.word
  pub zero : register.zero < 2 ^ bits_of register.word
  pub no_masks : register.writable ≡ false → (register.one ≡ 0) × (register.zero ≡ 0)

abbrev pub names_of : List NumberCall → List (List ℕ)
names_of calls = map (λ (call : NumberCall). call.name) calls

-- none of the names is one of the prelude
abbrev pub AreFree : Version → List (List ℕ) → Type 0
AreFree version names = list_all (is_free version) names ≡ true

-- An array has a member; names of calls are distinct, and none is one of the prelude.
pub record FieldIsNamed (version : Version) (field : Field) : Type 0 where
  pub some : has_members (field_count field) ≡ true
  pub free : is_free version field.name ≡ true
  pub tests : are_distinct_names (names_of field.tests) ≡ true
  pub free_tests : AreFree version (names_of field.tests)
  pub sets : are_distinct_names (names_of field.sets) ≡ true
  pub free_sets : AreFree version (names_of field.sets)

pub record RegisterIsNamed (version : Version) (register : Register) : Type 0 where
  pub names : are_distinct_names (map (λ (field : Field). field.name) register.fields) ≡ true
  pub fields : AllByRecursion (FieldIsNamed version) register.fields
