-- The methods of a field of the register table (this project's own rule, after the register API that svd2rust documents): which ones a field has by its width, its kind and its enumerated values, what each of them takes or gives, and what it does with the number that stands in the field.
use Rattle.std.specs.Prelude.{ℕ, Bool, true, false, ◌==◌, List, [], ◌∷◌, ◌++◌, codes, map, Option, Some, None}
use Rattle.frag_tree.specs.declared.event.Said.{Said}
use Rattle.frag_tree.specs.declared.event.Said.TheVariants.{Number, Truth}
use Rattle.frag_sem.specs.Surfaces.{ValueType, number, truth}
use Rattle.reg_table.specs.declared.row.Call.{Call}
use Rattle.reg_table.specs.declared.row.FieldRow.{FieldRow}
use Rattle.svd_model.specs.Checking.{width_of}
use Rattle.svd_values.specs.declared.schema_word.WriteKind.{WriteKind}
use Rattle.svd_values.specs.declared.schema_word.WriteKind.TheVariants as kind

-- a method that reads: its name, the type of what it gives, and what it gives of the number in the field
pub record ReadMethod : Type 0 where
  pub name : List ℕ
  pub gives : ValueType
  pub said : ℕ → Said

-- a method that writes: its name, the type of what it takes, if anything, and which number it puts into the field for what it takes
pub record WriteMethod : Type 0 where
  pub name : List ℕ
  pub takes : Option ValueType
  pub puts : ℕ → ℕ

-- the type of a field of several bits: the least of u8, u16, u32 and u64 that holds it
abbrev pub field_type : FieldRow → ValueType
field_type field = number (width_of field.width)

-- a field of one bit has other methods than one of more
abbrev pub is_bit : FieldRow → Bool
is_bit field = field.width == 1

abbrev pub call : List ℕ → ℕ → Call
call name value = record { name = name; value = value }

-- ---- reading

-- a method that tells whether the field holds the value
abbrev pub tests_for : Call → ReadMethod
tests_for call = record { name = call.name; gives = truth; said = λ held. Truth (held == call.value) }

-- a bit is tested for each of its two values
abbrev pub bit_tests : List Call
bit_tests = call (codes "bit_is_set") 1 ∷ call (codes "bit_is_clear") 0 ∷ []

-- `bit` gives the bit as a truth, `bits` the number; the others test, those of the enumerated values last
abbrev pub read_methods_by : Bool → FieldRow → List ReadMethod
read_methods_by true field = record { name = codes "bit"; gives = truth; said = λ held. Truth (held == 1) } ∷ map tests_for (bit_tests ++ field.is_calls)
read_methods_by false field = record { name = codes "bits"; gives = field_type field; said = λ held. Number held } ∷ map tests_for field.is_calls

unfoldable pub read_methods : FieldRow → List ReadMethod
read_methods field = read_methods_by (is_bit field) field

-- ---- writing

-- a method that writes the value, and takes nothing
abbrev pub writes : Call → WriteMethod
writes call = record { name = call.name; takes = None; puts = λ given. call.value }

-- A bit on which only a written one acts, or only a written zero, has one method, which writes that; one that any write clears or sets, or that keeps what is written, has two.
abbrev pub bit_writes : WriteKind → List Call
bit_writes kind.OneToClear = call (codes "clear_bit_by_one") 1 ∷ []
bit_writes kind.OneToSet = call (codes "set_bit") 1 ∷ []
bit_writes kind.OneToToggle = call (codes "toggle_bit") 1 ∷ []
bit_writes kind.ZeroToClear = call (codes "clear_bit") 0 ∷ []
bit_writes kind.ZeroToSet = call (codes "set_bit_by_zero") 0 ∷ []
bit_writes kind.ZeroToToggle = call (codes "toggle_bit") 0 ∷ []
bit_writes _ = call (codes "set_bit") 1 ∷ call (codes "clear_bit") 0 ∷ []

-- `bit` takes a truth, `bits` a number; the others write what they stand for, those of the enumerated values last
abbrev pub write_methods_by : Bool → FieldRow → List WriteMethod
write_methods_by true field = record { name = codes "bit"; takes = Some truth; puts = λ given. given } ∷ map writes (bit_writes field.kind ++ field.set_calls)
write_methods_by false field = record { name = codes "bits"; takes = Some (field_type field); puts = λ given. given } ∷ map writes field.set_calls

unfoldable pub write_methods : FieldRow → List WriteMethod
write_methods field = write_methods_by (is_bit field) field
