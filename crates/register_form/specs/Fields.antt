-- What a field of a register comes to in its module: the calls that read and write it, and those of its values (this project's own rules of emission, after svd2rust's register API).
use Rattle.std.specs.Prelude.{ℕ, ◌≤◌, Bool, true, false, ◌==◌, nat_le, List, [], ◌∷◌, ◌++◌, map, Option, Some, None}
use Rattle.pac_base.specs.declared.width.Width.{Width}
use Rattle.pac_base.specs.declared.width.Width.TheVariants.{W8, W16, W32, W64}
use Rattle.frag_tree.specs.declared.register.NumberCall.{NumberCall}
use Rattle.frag_tree.specs.declared.register.ReadForm.{ReadForm}
use Rattle.frag_tree.specs.declared.register.ReadForm.TheVariants as read
use Rattle.frag_tree.specs.declared.register.Reader.{Reader}
use Rattle.frag_tree.specs.declared.register.Spot.{Spot}
use Rattle.frag_tree.specs.declared.register.Spot.TheVariants as spot
use Rattle.frag_tree.specs.declared.register.TruthCall.{TruthCall}
use Rattle.frag_tree.specs.declared.register.Values.{Values}
use Rattle.frag_tree.specs.declared.register.Values.TheVariants as values
use Rattle.frag_tree.specs.declared.register.WriteForm.{WriteForm}
use Rattle.frag_tree.specs.declared.register.WriteForm.TheVariants as write
use Rattle.frag_tree.specs.declared.register.Writer.{Writer}
use Rattle.frag_sem.specs.PreludeWords.{ones}
use Rattle.register_form.specs.declared.register.Field.{Field}
use Rattle.register_form.specs.declared.register.FieldArray.{FieldArray}

-- ---- places and types

abbrev pub is_bit : Field → Bool
is_bit field = field.bits == 1

abbrev pub width_by : Bool → Bool → Bool → Width
width_by true _ _ = W8
width_by false true _ = W16
width_by false false true = W32
width_by false false false = W64

-- the least of the four types that holds so many bits
abbrev pub least_width : ℕ → Width
least_width bits = width_by (nat_le bits 8) (nat_le bits 16) (nat_le bits 32)

-- a field lies at its offset, the members of an array by `at_bit`
abbrev pub spot_of : ℕ → Option FieldArray → Spot
spot_of offset None = spot.Fixed offset
spot_of offset (Some array) = spot.Indexed offset array.step array.count

abbrev pub field_spot : Field → Spot
field_spot field = spot_of field.offset field.array

-- ---- readers and writers

-- one bit is a `BitReader`, more are a `FieldReader` of the least type
abbrev pub read_form : Bool → Field → ReadForm
read_form true field = read.Bit (field_spot field) 1
read_form false field = read.Field (least_width field.bits) (field_spot field) (ones field.bits)

abbrev pub reader_of : Field → Reader
reader_of field = record { name = field.name; marker = field.marker; form = read_form (is_bit field) field }

-- one bit has a writer of its kind, more are a `FieldWriter` whatever their kind
abbrev pub write_form : Bool → Field → WriteForm
write_form true field = write.Bit field.kind (field_spot field)
write_form false field = write.Field (least_width field.bits) field.bits (field_spot field)

abbrev pub writer_of : Field → Writer
writer_of field = record { name = field.name; marker = field.marker; form = write_form (is_bit field) field }

-- ---- values

abbrev pub truth_call_of : NumberCall → TruthCall
truth_call_of call = record { name = call.name; value = call.value == 1 }

abbrev pub read_values : Bool → Field → Values
read_values true field = values.BitReading field.marker (map truth_call_of field.tests)
read_values false field = values.FieldReading field.marker (least_width field.bits) field.tests

abbrev pub write_values : Bool → Field → Values
write_values true field = values.BitWriting field.kind field.marker (map truth_call_of field.sets)
write_values false field = values.FieldWriting field.marker (least_width field.bits) field.bits field.sets

-- a block of calls stands where the direction is there, and a call
abbrev pub block_if : Bool → List NumberCall → Values → List Values
block_if there [] block = []
block_if true (call ∷ calls) block = block ∷ []
block_if false (call ∷ calls) block = []

-- the calls that read a field's values, and those that write them
abbrev pub tests_of : Field → List Values
tests_of field = block_if field.readable field.tests (read_values (is_bit field) field)

abbrev pub sets_of : Field → List Values
sets_of field = block_if field.writable field.sets (write_values (is_bit field) field)

-- the calls of a field's values: those that read, and then those that write
abbrev pub values_of : Field → List Values
values_of field = tests_of field ++ sets_of field

-- ---- what a field keeps

-- it has 1 to 64 bits
pub record HasBits (field : Field) : Type 0 where
  pub some : 1 ≤ field.bits
  pub most : field.bits ≤ 64
