-- Worked rows: the modules of small registers, by computation.
use Rattle.std.specs.Prelude.{◌≡◌, ℕ, true, false, Some, None, List, [], ◌∷◌, codes, refl}
use Rattle.pac_base.specs.declared.width.Width.TheVariants.{W8, W32, W64}
use Rattle.frag_tree.specs.declared.register.BitKind.TheVariants as kind
use Rattle.frag_tree.specs.declared.register.NumberCall.{NumberCall}
use Rattle.frag_tree.specs.declared.register.ReadForm.TheVariants as read
use Rattle.frag_tree.specs.declared.register.Spot.TheVariants.{Fixed, Indexed}
use Rattle.frag_tree.specs.declared.register.Values.TheVariants as values
use Rattle.frag_tree.specs.declared.register.WriteForm.TheVariants as write
use Rattle.frag_tree.specs.Worked.{status_register}
use Rattle.register_form.specs.declared.register.Field.{Field}
use Rattle.register_form.specs.declared.register.Register.{Register}
use Rattle.register_form.specs.Fields.{reader_of, values_of, writer_of}
use Rattle.register_form.specs.Forms.{form_of, has_arrays}

-- a bit that can be read and written
abbrev pub bit_at : List ℕ → List ℕ → ℕ → Field
bit_at name marker offset = record {
  name = name;
  marker = marker;
  offset = offset;
  bits = 1;
  array = None;
  readable = true;
  writable = true;
  kind = kind.Plain;
  tests = [];
  sets = [];
}

abbrev pub call : List ℕ → ℕ → NumberCall
call name value = record { name = name; value = value }

-- a register of 32 bits with these fields
abbrev pub register_of : List ℕ → List Field → Register
register_of name fields =
    record { name = name; word = W32; readable = true; writable = true; reset = 0; one = 0; zero = 0; fields = fields }

-- SR with the fields F0 and F1, of which a written one clears the first: the register of the worked text
pub one_to_clear :
    form_of (record (register_of (codes "sr") (
    record (bit_at (codes "f0") (codes "F0_F") 0) { kind = kind.OneToClear } ∷
    bit_at (codes "f1") (codes "F1_F") 1 ∷ [])) { reset = 3; one = 1 })
    ≡ status_register
one_to_clear = refl

-- a field of three bits with a call for the value 3
abbrev pub mode : Field
mode = record (bit_at (codes "mode") (codes "MODE_F") 4) { bits = 3; tests = call (codes "is_fast") 3 ∷ []; sets = call (codes "fast") 3 ∷ [] }

pub mode_calls :
    (reader_of mode ≡ record { name = codes "mode"; marker = codes "MODE_F"; form = read.Field W8 (Fixed 4) 7 })
    × (writer_of mode ≡ record { name = codes "mode"; marker = codes "MODE_F"; form = write.Field W8 3 (Fixed 4) })
    × (values_of mode ≡ values.FieldReading (codes "MODE_F") W8 (call (codes "is_fast") 3 ∷ []) ∷ values.FieldWriting (codes "MODE_F") W8 3 (call (codes "fast") 3 ∷ []) ∷ [])
mode_calls = (refl, refl, refl)

-- a bit with a call for the value 1 that reads, and one for 0 that writes
pub bit_values :
    values_of (record (bit_at (codes "cen") (codes "CEN_F") 0) { kind = kind.OneToSet; tests = call (codes "is_on") 1 ∷ []; sets = call (codes "off") 0 ∷ [] })
    ≡ values.BitReading (codes "CEN_F") (record { name = codes "is_on"; value = true } ∷ []) ∷
    values.BitWriting kind.OneToSet (codes "CEN_F") (record { name = codes "off"; value = false } ∷ []) ∷ []
bit_values = refl

-- the whole of a word of 64 bits
pub whole_word :
    reader_of (record (bit_at (codes "v") (codes "V_F") 0) { bits = 64 })
    ≡ record { name = codes "v"; marker = codes "V_F"; form = read.Field W64 (Fixed 0) 0xffffffffffffffff }
whole_word = refl

-- eight bits, four bits apart, and four fields of two bits, eight bits apart: each has one reader and one writer, by `at_bit`
pub arrays_of_fields :
    (reader_of (record (bit_at (codes "ch") (codes "CH_F") 0) { array = Some (record { count = 8; step = 4 }) }) ≡ record { name = codes "ch"; marker = codes "CH_F"; form = read.Bit (Indexed 0 4 8) 1 })
    × (writer_of (record (bit_at (codes "lv") (codes "LV_F") 0) { bits = 2; array = Some (record { count = 4; step = 8 }) }) ≡ record { name = codes "lv"; marker = codes "LV_F"; form = write.Field W8 2 (Indexed 0 8 4) })
arrays_of_fields = (refl, refl)

-- A register that can't be read has no readers, and no blocks of values that read, whatever its fields state.
pub write_only :
    form_of (record (register_of (codes "r") (record mode { readable = false } ∷ [])) { readable = false })
    ≡ record {
      name = codes "r";
      word = W32;
      readable = false;
      writable = Some (record { zero_to_modify = record { width = W32; value = 0 }; one_to_modify = record { width = W32; value = 0 } });
      reset = record { width = W32; value = 0 };
      markers = codes "MODE_F" ∷ [];
      readers = None;
      writers = Some (record { name = codes "mode"; marker = codes "MODE_F"; form = write.Field W8 3 (Fixed 4) } ∷ []);
      values = values.FieldWriting (codes "MODE_F") W8 3 (call (codes "fast") 3 ∷ []) ∷ [];
    }
write_only = refl

-- A field with neither direction has its marker and nothing else.
pub no_direction :
    form_of (record (register_of (codes "r") (record mode { readable = false; writable = false } ∷ [])) { writable = false })
    ≡ record {
      name = codes "r";
      word = W32;
      readable = true;
      writable = None;
      reset = record { width = W32; value = 0 };
      markers = codes "MODE_F" ∷ [];
      readers = Some [];
      writers = None;
      values = [];
    }
no_direction = refl

pub indexes_ask_for_version_two : (has_arrays (register_of (codes "r") (mode ∷ [])) ≡ false) × (has_arrays (register_of (codes "r") (mode ∷ record mode { array = Some (record { count = 2; step = 8 }) } ∷ [])) ≡ true)
indexes_ask_for_version_two = (refl, refl)
