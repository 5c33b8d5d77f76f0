-- The crates and scripts of the worked rows.
use Rattle.std.specs.Prelude.{ℕ, true, false, Some, None, List, [], ◌∷◌, codes}
use Rattle.pac_base.specs.declared.width.Width.{Width}
use Rattle.pac_base.specs.declared.width.Width.TheVariants.{W8, W16, W32}
use Rattle.frag_tree.specs.declared.access.Access.{Access}
use Rattle.frag_tree.specs.declared.access.Body.TheVariants as body
use Rattle.frag_tree.specs.declared.block.Element.TheVariants as element
use Rattle.frag_tree.specs.declared.block.FieldType.TheVariants as holds
use Rattle.frag_tree.specs.declared.block.StructField.{StructField}
use Rattle.frag_tree.specs.declared.register.BitKind.TheVariants as kind
use Rattle.frag_tree.specs.declared.register.ReadForm.TheVariants as read
use Rattle.frag_tree.specs.declared.register.RegisterModule.{RegisterModule}
use Rattle.frag_tree.specs.declared.krate.Version.TheVariants.{One, Two}
use Rattle.frag_tree.specs.declared.register.Spot.TheVariants as spot
use Rattle.frag_tree.specs.declared.register.Values.TheVariants as values
use Rattle.frag_tree.specs.declared.register.WriteForm.TheVariants as write
use Rattle.frag_tree.specs.declared.script.Script.{Script}
use Rattle.frag_tree.specs.declared.statement.Atom.TheVariants as atom
use Rattle.frag_tree.specs.declared.statement.Call.{Call}
use Rattle.frag_tree.specs.declared.statement.Link.{Link}
use Rattle.frag_tree.specs.declared.statement.Link.TheVariants as link
use Rattle.frag_tree.specs.declared.statement.Place.{Place}
use Rattle.frag_tree.specs.declared.statement.Source.TheVariants as source
use Rattle.frag_tree.specs.declared.statement.Statement.{Statement}
use Rattle.frag_tree.specs.declared.statement.Statement.TheVariants as statement
use Rattle.frag_tree.specs.Trees.{BlockHead, CrateTree, register, block, ended}
use Rattle.frag_tree.specs.Worked.{constant, example, status_register}

-- ---- the worked crate, with other parts

-- a crate with the one slot T, whose block has these fields and accessors and this register module
abbrev pub crate_of : List StructField → List Access → RegisterModule → CrateTree
crate_of fields accessors unit = record {
  version = One;
  slots = record { name = codes "T"; block = codes "t"; address = 0x40000000 } ∷ [];
  blocks = record { head = record { name = codes "t"; fields = fields; accessors = accessors }; inside = register unit ended } ∷ [];
}

abbrev pub status_field : StructField
status_field = record { name = codes "sr"; holds = holds.One (element.Register (codes "sr")) }

abbrev pub status_access : Access
status_access = record { name = codes "sr"; is_indexed = false; element = element.Register (codes "sr"); body = body.Field (codes "sr") }

-- with a gap of four bytes in front
abbrev pub with_gap : CrateTree
with_gap = crate_of (record { name = codes "_reserved0"; holds = holds.Gap 4 } ∷ status_field ∷ []) (status_access ∷ []) status_register

-- with a field that is cleared by writing 0, and a reset word of 0
abbrev pub cleared_by_zero : CrateTree
cleared_by_zero = crate_of (status_field ∷ []) (status_access ∷ []) (record status_register {
  writable = Some (record { zero_to_modify = constant 0x10; one_to_modify = constant 0 });
  reset = constant 0;
  writers = Some (record { name = codes "f4"; marker = codes "F0_F"; form = write.Bit kind.ZeroToClear (spot.Fixed 4) } ∷ []);
})

-- with four of them, 16 bytes apart
abbrev pub channels : CrateTree
channels = crate_of [] (record { name = codes "ch"; is_indexed = true; element = element.Register (codes "sr"); body = body.AtIndex 0 16 4 } ∷ []) status_register

-- with the writer of `f1` at bit 32
abbrev pub bit_32 : CrateTree
bit_32 = crate_of (status_field ∷ []) (status_access ∷ []) (record status_register {
  writers = Some (record { name = codes "f1"; marker = codes "F1_F"; form = write.Bit kind.Plain (spot.Fixed 32) } ∷ []);
})

-- A block of a register of one byte, and then of two inner blocks, each with a register of four bytes and one of two. An inner block takes 8 bytes and stands at multiples of 4.
abbrev pub plain_register : List ℕ → Width → RegisterModule
plain_register name width = record {
  name = name;
  word = width;
  readable = true;
  writable = None;
  reset = record { width = width; value = 0 };
  markers = [];
  readers = Some [];
  writers = None;
  values = [];
}

abbrev pub one_field : List ℕ → StructField
one_field name = record { name = name; holds = holds.One (element.Register name) }

abbrev pub one_access : List ℕ → Access
one_access name = record { name = name; is_indexed = false; element = element.Register name; body = body.Field name }

abbrev pub inner_block : BlockHead
inner_block = record { name = codes "cl"; fields = one_field (codes "x") ∷ one_field (codes "y") ∷ []; accessors = one_access (codes "x") ∷ one_access (codes "y") ∷ [] }

abbrev pub nested : CrateTree
nested = record {
  version = One;
  slots = record { name = codes "T"; block = codes "t"; address = 0x40000000 } ∷ [];
  blocks = record {
    head = record {
      name = codes "t";
      fields = one_field (codes "a") ∷ record { name = codes "cl"; holds = holds.Array (element.Block (codes "cl")) 2 } ∷ [];
      accessors = one_access (codes "a") ∷ record { name = codes "cl"; is_indexed = true; element = element.Block (codes "cl"); body = body.Member (codes "cl") } ∷ [];
    };
    inside = register (plain_register (codes "a") W8) (block inner_block (register (plain_register (codes "x") W32) (register (plain_register (codes "y") W16) ended)) ended);
  } ∷ [];
}

-- a register with a field of three bits at bit 4, and a value of it
abbrev pub mode_register : RegisterModule
mode_register = record {
  name = codes "sr";
  word = W32;
  readable = true;
  writable = Some (record { zero_to_modify = constant 0; one_to_modify = constant 0 });
  reset = constant 0xff;
  markers = codes "MODE_F" ∷ [];
  readers = Some (record { name = codes "mode"; marker = codes "MODE_F"; form = read.Field W8 (spot.Fixed 4) 7 } ∷ []);
  writers = Some (record { name = codes "mode"; marker = codes "MODE_F"; form = write.Field W8 3 (spot.Fixed 4) } ∷ []);
  values = values.FieldReading (codes "MODE_F") W8 (record { name = codes "is_fast"; value = 3 } ∷ []) ∷ values.FieldWriting (codes "MODE_F") W8 3 (record { name = codes "fast"; value = 3 } ∷ []) ∷ [];
}

abbrev pub with_mode : CrateTree
with_mode = crate_of (status_field ∷ []) (status_access ∷ []) mode_register

-- ---- of version 2

-- the worked crate with the version line put first
abbrev pub second_example : CrateTree
second_example = record example { version = Two }

-- with `f1` as so many bits, four bits apart, each with a reader and a writer
abbrev pub bit_array : ℕ → RegisterModule
bit_array count = record status_register {
  readers = Some (record { name = codes "f1"; marker = codes "F1_F"; form = read.Bit (spot.Indexed 1 4 count) 1 } ∷ []);
  writers = Some (
      record { name = codes "f0"; marker = codes "F0_F"; form = write.Bit kind.OneToClear (spot.Fixed 0) } ∷
      record { name = codes "f1"; marker = codes "F1_F"; form = write.Bit kind.Plain (spot.Indexed 1 4 count) } ∷ []);
}

abbrev pub with_bits : ℕ → CrateTree
with_bits count = record (crate_of (status_field ∷ []) (status_access ∷ []) (bit_array count)) { version = Two }

-- with an accessor `at_bit`
abbrev pub named_at_bit : CrateTree
named_at_bit = crate_of (status_field ∷ []) (record status_access { name = codes "at_bit" } ∷ []) status_register

-- ---- scripts

-- `NAME()`, `NAME(INDEX)`
abbrev pub plain_call : List ℕ → Call
plain_call name = record { name = name; index = None }

abbrev pub call_at : List ℕ → ℕ → Call
call_at name index = record { name = name; index = Some index }

abbrev pub place : List ℕ → List ℕ → Place
place slot accessor = record { slot = slot; steps = record { name = accessor; index = None } ∷ [] }

abbrev pub member : List ℕ → List ℕ → ℕ → Place
member slot accessor index = record { slot = slot; steps = record { name = accessor; index = Some index } ∷ [] }

-- `T.sr()`
abbrev pub status : Place
status = place (codes "T") (codes "sr")

-- `w.FIELD().METHOD()`
abbrev pub calls : List ℕ → List ℕ → List Link
calls field method = link.Field (plain_call field) method None ∷ []

-- one statement, on the first line
abbrev pub script : Statement → Script
script said = record { lines = record { line = 1; statement = said } ∷ [] }

-- `let s = T.sr().read();`, `say(s.mode().bits());`, `say(!s.mode().is_fast());`, `say(s.bits() as u8);`
abbrev pub said_script : Script
said_script = record {
  lines =
      record { line = 1; statement = statement.Let (codes "s") status } ∷
      record { line = 2; statement = statement.Say (record { negations = 0; atom = atom.Source (source.Field (codes "s") (plain_call (codes "mode")) (codes "bits")) }) } ∷
      record { line = 3; statement = statement.Say (record { negations = 1; atom = atom.Source (source.Field (codes "s") (plain_call (codes "mode")) (codes "is_fast")) }) } ∷
      record { line = 4; statement = statement.Say (record { negations = 0; atom = atom.Cast (source.Bits (codes "s")) W8 }) } ∷ [];
}

-- `w.FIELD(INDEX).METHOD()`
abbrev pub calls_at : List ℕ → ℕ → List ℕ → List Link
calls_at field index method = link.Field (call_at field index) method None ∷ []

-- `T.sr().modify(|r, w| w.f1().bit(r.f0().bit()));`
abbrev pub copies_bit : Script
copies_bit = script (statement.Modify status true (
    link.Field (plain_call (codes "f1")) (codes "bit") (Some (record { negations = 0; atom = atom.Source (source.Field (codes "r") (plain_call (codes "f0")) (codes "bit")) })) ∷ []))
