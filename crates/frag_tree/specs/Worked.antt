-- A worked text: the printed form of a crate with one register that has two fields, line by line.
use Rattle.std.specs.Prelude.{◌≡◌, ℕ, true, false, Some, List, [], ◌∷◌, ◌++◌, codes, map, refl}
use Rattle.std.specs.List.{flat_map}
use Rattle.std.specs.Fmt.{digits}
use Rattle.frag_tree.specs.declared.access.Body.TheVariants as body
use Rattle.frag_tree.specs.declared.block.Element.TheVariants as element
use Rattle.frag_tree.specs.declared.block.FieldType.TheVariants as holds
use Rattle.frag_tree.specs.declared.register.BitKind.TheVariants as kind
use Rattle.frag_tree.specs.declared.register.Constant.{Constant}
use Rattle.frag_tree.specs.declared.register.ReadForm.TheVariants as read
use Rattle.frag_tree.specs.declared.register.RegisterModule.{RegisterModule}
use Rattle.frag_tree.specs.declared.krate.Version.TheVariants.{One, Two}
use Rattle.frag_tree.specs.declared.register.Spot.TheVariants.{Fixed, Indexed}
use Rattle.frag_tree.specs.declared.register.Values.TheVariants as values
use Rattle.frag_tree.specs.declared.register.WriteForm.TheVariants as write
use Rattle.frag_tree.specs.Blocks.{modules_lines, opening_lines, field_line, access_line}
use Rattle.frag_tree.specs.Crates.{printed, crate_lines, slot_line}
use Rattle.frag_tree.specs.Registers.{register_lines, reader_line, writer_line, values_lines}
use Rattle.frag_tree.specs.Trees.{BlockTree, CrateTree, register, ended}
use Rattle.frag_words.specs.Lines.{line_text, lines_text, line_words}
use Rattle.frag_words.specs.Words.{words_in, words_behind}
use Rattle.pac_base.specs.declared.width.Width.TheVariants.{W8, W32}

abbrev pub constant : ℕ → Constant
constant value = record { width = W32; value = value }

abbrev pub status_register : RegisterModule
status_register = record {
  name = codes "sr";
  word = W32;
  readable = true;
  writable = Some (record { zero_to_modify = constant 0; one_to_modify = constant 1 });
  reset = constant 3;
  markers = codes "F0_F" ∷ codes "F1_F" ∷ [];
  readers = Some (
      record { name = codes "f0"; marker = codes "F0_F"; form = read.Bit (Fixed 0) 1 } ∷
      record { name = codes "f1"; marker = codes "F1_F"; form = read.Bit (Fixed 1) 1 } ∷ []);
  writers = Some (
      record { name = codes "f0"; marker = codes "F0_F"; form = write.Bit kind.OneToClear (Fixed 0) } ∷
      record { name = codes "f1"; marker = codes "F1_F"; form = write.Bit kind.Plain (Fixed 1) } ∷ []);
  values = [];
}

abbrev pub timer_block : BlockTree
timer_block = record {
  head = record {
    name = codes "t";
    fields = record { name = codes "sr"; holds = holds.One (element.Register (codes "sr")) } ∷ [];
    accessors = record { name = codes "sr"; is_indexed = false; element = element.Register (codes "sr"); body = body.Field (codes "sr") } ∷ [];
  };
  inside = register status_register ended;
}

abbrev pub example : CrateTree
example = record {
  version = One;
  slots = record { name = codes "T"; block = codes "t"; address = 0x40000000 } ∷ [];
  blocks = timer_block ∷ [];
}

abbrev pub example_text : List ℕ
example_text =
    codes "use crate::generic::*;\n" ++
    (codes "\n" ++
    (codes "pub struct Peripherals {\n" ++
    (codes "    pub T: Periph<t::RegisterBlock, 0x40000000>,\n" ++
    (codes "}\n" ++
    (codes "\n" ++
    (codes "pub mod t {\n" ++
    (codes "    use crate::generic::*;\n" ++
    (codes "    #[repr(C)]\n" ++
    (codes "    pub struct RegisterBlock {\n" ++
    (codes "        sr: Reg<sr::Spec>,\n" ++
    (codes "    }\n" ++
    (codes "    impl RegisterBlock {\n" ++
    (codes "        pub fn sr(&self) -> &Reg<sr::Spec> { &self.sr }\n" ++
    (codes "    }\n" ++
    (codes "    pub mod sr {\n" ++
    (codes "        use crate::generic::*;\n" ++
    (codes "        pub struct Spec;\n" ++
    (codes "        impl RegisterSpec for Spec { type Ux = u32; }\n" ++
    (codes "        impl Readable for Spec {}\n" ++
    (codes "        impl Writable for Spec { const ZERO_TO_MODIFY: u32 = 0x0; const ONE_TO_MODIFY: u32 = 0x1; }\n" ++
    (codes "        impl Resettable for Spec { const RESET_VALUE: u32 = 0x3; }\n" ++
    (codes "        pub struct F0_F;\n" ++
    (codes "        pub struct F1_F;\n" ++
    (codes "        impl R<Spec> {\n" ++
    (codes "            pub fn f0(&self) -> BitReader<F0_F> { BitReader::new(((self.bits >> 0) & 0x1) != 0x0) }\n" ++
    (codes "            pub fn f1(&self) -> BitReader<F1_F> { BitReader::new(((self.bits >> 1) & 0x1) != 0x0) }\n" ++
    (codes "        }\n" ++
    (codes "        impl W<Spec> {\n" ++
    (codes "            pub fn f0(&mut self) -> BitWriter1C<'_, Spec, F0_F> { BitWriter1C::new(self, 0) }\n" ++
    (codes "            pub fn f1(&mut self) -> BitWriter<'_, Spec, F1_F> { BitWriter::new(self, 1) }\n" ++
    (codes "        }\n" ++
    (codes "    }\n" ++
    (codes "}\n")))))))))))))))))))))))))))))))))

pub printed-example : printed example ≡ example_text
unfolding crate_lines register_lines modules_lines opening_lines line_text digits
printed-example = refl

-- The other templates of a block: a gap, an array of registers, a block, an array of blocks.
pub printed-fields :
    lines_text (map (field_line 0) (
    record { name = codes "_reserved0"; holds = holds.Gap 8 } ∷
    record { name = codes "ch"; holds = holds.Array (element.Register (codes "ch")) 4 } ∷
    record { name = codes "cl"; holds = holds.One (element.Block (codes "cl")) } ∷
    record { name = codes "cm"; holds = holds.Array (element.Block (codes "cm")) 2 } ∷ []))
    ≡ codes "_reserved0: [u8; 8],\n" ++ (codes "ch: [Reg<ch::Spec>; 4],\n" ++ (codes "cl: cl::RegisterBlock,\n" ++ codes "cm: [cm::RegisterBlock; 2],\n"))
unfolding line_text digits
printed-fields = refl

-- Accessors of a member, at an offset, and at an offset and an index.
pub printed-accessors :
    lines_text (map (access_line 0) (
    record { name = codes "ch"; is_indexed = true; element = element.Register (codes "ch"); body = body.Member (codes "ch") } ∷
    record { name = codes "x"; is_indexed = false; element = element.Register (codes "x"); body = body.At 0x24 } ∷
    record { name = codes "y"; is_indexed = true; element = element.Register (codes "y"); body = body.AtIndex 0x24 16 4 } ∷ []))
    ≡ codes "pub fn ch(&self, n: usize) -> &Reg<ch::Spec> { &self.ch[n] }\n" ++ (codes "pub fn x(&self) -> &Reg<x::Spec> { at(self, 0x24) }\n" ++ codes "pub fn y(&self, n: usize) -> &Reg<y::Spec> { at_index(self, 0x24, 16, 4, n) }\n")
unfolding line_text digits
printed-accessors = refl

-- The calls of a field of three bits.
pub printed-mode :
    lines_text (
    reader_line 0 (record { name = codes "mode"; marker = codes "MODE_F"; form = read.Field W8 (Fixed 4) 7 }) ∷
    writer_line 0 (record { name = codes "mode"; marker = codes "MODE_F"; form = write.Field W8 3 (Fixed 4) }) ∷ [])
    ≡ codes "pub fn mode(&self) -> FieldReader<MODE_F, u8> { FieldReader::new(((self.bits >> 4) & 0x7) as u8) }\n" ++ codes "pub fn mode(&mut self) -> FieldWriter<'_, Spec, MODE_F, u8, 3> { FieldWriter::new(self, 4) }\n"
unfolding line_text digits
printed-mode = refl

-- The calls of indexed fields: eight of one bit, and four of two bits.
pub printed-indexed :
    lines_text (
    reader_line 0 (record { name = codes "ch"; marker = codes "CH_F"; form = read.Bit (Indexed 0 4 8) 1 }) ∷
    reader_line 0 (record { name = codes "lv"; marker = codes "LV_F"; form = read.Field W8 (Indexed 0 8 4) 3 }) ∷
    writer_line 0 (record { name = codes "ch"; marker = codes "CH_F"; form = write.Bit kind.Plain (Indexed 0 4 8) }) ∷
    writer_line 0 (record { name = codes "lv"; marker = codes "LV_F"; form = write.Field W8 2 (Indexed 0 8 4) }) ∷ [])
    ≡ codes "pub fn ch(&self, n: usize) -> BitReader<CH_F> { BitReader::new(((self.bits >> at_bit(0, 4, 8, n)) & 0x1) != 0x0) }\n" ++
    (codes "pub fn lv(&self, n: usize) -> FieldReader<LV_F, u8> { FieldReader::new(((self.bits >> at_bit(0, 8, 4, n)) & 0x3) as u8) }\n" ++
    (codes "pub fn ch(&mut self, n: usize) -> BitWriter<'_, Spec, CH_F> { BitWriter::new(self, at_bit(0, 4, 8, n)) }\n" ++
    codes "pub fn lv(&mut self, n: usize) -> FieldWriter<'_, Spec, LV_F, u8, 2> { FieldWriter::new(self, at_bit(0, 8, 4, n)) }\n"))
unfolding line_text digits
printed-indexed = refl

-- The blocks of values, and one without a call.
pub printed-values :
    lines_text (flat_map (values_lines 0) (
    values.BitReading (codes "CEN_F") (record { name = codes "is_on"; value = true } ∷ []) ∷
    values.FieldReading (codes "MODE_F") W8 (record { name = codes "is_fast"; value = 3 } ∷ []) ∷
    values.BitWriting kind.Plain (codes "CEN_F") (record { name = codes "on"; value = true } ∷ []) ∷
    values.FieldWriting (codes "MODE_F") W8 3 (record { name = codes "fast"; value = 3 } ∷ []) ∷
    values.BitReading (codes "CEN_F") [] ∷ []))
    ≡ codes "impl BitReader<CEN_F> {\n    pub fn is_on(&self) -> bool { self.bit() == true }\n}\n" ++
    (codes "impl FieldReader<MODE_F, u8> {\n    pub fn is_fast(&self) -> bool { self.bits() == 0x3 }\n}\n" ++
    (codes "impl<'a> BitWriter<'a, Spec, CEN_F> {\n    pub fn on(self) -> &'a mut W<Spec> { self.bit(true) }\n}\n" ++
    (codes "impl<'a> FieldWriter<'a, Spec, MODE_F, u8, 3> {\n    pub fn fast(self) -> &'a mut W<Spec> { self.bits(0x3) }\n}\n" ++
    codes "impl BitReader<CEN_F> {\n}\n")))
unfolding line_text digits
printed-values = refl

-- A crate without slots.
pub printed-nothing : printed (record { version = One; slots = []; blocks = [] }) ≡ codes "use crate::generic::*;\n\npub struct Peripherals {\n}\n"
unfolding crate_lines line_text
printed-nothing = refl

-- A crate of version 2 without slots.
pub printed-version : printed (record { version = Two; slots = []; blocks = [] }) ≡ codes "pub const CRATE_TEXT: u32 = 0x2;\nuse crate::generic::*;\n\npub struct Peripherals {\n}\n"
unfolding crate_lines line_text
printed-version = refl

-- A text with blanks and a comment has the words of the printed line.
pub words-example : words_in (codes "pub\tT :Periph // >>\r\n  < t::RegisterBlock,0x40000000> ,//") ≡ line_words (slot_line 1 (record { name = codes "T"; block = codes "t"; address = 0x40000000 }))
unfolding words_behind digits
words-example = refl
