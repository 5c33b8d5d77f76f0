-- The printed form of register modules (this project's own templates, after what svd2rust prints).
use Rattle.std.specs.Prelude.{ℕ, ◌+◌, Bool, true, false, Option, Some, None, List, [], ◌∷◌, ◌++◌, codes, map}
use Rattle.std.specs.List.{flat_map}
use Rattle.frag_words.specs.Lines.{Piece, Line, word, line, fixed, braced}
use Rattle.frag_words.specs.Words.{Word}
use Rattle.frag_tree.specs.declared.phrase.Phrase.{Phrase}
use Rattle.frag_tree.specs.Phrases.{text_of, says, receiver, receiver_mut}
use Rattle.frag_tree.specs.Trees.{is_indexed, spot_read, spot_written}
use Rattle.frag_tree.specs.declared.phrase.Phrase.TheVariants as phrase
use Rattle.frag_tree.specs.declared.register.BitKind.{BitKind}
use Rattle.frag_tree.specs.declared.register.BitKind.TheVariants as kind
use Rattle.frag_tree.specs.declared.register.Constant.{Constant}
use Rattle.frag_tree.specs.declared.register.NumberCall.{NumberCall}
use Rattle.frag_tree.specs.declared.register.ReadForm.{ReadForm}
use Rattle.frag_tree.specs.declared.register.ReadForm.TheVariants as read
use Rattle.frag_tree.specs.declared.register.Reader.{Reader}
use Rattle.frag_tree.specs.declared.register.RegisterModule.{RegisterModule}
use Rattle.frag_tree.specs.declared.register.Spot.{Spot}
use Rattle.frag_tree.specs.declared.register.Spot.TheVariants.{Fixed, Indexed}
use Rattle.frag_tree.specs.declared.register.TruthCall.{TruthCall}
use Rattle.frag_tree.specs.declared.register.Values.{Values}
use Rattle.frag_tree.specs.declared.register.Values.TheVariants as values
use Rattle.frag_tree.specs.declared.register.Writable.{Writable}
use Rattle.frag_tree.specs.declared.register.WriteForm.{WriteForm}
use Rattle.frag_tree.specs.declared.register.WriteForm.TheVariants as write
use Rattle.frag_tree.specs.declared.register.Writer.{Writer}
use Rattle.frag_tree.specs.Numerals.{hexadecimal, decimal, width, truth}

-- ---- constants

-- `NAME: TYPE = VALUE; `, where NAME is part of the text
abbrev pub constant_pieces : Phrase → Constant → List Piece
constant_pieces name constant = says name ∷ width constant.width ∷ says phrase.Equals ∷ hexadecimal constant.value ∷ says phrase.Semicolon ∷ []

-- `impl RegisterSpec for Spec { type Ux = TYPE; }`
abbrev pub spec_line : ℕ → RegisterModule → Line
spec_line depth unit = line depth (says phrase.OpensSpec ∷ width unit.word ∷ says phrase.ClosesSpec ∷ [])

abbrev pub readable_lines : ℕ → Bool → List Line
readable_lines depth true = fixed depth (text_of phrase.ReadableImpl) ∷ []
readable_lines depth false = []

-- `impl Writable for Spec { const ZERO_TO_MODIFY: TYPE = VALUE; const ONE_TO_MODIFY: TYPE = VALUE; }`
abbrev pub writable_line : ℕ → Writable → Line
writable_line depth masks =
    line depth (says phrase.WritableImpl ∷ (constant_pieces phrase.ZeroToModify masks.zero_to_modify ++ (constant_pieces phrase.OneToModify masks.one_to_modify ++ says phrase.Closer ∷ [])))

abbrev pub writable_lines : ℕ → Option Writable → List Line
writable_lines depth None = []
writable_lines depth (Some masks) = writable_line depth masks ∷ []

-- `impl Resettable for Spec { const RESET_VALUE: TYPE = VALUE; }`
abbrev pub reset_line : ℕ → Constant → Line
reset_line depth constant =
    line depth (says phrase.ResettableImpl ∷ (constant_pieces phrase.ResetValue constant ++ says phrase.Closer ∷ []))

-- `pub struct MARKER;`
abbrev pub marker_line : ℕ → List ℕ → Line
marker_line depth marker = line depth (says phrase.PubStruct ∷ word marker ∷ says phrase.ClosesMarker ∷ [])

-- ---- fields

-- `PLACE`, `at_bit(OFFSET, STEP, COUNT, n)`
abbrev pub spot_pieces : Spot → List Piece
spot_pieces (Fixed place) = decimal place ∷ []
spot_pieces (Indexed offset step count) =
    says phrase.OpensAtBit ∷ decimal offset ∷ says phrase.ThenNext ∷ decimal step ∷ says phrase.ThenNext ∷ decimal count ∷ says phrase.ClosesAtBit ∷ []

-- `BitReader<MARKER> { BitReader::new(((self.bits >> SPOT) & MASK) != 0x0) }`
-- `FieldReader<MARKER, TYPE> { FieldReader::new(((self.bits >> SPOT) & MASK) as TYPE) }`
abbrev pub read_pieces : List ℕ → ReadForm → List Piece
read_pieces marker (read.Bit spot mask) =
    says phrase.OfBitReader ∷ word marker ∷ says phrase.NewBitReader ∷ (spot_pieces spot ++ says phrase.ThenMask ∷ hexadecimal mask ∷ says phrase.ClosesBitReader ∷ [])
read_pieces marker (read.Field bits spot mask) =
    says phrase.OfFieldReader ∷ word marker ∷ says phrase.ThenNext ∷ width bits ∷ says phrase.NewFieldReader ∷ (spot_pieces spot ++ says phrase.ThenMask ∷ hexadecimal mask ∷ says phrase.ThenCast ∷ width bits ∷ says phrase.ClosesCall ∷ [])

-- `pub fn NAME(&self) -> ..`, `pub fn NAME(&self, n: usize) -> ..`
abbrev pub reader_line : ℕ → Reader → Line
reader_line depth reader =
    line depth (says phrase.PubFn ∷ word reader.name ∷ says (receiver (is_indexed (spot_read reader.form))) ∷ read_pieces reader.marker reader.form)

-- the writer of a bit, by the kind of the field
abbrev pub kind_word : BitKind → Word
kind_word kind.Plain = codes "BitWriter"
kind_word kind.OneToSet = codes "BitWriter1S"
kind_word kind.ZeroToClear = codes "BitWriter0C"
kind_word kind.OneToClear = codes "BitWriter1C"
kind_word kind.ZeroToSet = codes "BitWriter0S"
kind_word kind.OneToToggle = codes "BitWriter1T"
kind_word kind.ZeroToToggle = codes "BitWriter0T"

-- `KIND<'_, Spec, MARKER> { KIND::new(self, SPOT) }`
-- `FieldWriter<'_, Spec, MARKER, TYPE, BITS> { FieldWriter::new(self, SPOT) }`
abbrev pub write_pieces : List ℕ → WriteForm → List Piece
write_pieces marker (write.Bit kind spot) =
    word (kind_word kind) ∷ says phrase.OfSpec ∷ word marker ∷ says phrase.ThenBody ∷ word (kind_word kind) ∷ says phrase.NewOnSelf ∷ (spot_pieces spot ++ says phrase.ClosesCall ∷ [])
write_pieces marker (write.Field bits wide spot) =
    says phrase.OfFieldWriter ∷ word marker ∷ says phrase.ThenNext ∷ width bits ∷ says phrase.ThenNext ∷ decimal wide ∷ says phrase.NewFieldWriter ∷ (spot_pieces spot ++ says phrase.ClosesCall ∷ [])

-- `pub fn NAME(&mut self) -> ..`, `pub fn NAME(&mut self, n: usize) -> ..`
abbrev pub writer_line : ℕ → Writer → Line
writer_line depth writer =
    line depth (says phrase.PubFn ∷ word writer.name ∷ says (receiver_mut (is_indexed (spot_written writer.form))) ∷ write_pieces writer.marker writer.form)

-- the calls that read fields, where there is a block of them
abbrev pub readers_lines : ℕ → Option (List Reader) → List Line
readers_lines depth None = []
readers_lines depth (Some readers) = braced depth (says phrase.ReadersImpl ∷ []) (map (reader_line (depth + 1)) readers)

-- the calls that write fields, where there is a block of them
abbrev pub writers_lines : ℕ → Option (List Writer) → List Line
writers_lines depth None = []
writers_lines depth (Some writers) = braced depth (says phrase.WritersImpl ∷ []) (map (writer_line (depth + 1)) writers)

-- ---- values

-- `pub fn NAME(&self) -> bool { self.bit() == TRUTH }`
abbrev pub truth_test_line : ℕ → TruthCall → Line
truth_test_line depth call =
    line depth (says phrase.PubFn ∷ word call.name ∷ says phrase.TestsBit ∷ truth call.value ∷ says phrase.ClosesBody ∷ [])

-- `pub fn NAME(&self) -> bool { self.bits() == NUMBER }`
abbrev pub number_test_line : ℕ → NumberCall → Line
number_test_line depth call =
    line depth (says phrase.PubFn ∷ word call.name ∷ says phrase.TestsNumber ∷ hexadecimal call.value ∷ says phrase.ClosesBody ∷ [])

-- `pub fn NAME(self) -> &'a mut W<Spec> { self.bit(TRUTH) }`
abbrev pub truth_write_line : ℕ → TruthCall → Line
truth_write_line depth call =
    line depth (says phrase.PubFn ∷ word call.name ∷ says phrase.WritesBit ∷ truth call.value ∷ says phrase.ClosesCall ∷ [])

-- `pub fn NAME(self) -> &'a mut W<Spec> { self.bits(NUMBER) }`
abbrev pub number_write_line : ℕ → NumberCall → Line
number_write_line depth call =
    line depth (says phrase.PubFn ∷ word call.name ∷ says phrase.WritesNumber ∷ hexadecimal call.value ∷ says phrase.ClosesCall ∷ [])

-- a call for a truth in a block of reading calls, or in one of writing calls
abbrev pub truth_call_line : ℕ → Bool → TruthCall → Line
truth_call_line depth true call = truth_test_line depth call
truth_call_line depth false call = truth_write_line depth call

-- a call for a number in a block of reading calls, or in one of writing calls
abbrev pub number_call_line : ℕ → Bool → NumberCall → Line
number_call_line depth true call = number_test_line depth call
number_call_line depth false call = number_write_line depth call

-- `impl BitReader<MARKER> {`, `impl FieldReader<MARKER, TYPE> {`, `impl<'a> KIND<'a, Spec, MARKER> {`, `impl<'a> FieldWriter<'a, Spec, MARKER, TYPE, BITS> {`
abbrev pub opening_pieces : Values → List Piece
opening_pieces (values.BitReading marker calls) = says phrase.BitReaderImpl ∷ word marker ∷ says phrase.OpensCalls ∷ []
opening_pieces (values.FieldReading marker bits calls) = says phrase.FieldReaderImpl ∷ word marker ∷ says phrase.ThenNext ∷ width bits ∷ says phrase.OpensCalls ∷ []
opening_pieces (values.BitWriting kind marker calls) = says phrase.WriterImpl ∷ word (kind_word kind) ∷ says phrase.OfSpecInImpl ∷ word marker ∷ says phrase.OpensCalls ∷ []
opening_pieces (values.FieldWriting marker bits wide calls) =
    says phrase.FieldWriterImpl ∷ word marker ∷ says phrase.ThenNext ∷ width bits ∷ says phrase.ThenNext ∷ decimal wide ∷ says phrase.OpensCalls ∷ []

-- the calls of a block of values
abbrev pub calls_lines : ℕ → Values → List Line
calls_lines depth (values.BitReading marker calls) = map (truth_call_line depth true) calls
calls_lines depth (values.FieldReading marker bits calls) = map (number_call_line depth true) calls
calls_lines depth (values.BitWriting kind marker calls) = map (truth_call_line depth false) calls
calls_lines depth (values.FieldWriting marker bits wide calls) = map (number_call_line depth false) calls

abbrev pub values_lines : ℕ → Values → List Line
values_lines depth block = braced depth (opening_pieces block) (calls_lines (depth + 1) block)

-- ---- the module

-- the prelude, the type that stands for the register, and the width of its accesses
abbrev pub head_lines : ℕ → RegisterModule → List Line
head_lines depth unit = fixed depth (text_of phrase.UsePrelude) ∷ fixed depth (text_of phrase.SpecStruct) ∷ spec_line depth unit ∷ []

-- the parts of a register module in their order
abbrev pub part_lines : ℕ → RegisterModule → List Line
part_lines depth unit =
    head_lines depth unit ++ (readable_lines depth unit.readable ++ (writable_lines depth unit.writable ++ (reset_line depth unit.reset ∷ (map (marker_line depth) unit.markers ++ (readers_lines depth unit.readers ++ (writers_lines depth unit.writers ++ flat_map (values_lines depth) unit.values))))))

-- a register module
unfoldable pub register_lines : ℕ → RegisterModule → List Line
register_lines depth unit =
    braced depth (says phrase.PubMod ∷ word unit.name ∷ says phrase.OpensModule ∷ []) (part_lines (depth + 1) unit)
