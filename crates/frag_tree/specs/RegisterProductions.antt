-- The productions of register modules as readings of words.
use Rattle.std.specs.Prelude.{ℕ, List, ◌∷◌, ◌++◌, Bool, true, false, ◌&&◌, Option, Some, None, codes, ◌⊎◌}
use Rattle.std.proofs.Common.{inl, inr}
use Rattle.frag_words.specs.Lines.{line_words, lines_words}
use Rattle.frag_words.specs.Readings.{Reading, behind, followed, pair, mapped, either, list_then, restated, word_is, list_until, option_then, flag_then, only_if, told_apart, within}
use Rattle.frag_words.specs.Words.{Word}
use Rattle.pac_base.specs.declared.width.Width.{Width}
use Rattle.frag_tree.specs.Phrases.{words_of, receiver, receiver_mut}
use Rattle.frag_tree.specs.declared.phrase.Phrase.{Phrase}
use Rattle.frag_tree.specs.declared.krate.Version.{Version}
use Rattle.frag_tree.specs.declared.register.Spot.{Spot}
use Rattle.frag_tree.specs.declared.register.Spot.TheVariants.{Fixed, Indexed}
use Rattle.frag_tree.specs.Trees.{is_indexed, takes_index}
use Rattle.frag_tree.specs.declared.phrase.Phrase.TheVariants as phrase
use Rattle.frag_tree.specs.declared.register.BitKind.{BitKind}
use Rattle.frag_tree.specs.declared.register.Constant.{Constant}
use Rattle.frag_tree.specs.declared.register.NumberCall.{NumberCall}
use Rattle.frag_tree.specs.declared.register.ReadForm.{ReadForm}
use Rattle.frag_tree.specs.declared.register.ReadForm.TheVariants as read
use Rattle.frag_tree.specs.declared.register.Reader.{Reader}
use Rattle.frag_tree.specs.declared.register.RegisterModule.{RegisterModule}
use Rattle.frag_tree.specs.declared.register.TruthCall.{TruthCall}
use Rattle.frag_tree.specs.declared.register.Values.{Values}
use Rattle.frag_tree.specs.declared.register.Values.TheVariants as values
use Rattle.frag_tree.specs.declared.register.Writable.{Writable}
use Rattle.frag_tree.specs.declared.register.WriteForm.{WriteForm}
use Rattle.frag_tree.specs.declared.register.WriteForm.TheVariants as write
use Rattle.frag_tree.specs.declared.register.Writer.{Writer}
use Rattle.frag_tree.specs.Numerals.{width_word}
use Rattle.frag_tree.specs.Productions.{identifier, hexadecimal_reading, decimal_reading, width_reading, truth_reading, kind_reading}
use Rattle.frag_tree.specs.Registers.{writable_line, reset_line, reader_line, writer_line, kind_word, truth_test_line, number_test_line, truth_write_line, number_write_line, values_lines, register_lines}
use Rattle.frag_tree.specs.Validity.{valid_constant, valid_writable, valid_reader, valid_writer, valid_truth, valid_number, valid_values, valid_register}

-- ---- constants

abbrev pub constant_of : Width × ℕ → Constant
constant_of parts = record { width = parts.0; value = parts.1 }

abbrev pub constant_parts : Constant → Width × ℕ
constant_parts constant = (constant.width, constant.value)

-- `NAME: TYPE = VALUE;`, where NAME is part of the text
abbrev pub constant_reading : Phrase → Reading Constant
constant_reading name = mapped constant_of constant_parts
    (behind (words_of name) (pair width_reading (behind (words_of phrase.Equals) (followed hexadecimal_reading (λ _. words_of phrase.Semicolon)))))

abbrev pub writable_words : Writable → List Word
writable_words masks = line_words (writable_line 0 masks)

abbrev pub writable_of : Constant × Constant → Writable
writable_of parts = record { zero_to_modify = parts.0; one_to_modify = parts.1 }

abbrev pub writable_parts : Writable → Constant × Constant
writable_parts masks = (masks.zero_to_modify, masks.one_to_modify)

unfoldable pub writable_raw : Reading (Constant × Constant)
writable_raw =
    behind (words_of phrase.WritableImpl) (pair (constant_reading phrase.ZeroToModify) (followed (constant_reading phrase.OneToModify) (λ _. words_of phrase.Closer)))

unfoldable pub writable_reading : Reading Writable
writable_reading = restated writable_words valid_writable (mapped writable_of writable_parts writable_raw)

abbrev pub reset_words : Constant → List Word
reset_words constant = line_words (reset_line 0 constant)

unfoldable pub reset_raw : Reading Constant
reset_raw = behind (words_of phrase.ResettableImpl) (followed (constant_reading phrase.ResetValue) (λ _. words_of phrase.Closer))

unfoldable pub reset_reading : Reading Constant
reset_reading = restated reset_words valid_constant reset_raw

-- `pub struct MARKER;`
unfoldable pub marker_reading : Reading Word
marker_reading = behind (words_of phrase.PubStruct) (followed identifier (λ _. words_of phrase.ClosesMarker))

-- ---- readers

-- `at_bit(OFFSET, STEP, COUNT, n)`
abbrev pub indexed_of : ℕ × (ℕ × ℕ) → Spot
indexed_of parts = Indexed parts.0 parts.1.0 parts.1.1

abbrev pub indexed_parts : Spot → Option (ℕ × (ℕ × ℕ))
indexed_parts (Fixed place) = None
indexed_parts (Indexed offset step count) = Some (offset, (step, count))

abbrev pub at_bit_raw : Reading (ℕ × (ℕ × ℕ))
at_bit_raw =
    behind (words_of phrase.OpensAtBit) (pair decimal_reading (behind (words_of phrase.ThenNext) (pair decimal_reading (behind (words_of phrase.ThenNext) (followed decimal_reading (λ _. words_of phrase.ClosesAtBit))))))

unfoldable pub at_bit_reading : Reading Spot
at_bit_reading = within indexed_of indexed_parts at_bit_raw

-- `PLACE`
abbrev pub fixed_part : Spot → Option ℕ
fixed_part (Fixed place) = Some place
fixed_part (Indexed offset step count) = None

unfoldable pub place_reading : Reading Spot
place_reading = within Fixed fixed_part decimal_reading

-- the spot of a call that takes an index, or of one that takes none
abbrev pub spot_reading : Bool → Reading Spot
spot_reading true = at_bit_reading
spot_reading false = place_reading

abbrev pub bit_reader_raw : Bool → Reading (Word × (Word × (Spot × ℕ)))
bit_reader_raw indexed =
    behind (words_of phrase.PubFn) (pair identifier (behind (words_of (receiver indexed)) (behind (words_of phrase.OfBitReader) (pair identifier (behind (words_of phrase.NewBitReader) (pair (spot_reading indexed) (behind (words_of phrase.ThenMask) (followed hexadecimal_reading (λ _. words_of phrase.ClosesBitReader)))))))))

-- what stands behind the mask, the type of the number in it
abbrev pub cast_words : Word × (Word × (Width × (Spot × ℕ))) → List Word
cast_words parts = words_of phrase.ThenCast ++ (width_word parts.1.1.0 ∷ words_of phrase.ClosesCall)

abbrev pub field_reader_raw : Bool → Reading (Word × (Word × (Width × (Spot × ℕ))))
field_reader_raw indexed =
    followed (behind (words_of phrase.PubFn) (pair identifier (behind (words_of (receiver indexed)) (behind (words_of phrase.OfFieldReader) (pair identifier (behind (words_of phrase.ThenNext) (pair width_reading (behind (words_of phrase.NewFieldReader) (pair (spot_reading indexed) (behind (words_of phrase.ThenMask) hexadecimal_reading)))))))))) cast_words

abbrev pub reader_words : Reader → List Word
reader_words reader = line_words (reader_line 0 reader)

abbrev pub ReaderParts : Type 0
ReaderParts = (Word × (Word × (Spot × ℕ))) ⊎ (Word × (Word × (Width × (Spot × ℕ))))

abbrev pub reader_of : ReaderParts → Reader
reader_of (inl parts) = record { name = parts.0; marker = parts.1.0; form = read.Bit parts.1.1.0 parts.1.1.1 }
reader_of (inr parts) = record { name = parts.0; marker = parts.1.0; form = read.Field parts.1.1.0 parts.1.1.1.0 parts.1.1.1.1 }

abbrev pub read_parts : Word → Word → ReadForm → ReaderParts
read_parts name marker (read.Bit spot mask) = inl (name, (marker, (spot, mask)))
read_parts name marker (read.Field bits spot mask) = inr (name, (marker, (bits, (spot, mask))))

abbrev pub reader_parts : Reader → ReaderParts
reader_parts reader = read_parts reader.name reader.marker reader.form

-- the reader takes an index
abbrev pub reader_indexed : ReaderParts → Bool
reader_indexed (inl parts) = is_indexed parts.1.1.0
reader_indexed (inr parts) = is_indexed parts.1.1.1.0

-- the place of its type among the words of a reader
abbrev pub reader_type : Bool → ℕ
reader_type true = 12
reader_type false = 8

-- the readers that take an index, or those that take none
abbrev pub reader_raw_of : Bool → Reading ReaderParts
reader_raw_of indexed = either (word_is (reader_type indexed) (codes "BitReader")) (bit_reader_raw indexed) (field_reader_raw indexed)

-- a reader of a version begins so that it takes an index
abbrev pub reader_begins : Version → List Word → Bool
reader_begins version text = takes_index version && word_is 6 (codes ",") text

unfoldable pub reader_raw : Version → Reading ReaderParts
reader_raw version = told_apart (reader_begins version) reader_indexed (only_if (takes_index version) (reader_raw_of true)) (reader_raw_of false)

unfoldable pub reader_reading : Version → Reading Reader
reader_reading version = restated reader_words (valid_reader version) (mapped reader_of reader_parts (reader_raw version))

-- ---- writers

abbrev pub field_writer_raw : Bool → Reading (Word × (Word × (Width × (ℕ × Spot))))
field_writer_raw indexed =
    behind (words_of phrase.PubFn) (pair identifier (behind (words_of (receiver_mut indexed)) (behind (words_of phrase.OfFieldWriter) (pair identifier (behind (words_of phrase.ThenNext) (pair width_reading (behind (words_of phrase.ThenNext) (pair decimal_reading (behind (words_of phrase.NewFieldWriter) (followed (spot_reading indexed) (λ _. words_of phrase.ClosesCall)))))))))))

-- what stands behind the marker, the writer's word again
abbrev pub again_words : Word × (BitKind × Word) → List Word
again_words parts = words_of phrase.ThenBody ++ (kind_word parts.1.0 ∷ words_of phrase.NewOnSelf)

abbrev pub bit_writer_raw : Bool → Reading ((Word × (BitKind × Word)) × Spot)
bit_writer_raw indexed =
    pair (followed (behind (words_of phrase.PubFn) (pair identifier (behind (words_of (receiver_mut indexed)) (pair kind_reading (behind (words_of phrase.OfSpec) identifier))))) again_words) (followed (spot_reading indexed) (λ _. words_of phrase.ClosesCall))

abbrev pub writer_words : Writer → List Word
writer_words writer = line_words (writer_line 0 writer)

abbrev pub WriterParts : Type 0
WriterParts = (Word × (Word × (Width × (ℕ × Spot)))) ⊎ ((Word × (BitKind × Word)) × Spot)

abbrev pub writer_of : WriterParts → Writer
writer_of (inl parts) = record { name = parts.0; marker = parts.1.0; form = write.Field parts.1.1.0 parts.1.1.1.0 parts.1.1.1.1 }
writer_of (inr parts) = record { name = parts.0.0; marker = parts.0.1.1; form = write.Bit parts.0.1.0 parts.1 }

abbrev pub write_parts : Word → Word → WriteForm → WriterParts
write_parts name marker (write.Field bits wide spot) = inl (name, (marker, (bits, (wide, spot))))
write_parts name marker (write.Bit kind spot) = inr ((name, (kind, marker)), spot)

abbrev pub writer_parts : Writer → WriterParts
writer_parts writer = write_parts writer.name writer.marker writer.form

-- the writer takes an index
abbrev pub writer_indexed : WriterParts → Bool
writer_indexed (inl parts) = is_indexed parts.1.1.1.1
writer_indexed (inr parts) = is_indexed parts.1

-- the place of its type among the words of a writer
abbrev pub writer_type : Bool → ℕ
writer_type true = 13
writer_type false = 9

-- the writers that take an index, or those that take none
abbrev pub writer_raw_of : Bool → Reading WriterParts
writer_raw_of indexed = either (word_is (writer_type indexed) (codes "FieldWriter")) (field_writer_raw indexed) (bit_writer_raw indexed)

-- a writer of a version begins so that it takes an index
abbrev pub writer_begins : Version → List Word → Bool
writer_begins version text = takes_index version && word_is 7 (codes ",") text

unfoldable pub writer_raw : Version → Reading WriterParts
writer_raw version = told_apart (writer_begins version) writer_indexed (only_if (takes_index version) (writer_raw_of true)) (writer_raw_of false)

unfoldable pub writer_reading : Version → Reading Writer
writer_reading version = restated writer_words (valid_writer version) (mapped writer_of writer_parts (writer_raw version))

-- ---- calls for values

abbrev pub truth_of : Word × Bool → TruthCall
truth_of parts = record { name = parts.0; value = parts.1 }

abbrev pub truth_parts : TruthCall → Word × Bool
truth_parts call = (call.name, call.value)

abbrev pub truth_raw : Phrase → Phrase → Reading (Word × Bool)
truth_raw middle end = behind (words_of phrase.PubFn) (pair identifier (behind (words_of middle) (followed truth_reading (λ _. words_of end))))

unfoldable pub truth_test : Reading TruthCall
truth_test = restated (λ call. line_words (truth_test_line 0 call)) valid_truth (mapped truth_of truth_parts (truth_raw phrase.TestsBit phrase.ClosesBody))

unfoldable pub truth_write : Reading TruthCall
truth_write = restated (λ call. line_words (truth_write_line 0 call)) valid_truth (mapped truth_of truth_parts (truth_raw phrase.WritesBit phrase.ClosesCall))

abbrev pub number_of : Word × ℕ → NumberCall
number_of parts = record { name = parts.0; value = parts.1 }

abbrev pub number_parts : NumberCall → Word × ℕ
number_parts call = (call.name, call.value)

abbrev pub number_raw : Phrase → Phrase → Reading (Word × ℕ)
number_raw middle end = behind (words_of phrase.PubFn) (pair identifier (behind (words_of middle) (followed hexadecimal_reading (λ _. words_of end))))

unfoldable pub number_test : Reading NumberCall
number_test = restated (λ call. line_words (number_test_line 0 call)) valid_number (mapped number_of number_parts (number_raw phrase.TestsNumber phrase.ClosesBody))

unfoldable pub number_write : Reading NumberCall
number_write = restated (λ call. line_words (number_write_line 0 call)) valid_number (mapped number_of number_parts (number_raw phrase.WritesNumber phrase.ClosesCall))

-- ---- blocks of values

-- calls up to the closing brace
abbrev pub calls_until : {A : Type 0} → Reading A → Reading (List A)
calls_until call = list_until (word_is 0 (codes "pub")) call (words_of phrase.Closer)

unfoldable pub bit_reading_raw : Reading (Word × List TruthCall)
bit_reading_raw = behind (words_of phrase.BitReaderImpl) (pair identifier (behind (words_of phrase.OpensCalls) (calls_until truth_test)))

unfoldable pub field_reading_raw : Reading (Word × (Width × List NumberCall))
field_reading_raw = behind (words_of phrase.FieldReaderImpl) (pair identifier (behind (words_of phrase.ThenNext) (pair width_reading (behind (words_of phrase.OpensCalls) (calls_until number_test)))))

unfoldable pub bit_writing_raw : Reading (BitKind × (Word × List TruthCall))
bit_writing_raw = behind (words_of phrase.WriterImpl) (pair kind_reading (behind (words_of phrase.OfSpecInImpl) (pair identifier (behind (words_of phrase.OpensCalls) (calls_until truth_write)))))

unfoldable pub field_writing_raw : Reading (Word × (Width × (ℕ × List NumberCall)))
field_writing_raw = behind (words_of phrase.FieldWriterImpl) (pair identifier (behind (words_of phrase.ThenNext) (pair width_reading (behind (words_of phrase.ThenNext) (pair decimal_reading (behind (words_of phrase.OpensCalls) (calls_until number_write)))))))

abbrev pub ValuesParts : Type 0
ValuesParts = (Word × List TruthCall) ⊎ ((Word × (Width × List NumberCall)) ⊎ ((Word × (Width × (ℕ × List NumberCall))) ⊎ (BitKind × (Word × List TruthCall))))

abbrev pub values_words : Values → List Word
values_words block = lines_words (values_lines 0 block)

abbrev pub values_of : ValuesParts → Values
values_of (inl parts) = values.BitReading parts.0 parts.1
values_of (inr (inl parts)) = values.FieldReading parts.0 parts.1.0 parts.1.1
values_of (inr (inr (inl parts))) = values.FieldWriting parts.0 parts.1.0 parts.1.1.0 parts.1.1.1
values_of (inr (inr (inr parts))) = values.BitWriting parts.0 parts.1.0 parts.1.1

abbrev pub values_parts : Values → ValuesParts
values_parts (values.BitReading marker calls) = inl (marker, calls)
values_parts (values.FieldReading marker bits calls) = inr (inl (marker, (bits, calls)))
values_parts (values.FieldWriting marker bits wide calls) = inr (inr (inl (marker, (bits, (wide, calls)))))
values_parts (values.BitWriting kind marker calls) = inr (inr (inr (kind, (marker, calls))))

unfoldable pub values_raw : Reading ValuesParts
values_raw = either (word_is 1 (codes "BitReader")) bit_reading_raw (either (word_is 1 (codes "FieldReader")) field_reading_raw (either (word_is 4 (codes "FieldWriter")) field_writing_raw bit_writing_raw))

unfoldable pub values_reading : Reading Values
values_reading = restated values_words valid_values (mapped values_of values_parts values_raw)

-- ---- register modules

-- an `impl` block of this kind begins
abbrev pub begins_impl : Word → List Word → Bool
begins_impl word text = word_is 0 (codes "impl") text && word_is 1 word text

unfoldable pub readers_reading : Version → Reading (List Reader)
readers_reading version = behind (words_of phrase.ReadersImpl) (calls_until (reader_reading version))

unfoldable pub writers_reading : Version → Reading (List Writer)
writers_reading version = behind (words_of phrase.WritersImpl) (calls_until (writer_reading version))

unfoldable pub values_part : Reading (List Values)
values_part = list_until (word_is 0 (codes "impl")) values_reading (words_of phrase.Closer)

unfoldable pub writers_part : Version → Reading (Option (List Writer) × List Values)
writers_part version = option_then (begins_impl (codes "W")) (writers_reading version) values_part

unfoldable pub readers_part : Version → Reading (Option (List Reader) × (Option (List Writer) × List Values))
readers_part version = option_then (begins_impl (codes "R")) (readers_reading version) (writers_part version)

unfoldable pub markers_part : Version → Reading (List Word × (Option (List Reader) × (Option (List Writer) × List Values)))
markers_part version = list_then (word_is 0 (codes "pub")) marker_reading (readers_part version)

unfoldable pub reset_part : Version → Reading (Constant × (List Word × (Option (List Reader) × (Option (List Writer) × List Values))))
reset_part version = pair reset_reading (markers_part version)

unfoldable pub writable_part : Version → Reading (Option Writable × (Constant × (List Word × (Option (List Reader) × (Option (List Writer) × List Values)))))
writable_part version = option_then (begins_impl (codes "Writable")) writable_reading (reset_part version)

unfoldable pub readable_part : Version → Reading (Bool × (Option Writable × (Constant × (List Word × (Option (List Reader) × (Option (List Writer) × List Values))))))
readable_part version = flag_then (begins_impl (codes "Readable")) (words_of phrase.ReadableImpl) (writable_part version)

abbrev pub RegisterParts : Type 0
RegisterParts = Word × (Width × (Bool × (Option Writable × (Constant × (List Word × (Option (List Reader) × (Option (List Writer) × List Values)))))))

unfoldable pub register_raw : Version → Reading RegisterParts
register_raw version =
    behind (words_of phrase.PubMod) (pair identifier (behind (words_of phrase.OpensModule) (behind (words_of phrase.UsePrelude) (behind (words_of phrase.SpecStruct) (behind (words_of phrase.OpensSpec) (pair width_reading (behind (words_of phrase.ClosesSpec) (readable_part version))))))))

abbrev pub register_of : RegisterParts → RegisterModule
register_of parts = record {
  name = parts.0;
  word = parts.1.0;
  readable = parts.1.1.0;
  writable = parts.1.1.1.0;
  reset = parts.1.1.1.1.0;
  markers = parts.1.1.1.1.1.0;
  readers = parts.1.1.1.1.1.1.0;
  writers = parts.1.1.1.1.1.1.1.0;
  values = parts.1.1.1.1.1.1.1.1;
}

abbrev pub register_parts : RegisterModule → RegisterParts
register_parts unit = (unit.name, (unit.word, (unit.readable, (unit.writable, (unit.reset, (unit.markers, (unit.readers, (unit.writers, unit.values))))))))

abbrev pub register_words : RegisterModule → List Word
register_words unit = lines_words (register_lines 0 unit)

unfoldable pub register_reading : Version → Reading RegisterModule
register_reading version = restated register_words (valid_register version) (mapped register_of register_parts (register_raw version))
