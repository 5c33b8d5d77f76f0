-- The productions of the crate text are read as the code reads them.
use Rattle.std.proofs.Common.{ℕ, ◌≡◌, List, [], ◌∷◌, Bool, true, false, Option, Some, None, refl}
use Rattle.std.specs.Prelude.{codes, drop, if◌then◌else◌}
use Rattle.text_scan.specs.Steps.{◌>>=◌}
use Rattle.text_scan.specs.Numbers.{value_of}
use Rattle.frag_words.specs.Words.{Word}
use Rattle.frag_words.specs.Readings.{Reading, among, fixed_words, list_until, then_read, truth_of as side_truth, word_is}
use Rattle.rust_names.specs.Identifiers.{is_identifier}
use Rattle.frag_tree.specs.Numerals.{decimal_word, hexadecimal_word, truth_word, width_word}
use Rattle.frag_tree.specs.Registers.{kind_word}
use Rattle.frag_tree.specs.Productions.{identifier, numeral_at, hexadecimal_reading, decimal_reading, width_reading, truth_reading, kind_reading, slot_of, slot_raw, slot_reading, element_of, element_raw, element_reading, type_of, type_raw, type_reading, field_of, field_raw, field_reading, body_of, body_raw, body_reading, index_reading, access_of, access_raw, access_reading}
use Rattle.frag_tree.specs.RegisterProductions.{constant_of, constant_reading, writable_of, writable_raw, writable_reading, reset_raw, reset_reading, marker_reading, at_bit_reading, indexed_of, place_reading, spot_reading, reader_of, reader_type, reader_raw_of, reader_raw, reader_reading, writer_of, writer_type, writer_raw_of, writer_raw, writer_reading, truth_of as truth_call_of, truth_test, truth_write, number_of, number_test, number_write, calls_until, bit_reading_raw, field_reading_raw, bit_writing_raw, field_writing_raw, values_of, values_raw, values_reading, begins_impl as begins_impl_of, readers_reading, writers_reading, values_part, writers_part, readers_part, markers_part, reset_part, writable_part, readable_part, register_raw, register_of, register_reading}
use Rattle.frag_tree.specs.ModuleProductions.{head_of, fields_reading, head_raw, head_reading, slots_reading}
use Rattle.frag_tree.specs.declared.access.Body.{Body}
use Rattle.frag_tree.specs.declared.block.Element.{Element}
use Rattle.frag_tree.specs.declared.block.FieldType.{FieldType}
use Rattle.frag_tree.specs.declared.block.StructField.{StructField}
use Rattle.frag_tree.specs.declared.register.BitKind.{BitKind}
use Rattle.frag_tree.specs.declared.register.Constant.{Constant}
use Rattle.frag_tree.specs.declared.register.Values.{Values}
use Rattle.pac_base.specs.declared.width.Width.{Width}
use Rattle.frag_tree.specs.declared.register.BitKind.TheVariants as kind
use Rattle.pac_base.specs.declared.width.Width.TheVariants.{W8, W16, W32, W64}
use Rattle.frag_tree.specs.declared.phrase.Phrase.{Phrase}
use Rattle.frag_tree.specs.declared.phrase.Phrase.TheVariants as phrase
use Rattle.frag_token.specs.Signs.{sign_word}
use Rattle.frag_tree.specs.Phrases.{words_of, receiver, receiver_mut}
use Rattle.frag_tree.specs.Trees.{takes_index}
use Rattle.frag_tree.specs.declared.krate.Version.{Version}
use Rattle.frag_tree.specs.declared.register.Spot.{Spot}
use Rattle.frag_tree.specs.declared.register.Spot.TheVariants.{Fixed}
use Rattle.frag_token.specs.Reading.{Found, at_bit_at, begins_at, begins_field, begins_impl, begins_pub, braced_at, decimal_at, decimal_of, first_at, hexadecimal_at, hexadecimal_of, impl_at, kind_at, kind_of, name_at, name_of, phrase_at, place_at, sign_at, sign_then, spot_at, truth_at, truth_of, width_at, width_of}
use Rattle.frag_parts.specs.Reading.{access_at, array_at, bit_form_at, bit_place_at, bit_reader_at, bit_reading_at, bit_writer_at, bit_writing_at, block_element_at, body_at, constant_at, element_at, far_body_at, field_at, field_bits_at, field_body_at, field_form_at, field_place_at, field_reader_at, field_reading_at, field_writer_at, field_writing_at, gap_at, head_at, index_at, indexed_at, marker_at, member_body_at, number_behind_at, number_call_at, number_calls, offset_body_at, own_body_at, parts_at, plain_at, readable_at, reader_at, readers_at, readers_part_at, register_at, register_element_at, reset_at, single_at, slot_at, strided_body_at, truth_behind_at, truth_call_at, truth_calls, type_at, typed_reader_at, typed_writer_at, values_at, writable_at, writable_part_at, writer_at, writers_at, writers_part_at, writing_at}
use Rattle.frag_parts.proofs.Steps.{Does, apart, reads, does_known, does_behind, does_pair, does_followed, does_three, does_either, does_nothing, does_flag, does_list, does_option, value_is}

-- ---- words

abbrev word_found : Word → List Word → Found Word
word_found word others = Some (word, others)

abbrev one_word : Word → Option Word
one_word word = Some word

name_either : (hit : Bool) (word : Word) (others : List Word) → (if hit then word_found word others else None) ≡ ((if hit then one_word word else None) >>= λ name. word_found name others)
name_either true word others = refl
name_either false word others = refl

name_same : (text : List Word) → identifier.read text ≡ name_at text
unfolding name_at name_of first_at
name_same [] = refl
name_same (first ∷ others) = name_either (is_identifier first) first others

name : {B : Type 0} → Does Word B identifier.read (λ text next. name_at text >>= λ found. next found.0 found.1)
name = does_known identifier.read name_at name_same

hexadecimal_same : (text : List Word) → hexadecimal_reading.read text ≡ hexadecimal_at text
unfolding hexadecimal_reading hexadecimal_at hexadecimal_of
hexadecimal_same text = value_is (λ word. numeral_at hexadecimal_word (value_of 16 (drop 2 word)) word) text

hexadecimal : {B : Type 0} → Does ℕ B hexadecimal_reading.read (λ text next. hexadecimal_at text >>= λ found. next found.0 found.1)
hexadecimal = does_known hexadecimal_reading.read hexadecimal_at hexadecimal_same

decimal_same : (text : List Word) → decimal_reading.read text ≡ decimal_at text
unfolding decimal_reading decimal_at decimal_of
decimal_same text = value_is (λ word. numeral_at decimal_word (value_of 10 word) word) text

decimal : {B : Type 0} → Does ℕ B decimal_reading.read (λ text next. decimal_at text >>= λ found. next found.0 found.1)
decimal = does_known decimal_reading.read decimal_at decimal_same

width_same : (text : List Word) → width_reading.read text ≡ width_at text
unfolding width_reading width_at width_of
width_same text = value_is (among width_word (W8 ∷ W16 ∷ W32 ∷ W64 ∷ [])) text

width : {B : Type 0} → Does Width B width_reading.read (λ text next. width_at text >>= λ found. next found.0 found.1)
width = does_known width_reading.read width_at width_same

truth_same : (text : List Word) → truth_reading.read text ≡ truth_at text
unfolding truth_reading truth_at truth_of
truth_same text = value_is (among truth_word (true ∷ false ∷ [])) text

truth : {B : Type 0} → Does Bool B truth_reading.read (λ text next. truth_at text >>= λ found. next found.0 found.1)
truth = does_known truth_reading.read truth_at truth_same

kind_same : (text : List Word) → kind_reading.read text ≡ kind_at text
unfolding kind_reading kind_at kind_of
kind_same text = value_is (among kind_word (kind.Plain ∷ kind.OneToSet ∷ kind.ZeroToClear ∷ kind.OneToClear ∷ kind.ZeroToSet ∷ kind.OneToToggle ∷ kind.ZeroToToggle ∷ [])) text

writer_kind : {B : Type 0} → Does BitKind B kind_reading.read (λ text next. kind_at text >>= λ found. next found.0 found.1)
writer_kind = does_known kind_reading.read kind_at kind_same

-- ---- lists in braces

braced_same : {A : Type 0} (test : List Word → Bool) (item : Reading A) (text : List Word) → (list_until test item (words_of phrase.Closer)).read text ≡ braced_at test item.read text
unfolding braced_at phrase_at
braced_same test item text = (does_list test item (fixed_words (words_of phrase.Closer)) (does_behind (words_of phrase.Closer) does_nothing)).does text (λ trees rest. Some (trees.0, rest))

calls : {A B : Type 0} (call : Reading A) → Does (List A) B (calls_until call).read (λ text next. braced_at begins_pub call.read text >>= λ found. next found.0 found.1)
unfolding begins_at sign_at sign_word
calls call = does_known (calls_until call).read (braced_at begins_pub call.read) (braced_same begins_pub call)

-- ---- slots

pub slot_same : (text : List Word) → slot_reading.read text ≡ slot_at text
unfolding slot_reading slot_raw slot_at phrase_at
slot_same text =
    (does_behind (words_of phrase.Pub) (does_pair name (does_behind (words_of phrase.OpensPeriph) (does_pair name (does_behind (words_of phrase.BlockThenNext) (does_followed (λ _. words_of phrase.ClosesSlot) hexadecimal)))))).does text (λ tree rest. Some (slot_of tree, rest))

pub slots_same : (text : List Word) → slots_reading.read text ≡ braced_at begins_pub slot_reading.read text
unfolding begins_at sign_at sign_word
slots_same text = braced_same begins_pub slot_reading text

-- ---- blocks

element_same : (text : List Word) → element_reading.read text ≡ element_at text
unfolding element_reading element_raw element_at register_element_at block_element_at phrase_at sign_at sign_word
element_same text =
    (does_either (word_is 1 (codes "<"))
    (does_behind (words_of phrase.OpensReg) (does_followed (λ _. words_of phrase.ClosesReg) name))
    (does_followed (λ _. words_of phrase.OfBlock) name)).does text (λ tree rest. Some (element_of tree, rest))

element : {B : Type 0} → Does Element B element_reading.read (λ text next. element_at text >>= λ found. next found.0 found.1)
element = does_known element_reading.read element_at element_same

type_same : (text : List Word) → type_reading.read text ≡ type_at text
unfolding type_reading type_raw type_at gap_at array_at single_at phrase_at sign_at sign_word
type_same text =
    (does_either (word_is 0 (codes "["))
    (does_either (word_is 2 (codes ";"))
    (does_behind (words_of phrase.OpensGap) (does_followed (λ _. words_of phrase.ClosesArray) decimal))
    (does_behind (words_of phrase.OpensArray) (does_pair element (does_behind (words_of phrase.Semicolon) (does_followed (λ _. words_of phrase.ClosesArray) decimal)))))
    element).does text (λ tree rest. Some (type_of tree, rest))

field_type : {B : Type 0} → Does FieldType B type_reading.read (λ text next. type_at text >>= λ found. next found.0 found.1)
field_type = does_known type_reading.read type_at type_same

pub field_same : (text : List Word) → field_reading.read text ≡ field_at text
unfolding field_reading field_raw field_at phrase_at
field_same text =
    (does_pair name (does_behind (words_of phrase.Colon) (does_followed (λ _. words_of phrase.Comma) field_type))).does text (λ tree rest. Some (field_of tree, rest))

body_same : (text : List Word) → body_reading.read text ≡ body_at text
unfolding body_reading body_raw body_at own_body_at far_body_at field_body_at member_body_at offset_body_at strided_body_at phrase_at sign_at sign_word
body_same text =
    (does_either (word_is 0 (codes "&"))
    (does_either (word_is 4 (codes "}"))
    (does_behind (words_of phrase.FieldOfSelf) (does_followed (λ _. words_of phrase.ClosesBody) name))
    (does_behind (words_of phrase.FieldOfSelf) (does_followed (λ _. words_of phrase.ClosesMember) name)))
    (does_either (word_is 0 (codes "at"))
    (does_behind (words_of phrase.OpensAt) (does_followed (λ _. words_of phrase.ClosesCall) hexadecimal))
    (does_behind (words_of phrase.OpensAtIndex) (does_pair hexadecimal (does_behind (words_of phrase.ThenNext) (does_pair decimal (does_behind (words_of phrase.ThenNext) (does_followed (λ _. words_of phrase.ClosesAtIndex) decimal)))))))).does text (λ tree rest. Some (body_of tree, rest))

body : {B : Type 0} → Does Body B body_reading.read (λ text next. body_at text >>= λ found. next found.0 found.1)
body = does_known body_reading.read body_at body_same

index_same : (text : List Word) → index_reading.read text ≡ index_at text
unfolding index_reading index_at indexed_at plain_at phrase_at sign_at sign_word
index_same text =
    (does_either (word_is 3 (codes ","))
    (does_behind (words_of (receiver true)) does_nothing)
    (does_behind (words_of (receiver false)) does_nothing)).does text (λ tree rest. Some (side_truth tree, rest))

index : {B : Type 0} → Does Bool B index_reading.read (λ text next. index_at text >>= λ found. next found.0 found.1)
index = does_known index_reading.read index_at index_same

pub access_same : (text : List Word) → access_reading.read text ≡ access_at text
unfolding access_reading access_raw access_at phrase_at
access_same text =
    (does_behind (words_of phrase.PubFn) (does_pair name (does_pair index (does_behind (words_of phrase.Reference) (does_pair element (does_behind (words_of phrase.OpensBody) body)))))).does text (λ tree rest. Some (access_of tree, rest))

fields : {B : Type 0} → Does (List StructField) B fields_reading.read (λ text next. braced_at begins_field field_reading.read text >>= λ found. next found.0 found.1)
unfolding fields_reading begins_at sign_at sign_word
fields = does_known fields_reading.read (braced_at begins_field field_reading.read) (braced_same begins_field field_reading)

pub head_same : (text : List Word) → head_reading.read text ≡ head_at text
unfolding head_reading head_raw head_at phrase_at
head_same text =
    (does_behind (words_of phrase.PubMod) (does_pair name (does_behind (words_of phrase.OpensModule) (does_behind (words_of phrase.UsePrelude) (does_behind (words_of phrase.ReprC) (does_behind (words_of phrase.OpensStruct) (does_pair fields (does_behind (words_of phrase.BlockImpl) (calls access_reading))))))))).does text (λ tree rest. Some (head_of tree, rest))

-- ---- constants and markers

constant_same : (before : Phrase) (text : List Word) → (constant_reading before).read text ≡ constant_at before text
unfolding constant_at phrase_at
constant_same before text =
    (does_behind (words_of before) (does_pair width (does_behind (words_of phrase.Equals) (does_followed (λ _. words_of phrase.Semicolon) hexadecimal)))).does text (λ tree rest. Some (constant_of tree, rest))

constant : {B : Type 0} (before : Phrase) → Does Constant B (constant_reading before).read (λ text next. constant_at before text >>= λ found. next found.0 found.1)
constant before = does_known (constant_reading before).read (constant_at before) (constant_same before)

writable_same : (text : List Word) → writable_reading.read text ≡ writable_at text
unfolding writable_reading writable_raw writable_at phrase_at
writable_same text =
    (does_behind (words_of phrase.WritableImpl) (does_pair (constant phrase.ZeroToModify) (does_followed (λ _. words_of phrase.Closer) (constant phrase.OneToModify)))).does text (λ tree rest. Some (writable_of tree, rest))

reset_same : (text : List Word) → reset_reading.read text ≡ reset_at text
unfolding reset_reading reset_raw reset_at phrase_at
reset_same text = reads (does_behind (words_of phrase.ResettableImpl) (does_followed (λ _. words_of phrase.Closer) (constant phrase.ResetValue))) text

pub marker_same : (text : List Word) → marker_reading.read text ≡ marker_at text
unfolding marker_reading marker_at phrase_at
marker_same text = reads (does_behind (words_of phrase.PubStruct) (does_followed (λ _. words_of phrase.ClosesMarker) name)) text

-- ---- spots

at_bit_same : (text : List Word) → at_bit_reading.read text ≡ at_bit_at text
unfolding at_bit_reading at_bit_at phrase_at
at_bit_same text =
    (does_behind (words_of phrase.OpensAtBit) (does_pair decimal (does_behind (words_of phrase.ThenNext) (does_pair decimal (does_behind (words_of phrase.ThenNext) (does_followed (λ _. words_of phrase.ClosesAtBit) decimal)))))).does text (λ tree rest. Some (indexed_of tree, rest))

place_same : (text : List Word) → place_reading.read text ≡ place_at text
unfolding place_reading place_at
place_same text = decimal.does text (λ tree rest. Some (Fixed tree, rest))

spot_same : (indexed : Bool) (text : List Word) → (spot_reading indexed).read text ≡ spot_at indexed text
unfolding spot_at
spot_same true text = at_bit_same text
spot_same false text = place_same text

spot : {B : Type 0} (indexed : Bool) → Does Spot B (spot_reading indexed).read (λ text next. spot_at indexed text >>= λ found. next found.0 found.1)
spot indexed = does_known (spot_reading indexed).read (spot_at indexed) (spot_same indexed)

-- ---- readers and writers

typed_reader_same : (indexed : Bool) (text : List Word) → then_read ((reader_raw_of indexed).read text) (λ tree rest. Some (reader_of tree, rest)) ≡ typed_reader_at indexed text
unfolding typed_reader_at bit_reader_at bit_form_at field_reader_at field_form_at sign_then phrase_at sign_at sign_word
typed_reader_same indexed text =
    (does_either (word_is (reader_type indexed) (codes "BitReader"))
    (does_behind (words_of phrase.PubFn) (does_pair name (does_behind (words_of (receiver indexed)) (does_behind (words_of phrase.OfBitReader) (does_pair name (does_behind (words_of phrase.NewBitReader) (does_pair (spot indexed) (does_behind (words_of phrase.ThenMask) (does_followed (λ _. words_of phrase.ClosesBitReader) hexadecimal)))))))))
    (does_three (words_of phrase.ThenCast) (λ (parts : Word × (Word × (Width × (Spot × ℕ)))). width_word parts.1.1.0) (words_of phrase.ClosesCall)
    (does_behind (words_of phrase.PubFn) (does_pair name (does_behind (words_of (receiver indexed)) (does_behind (words_of phrase.OfFieldReader) (does_pair name (does_behind (words_of phrase.ThenNext) (does_pair width (does_behind (words_of phrase.NewFieldReader) (does_pair (spot indexed) (does_behind (words_of phrase.ThenMask) hexadecimal)))))))))))).does text (λ tree rest. Some (reader_of tree, rest))

pub reader_same : (version : Version) (text : List Word) → (reader_reading version).read text ≡ reader_at version text
unfolding reader_reading reader_raw reader_at sign_at sign_word
reader_same version text =
    apart (takes_index version) (word_is 6 (codes ",") text) ((reader_raw_of true).read text) ((reader_raw_of false).read text) (λ tree rest. Some (reader_of tree, rest)) (typed_reader_at true text) (typed_reader_at false text) (typed_reader_same true text) (typed_reader_same false text)

typed_writer_same : (indexed : Bool) (text : List Word) → then_read ((writer_raw_of indexed).read text) (λ tree rest. Some (writer_of tree, rest)) ≡ typed_writer_at indexed text
unfolding typed_writer_at field_writer_at field_place_at bit_writer_at bit_place_at sign_then phrase_at sign_at sign_word
typed_writer_same indexed text =
    (does_either (word_is (writer_type indexed) (codes "FieldWriter"))
    (does_behind (words_of phrase.PubFn) (does_pair name (does_behind (words_of (receiver_mut indexed)) (does_behind (words_of phrase.OfFieldWriter) (does_pair name (does_behind (words_of phrase.ThenNext) (does_pair width (does_behind (words_of phrase.ThenNext) (does_pair decimal (does_behind (words_of phrase.NewFieldWriter) (does_followed (λ _. words_of phrase.ClosesCall) (spot indexed)))))))))))
    )
    (does_pair (does_three (words_of phrase.ThenBody) (λ (parts : Word × (BitKind × Word)). kind_word parts.1.0) (words_of phrase.NewOnSelf)
    (does_behind (words_of phrase.PubFn) (does_pair name (does_behind (words_of (receiver_mut indexed)) (does_pair writer_kind (does_behind (words_of phrase.OfSpec) name))))))
    (does_followed (λ _. words_of phrase.ClosesCall) (spot indexed)))).does text (λ tree rest. Some (writer_of tree, rest))

pub writer_same : (version : Version) (text : List Word) → (writer_reading version).read text ≡ writer_at version text
unfolding writer_reading writer_raw writer_at sign_at sign_word
writer_same version text =
    apart (takes_index version) (word_is 7 (codes ",") text) ((writer_raw_of true).read text) ((writer_raw_of false).read text) (λ tree rest. Some (writer_of tree, rest)) (typed_writer_at true text) (typed_writer_at false text) (typed_writer_same true text) (typed_writer_same false text)

-- ---- calls for values

truth_test_same : (text : List Word) → truth_test.read text ≡ truth_behind_at phrase.TestsBit phrase.ClosesBody text
unfolding truth_test truth_behind_at phrase_at
truth_test_same text =
    (does_behind (words_of phrase.PubFn) (does_pair name (does_behind (words_of phrase.TestsBit) (does_followed (λ _. words_of phrase.ClosesBody) truth)))).does text (λ tree rest. Some (truth_call_of tree, rest))

truth_write_same : (text : List Word) → truth_write.read text ≡ truth_behind_at phrase.WritesBit phrase.ClosesCall text
unfolding truth_write truth_behind_at phrase_at
truth_write_same text =
    (does_behind (words_of phrase.PubFn) (does_pair name (does_behind (words_of phrase.WritesBit) (does_followed (λ _. words_of phrase.ClosesCall) truth)))).does text (λ tree rest. Some (truth_call_of tree, rest))

number_test_same : (text : List Word) → number_test.read text ≡ number_behind_at phrase.TestsNumber phrase.ClosesBody text
unfolding number_test number_behind_at phrase_at
number_test_same text =
    (does_behind (words_of phrase.PubFn) (does_pair name (does_behind (words_of phrase.TestsNumber) (does_followed (λ _. words_of phrase.ClosesBody) hexadecimal)))).does text (λ tree rest. Some (number_of tree, rest))

number_write_same : (text : List Word) → number_write.read text ≡ number_behind_at phrase.WritesNumber phrase.ClosesCall text
unfolding number_write number_behind_at phrase_at
number_write_same text =
    (does_behind (words_of phrase.PubFn) (does_pair name (does_behind (words_of phrase.WritesNumber) (does_followed (λ _. words_of phrase.ClosesCall) hexadecimal)))).does text (λ tree rest. Some (number_of tree, rest))

pub truth_calls_same : (reads : Bool) (text : List Word) → (truth_calls reads).read text ≡ truth_call_at reads text
unfolding truth_call_at
truth_calls_same true text = truth_test_same text
truth_calls_same false text = truth_write_same text

pub number_calls_same : (reads : Bool) (text : List Word) → (number_calls reads).read text ≡ number_call_at reads text
unfolding number_call_at
number_calls_same true text = number_test_same text
number_calls_same false text = number_write_same text

pub values_same : (text : List Word) → values_reading.read text ≡ values_at text
unfolding values_reading values_raw bit_reading_raw field_reading_raw field_writing_raw bit_writing_raw values_at bit_reading_at field_reading_at writing_at field_writing_at field_bits_at bit_writing_at phrase_at sign_at sign_word
values_same text =
    (does_either (word_is 1 (codes "BitReader"))
    (does_behind (words_of phrase.BitReaderImpl) (does_pair name (does_behind (words_of phrase.OpensCalls) (calls truth_test))))
    (does_either (word_is 1 (codes "FieldReader"))
    (does_behind (words_of phrase.FieldReaderImpl) (does_pair name (does_behind (words_of phrase.ThenNext) (does_pair width (does_behind (words_of phrase.OpensCalls) (calls number_test))))))
    (does_either (word_is 4 (codes "FieldWriter"))
    (does_behind (words_of phrase.FieldWriterImpl) (does_pair name (does_behind (words_of phrase.ThenNext) (does_pair width (does_behind (words_of phrase.ThenNext) (does_pair decimal (does_behind (words_of phrase.OpensCalls) (calls number_write))))))))
    (does_behind (words_of phrase.WriterImpl) (does_pair writer_kind (does_behind (words_of phrase.OfSpecInImpl) (does_pair name (does_behind (words_of phrase.OpensCalls) (calls truth_write))))))))).does text (λ tree rest. Some (values_of tree, rest))

-- ---- register modules

readers_same : (version : Version) → (text : List Word) → (readers_reading version).read text ≡ (readers_at version) text
unfolding readers_reading readers_at phrase_at
readers_same version text = reads (does_behind (words_of phrase.ReadersImpl) (calls (reader_reading version))) text

writers_same : (version : Version) → (text : List Word) → (writers_reading version).read text ≡ (writers_at version) text
unfolding writers_reading writers_at phrase_at
writers_same version text = reads (does_behind (words_of phrase.WritersImpl) (calls (writer_reading version))) text

value_blocks : {B : Type 0} → Does (List Values) B values_part.read (λ text next. braced_at begins_impl values_reading.read text >>= λ found. next found.0 found.1)
unfolding values_part begins_at sign_at sign_word
value_blocks = does_known values_part.read (braced_at begins_impl values_reading.read) (braced_same begins_impl values_reading)

reset : {B : Type 0} → Does Constant B reset_reading.read (λ text next. reset_at text >>= λ found. next found.0 found.1)
reset = does_known reset_reading.read reset_at reset_same

pub register_same : (version : Version) → (text : List Word) → (register_reading version).read text ≡ (register_at version) text
unfolding register_reading register_raw readable_part writable_part reset_part markers_part readers_part writers_part register_at parts_at readable_at writable_part_at readers_part_at writers_part_at impl_at begins_at phrase_at sign_at sign_word
register_same version text =
    (does_behind (words_of phrase.PubMod) (does_pair name (does_behind (words_of phrase.OpensModule) (does_behind (words_of phrase.UsePrelude) (does_behind (words_of phrase.SpecStruct) (does_behind (words_of phrase.OpensSpec) (does_pair width (does_behind (words_of phrase.ClosesSpec)
    (does_flag (begins_impl_of (codes "Readable")) (words_of phrase.ReadableImpl) (writable_part version)
    (does_option (begins_impl_of (codes "Writable")) writable_reading (reset_part version) writable_same
    (does_pair reset
    (does_list (word_is 0 (codes "pub")) marker_reading (readers_part version)
    (does_option (begins_impl_of (codes "R")) (readers_reading version) (writers_part version) (readers_same version)
    (does_option (begins_impl_of (codes "W")) (writers_reading version) values_part (writers_same version) value_blocks)))))))))))))).does text (λ tree rest. Some (register_of tree, rest))
