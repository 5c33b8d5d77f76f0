-- Reading what stands in a module, from left to right: what each function of the reader gives, on lists of words.
use Rattle.std.specs.Prelude.{Bool, true, false, ◌&&◌, List, Option, Some, None, if◌then◌else◌}
use Rattle.text_scan.specs.Steps.{◌>>=◌}
use Rattle.frag_words.specs.Words.{Word}
use Rattle.frag_words.specs.Readings.{Reading}
use Rattle.frag_tree.specs.Productions.{access_reading, field_reading}
use Rattle.frag_tree.specs.RegisterProductions.{marker_reading, number_test, number_write, reader_reading, reader_type, truth_test, truth_write, values_reading, writer_reading, writer_type}
use Rattle.frag_tree.specs.Trees.{BlockHead, takes_index}
use Rattle.frag_tree.specs.declared.access.Access.{Access}
use Rattle.frag_tree.specs.declared.access.Body.{Body}
use Rattle.frag_tree.specs.declared.access.Body.TheVariants as body
use Rattle.frag_tree.specs.declared.block.Element.{Element}
use Rattle.frag_tree.specs.declared.block.Element.TheVariants as element
use Rattle.frag_tree.specs.declared.block.FieldType.{FieldType}
use Rattle.frag_tree.specs.declared.block.FieldType.TheVariants as holds
use Rattle.frag_tree.specs.declared.block.StructField.{StructField}
use Rattle.frag_tree.specs.declared.krate.Slot.{Slot}
use Rattle.frag_tree.specs.declared.krate.Version.{Version}
use Rattle.frag_tree.specs.declared.register.BitKind.{BitKind}
use Rattle.frag_tree.specs.declared.register.Constant.{Constant}
use Rattle.frag_tree.specs.declared.register.NumberCall.{NumberCall}
use Rattle.frag_tree.specs.declared.register.ReadForm.TheVariants as read_form
use Rattle.frag_tree.specs.declared.register.Reader.{Reader}
use Rattle.frag_tree.specs.declared.register.RegisterModule.{RegisterModule}
use Rattle.frag_tree.specs.declared.register.TruthCall.{TruthCall}
use Rattle.frag_tree.specs.declared.register.Values.{Values}
use Rattle.frag_tree.specs.declared.register.Values.TheVariants as values
use Rattle.frag_tree.specs.declared.register.Writable.{Writable}
use Rattle.frag_tree.specs.declared.register.WriteForm.TheVariants as write_form
use Rattle.frag_tree.specs.declared.register.Writer.{Writer}
use Rattle.pac_base.specs.declared.width.Width.{Width}
use Rattle.frag_tree.specs.declared.phrase.Phrase.{Phrase}
use Rattle.frag_tree.specs.declared.phrase.Phrase.TheVariants as phrase
use Rattle.frag_token.specs.declared.sign.Sign.TheVariants as sign
use Rattle.frag_tree.specs.Phrases.{receiver, receiver_mut}
use Rattle.frag_token.specs.Reading.{Found, begins_field, begins_impl, begins_pub, braced_at, decimal_at, hexadecimal_at, impl_at, kind_at, many_at, name_at, phrase_at, sign_at, sign_then, spot_at, truth_at, width_at}

-- ---- slots

unfoldable pub slot_at : List Word → Found Slot
slot_at text = do
  rest ← phrase_at phrase.Pub text
  name ← name_at rest
  rest ← phrase_at phrase.OpensPeriph name.1
  block ← name_at rest
  rest ← phrase_at phrase.BlockThenNext block.1
  address ← hexadecimal_at rest
  rest ← phrase_at phrase.ClosesSlot address.1
  Some (record { name = name.0; block = block.0; address = address.0 }, rest)

-- ---- blocks

unfoldable pub register_element_at : List Word → Found Element
register_element_at text = do
  rest ← phrase_at phrase.OpensReg text
  unit ← name_at rest
  rest ← phrase_at phrase.ClosesReg unit.1
  Some (element.Register unit.0, rest)

unfoldable pub block_element_at : List Word → Found Element
block_element_at text = do
  unit ← name_at text
  rest ← phrase_at phrase.OfBlock unit.1
  Some (element.Block unit.0, rest)

unfoldable pub element_at : List Word → Found Element
element_at text = if sign_at 1 sign.Less text then register_element_at text else block_element_at text

unfoldable pub gap_at : List Word → Found FieldType
gap_at text = do
  rest ← phrase_at phrase.OpensGap text
  bytes ← decimal_at rest
  rest ← phrase_at phrase.ClosesArray bytes.1
  Some (holds.Gap bytes.0, rest)

unfoldable pub array_at : List Word → Found FieldType
array_at text = do
  rest ← phrase_at phrase.OpensArray text
  member ← element_at rest
  rest ← phrase_at phrase.Semicolon member.1
  count ← decimal_at rest
  rest ← phrase_at phrase.ClosesArray count.1
  Some (holds.Array member.0 count.0, rest)

unfoldable pub single_at : List Word → Found FieldType
single_at text = do
  member ← element_at text
  Some (holds.One member.0, member.1)

unfoldable pub type_at : List Word → Found FieldType
type_at text = if sign_at 0 sign.Bracket text then (if sign_at 2 sign.Semicolon text then gap_at text else array_at text) else single_at text

unfoldable pub field_at : List Word → Found StructField
field_at text = do
  name ← name_at text
  rest ← phrase_at phrase.Colon name.1
  type ← type_at rest
  rest ← phrase_at phrase.Comma type.1
  Some (record { name = name.0; holds = type.0 }, rest)

unfoldable pub field_body_at : List Word → Found Body
field_body_at text = do
  rest ← phrase_at phrase.FieldOfSelf text
  field ← name_at rest
  rest ← phrase_at phrase.ClosesBody field.1
  Some (body.Field field.0, rest)

unfoldable pub member_body_at : List Word → Found Body
member_body_at text = do
  rest ← phrase_at phrase.FieldOfSelf text
  field ← name_at rest
  rest ← phrase_at phrase.ClosesMember field.1
  Some (body.Member field.0, rest)

unfoldable pub offset_body_at : List Word → Found Body
offset_body_at text = do
  rest ← phrase_at phrase.OpensAt text
  offset ← hexadecimal_at rest
  rest ← phrase_at phrase.ClosesCall offset.1
  Some (body.At offset.0, rest)

unfoldable pub strided_body_at : List Word → Found Body
strided_body_at text = do
  rest ← phrase_at phrase.OpensAtIndex text
  offset ← hexadecimal_at rest
  rest ← phrase_at phrase.ThenNext offset.1
  stride ← decimal_at rest
  rest ← phrase_at phrase.ThenNext stride.1
  count ← decimal_at rest
  rest ← phrase_at phrase.ClosesAtIndex count.1
  Some (body.AtIndex offset.0 stride.0 count.0, rest)

unfoldable pub own_body_at : List Word → Found Body
own_body_at text = if sign_at 4 sign.Closer text then field_body_at text else member_body_at text

unfoldable pub far_body_at : List Word → Found Body
far_body_at text = if sign_at 0 sign.At text then offset_body_at text else strided_body_at text

unfoldable pub body_at : List Word → Found Body
body_at text = if sign_at 0 sign.Reference text then own_body_at text else far_body_at text

unfoldable pub indexed_at : List Word → Found Bool
indexed_at text = do
  rest ← phrase_at phrase.Indexed text
  Some (true, rest)

unfoldable pub plain_at : List Word → Found Bool
plain_at text = do
  rest ← phrase_at phrase.Plain text
  Some (false, rest)

unfoldable pub index_at : List Word → Found Bool
index_at text = if sign_at 3 sign.Comma text then indexed_at text else plain_at text

unfoldable pub access_at : List Word → Found Access
access_at text = do
  rest ← phrase_at phrase.PubFn text
  name ← name_at rest
  index ← index_at name.1
  rest ← phrase_at phrase.Reference index.1
  member ← element_at rest
  rest ← phrase_at phrase.OpensBody member.1
  found ← body_at rest
  Some (record { name = name.0; is_indexed = index.0; element = member.0; body = found.0 }, found.1)

unfoldable pub head_at : List Word → Found BlockHead
head_at text = do
  rest ← phrase_at phrase.PubMod text
  name ← name_at rest
  rest ← phrase_at phrase.OpensModule name.1
  rest ← phrase_at phrase.UsePrelude rest
  rest ← phrase_at phrase.ReprC rest
  rest ← phrase_at phrase.OpensStruct rest
  fields ← braced_at begins_field field_reading.read rest
  rest ← phrase_at phrase.BlockImpl fields.1
  accessors ← braced_at begins_pub access_reading.read rest
  Some (record { name = name.0; fields = fields.0; accessors = accessors.0 }, accessors.1)

-- ---- constants and markers

unfoldable pub constant_at : Phrase → List Word → Found Constant
constant_at name text = do
  rest ← phrase_at name text
  width ← width_at rest
  rest ← phrase_at phrase.Equals width.1
  value ← hexadecimal_at rest
  rest ← phrase_at phrase.Semicolon value.1
  Some (record { width = width.0; value = value.0 }, rest)

unfoldable pub writable_at : List Word → Found Writable
writable_at text = do
  rest ← phrase_at phrase.WritableImpl text
  zeros ← constant_at phrase.ZeroToModify rest
  ones ← constant_at phrase.OneToModify zeros.1
  rest ← phrase_at phrase.Closer ones.1
  Some (record { zero_to_modify = zeros.0; one_to_modify = ones.0 }, rest)

unfoldable pub reset_at : List Word → Found Constant
reset_at text = do
  rest ← phrase_at phrase.ResettableImpl text
  constant ← constant_at phrase.ResetValue rest
  rest ← phrase_at phrase.Closer constant.1
  Some (constant.0, rest)

unfoldable pub marker_at : List Word → Found Word
marker_at text = do
  rest ← phrase_at phrase.PubStruct text
  name ← name_at rest
  rest ← phrase_at phrase.ClosesMarker name.1
  Some (name.0, rest)

-- ---- readers

-- behind the marker of a reader of a bit
unfoldable pub bit_form_at : Bool → Word → Word → List Word → Found Reader
bit_form_at indexed name marker text = do
  rest ← phrase_at phrase.NewBitReader text
  spot ← spot_at indexed rest
  rest ← phrase_at phrase.ThenMask spot.1
  mask ← hexadecimal_at rest
  rest ← phrase_at phrase.ClosesBitReader mask.1
  Some (record { name = name; marker = marker; form = read_form.Bit spot.0 mask.0 }, rest)

unfoldable pub bit_reader_at : Bool → List Word → Found Reader
bit_reader_at indexed text = do
  rest ← phrase_at phrase.PubFn text
  name ← name_at rest
  rest ← phrase_at (receiver indexed) name.1
  rest ← phrase_at phrase.OfBitReader rest
  marker ← name_at rest
  bit_form_at indexed name.0 marker.0 marker.1

-- behind the width of a reader of a number
unfoldable pub field_form_at : Bool → Word → Word → Width → List Word → Found Reader
field_form_at indexed name marker width text = do
  rest ← phrase_at phrase.NewFieldReader text
  spot ← spot_at indexed rest
  rest ← phrase_at phrase.ThenMask spot.1
  mask ← hexadecimal_at rest
  rest ← phrase_at phrase.ThenCast mask.1
  rest ← sign_then (sign.Type width) rest
  rest ← phrase_at phrase.ClosesCall rest
  Some (record { name = name; marker = marker; form = read_form.Field width spot.0 mask.0 }, rest)

unfoldable pub field_reader_at : Bool → List Word → Found Reader
field_reader_at indexed text = do
  rest ← phrase_at phrase.PubFn text
  name ← name_at rest
  rest ← phrase_at (receiver indexed) name.1
  rest ← phrase_at phrase.OfFieldReader rest
  marker ← name_at rest
  rest ← phrase_at phrase.ThenNext marker.1
  width ← width_at rest
  field_form_at indexed name.0 marker.0 width.0 width.1

unfoldable pub typed_reader_at : Bool → List Word → Found Reader
typed_reader_at indexed text = if sign_at (reader_type indexed) sign.BitReader text then bit_reader_at indexed text else field_reader_at indexed text

unfoldable pub reader_at : Version → List Word → Found Reader
reader_at version text = if takes_index version && sign_at 6 sign.Comma text then typed_reader_at true text else typed_reader_at false text

-- ---- writers

-- behind the marker of a writer of a number
unfoldable pub field_place_at : Bool → Word → Word → List Word → Found Writer
field_place_at indexed name marker text = do
  rest ← phrase_at phrase.ThenNext text
  width ← width_at rest
  rest ← phrase_at phrase.ThenNext width.1
  bits ← decimal_at rest
  rest ← phrase_at phrase.NewFieldWriter bits.1
  spot ← spot_at indexed rest
  rest ← phrase_at phrase.ClosesCall spot.1
  Some (record { name = name; marker = marker; form = write_form.Field width.0 bits.0 spot.0 }, rest)

unfoldable pub field_writer_at : Bool → List Word → Found Writer
field_writer_at indexed text = do
  rest ← phrase_at phrase.PubFn text
  name ← name_at rest
  rest ← phrase_at (receiver_mut indexed) name.1
  rest ← phrase_at phrase.OfFieldWriter rest
  marker ← name_at rest
  field_place_at indexed name.0 marker.0 marker.1

-- behind the marker of a writer of a bit
unfoldable pub bit_place_at : Bool → Word → BitKind → Word → List Word → Found Writer
bit_place_at indexed name which marker text = do
  rest ← phrase_at phrase.ThenBody text
  rest ← sign_then (sign.Kind which) rest
  rest ← phrase_at phrase.NewOnSelf rest
  spot ← spot_at indexed rest
  rest ← phrase_at phrase.ClosesCall spot.1
  Some (record { name = name; marker = marker; form = write_form.Bit which spot.0 }, rest)

unfoldable pub bit_writer_at : Bool → List Word → Found Writer
bit_writer_at indexed text = do
  rest ← phrase_at phrase.PubFn text
  name ← name_at rest
  rest ← phrase_at (receiver_mut indexed) name.1
  which ← kind_at rest
  rest ← phrase_at phrase.OfSpec which.1
  marker ← name_at rest
  bit_place_at indexed name.0 which.0 marker.0 marker.1

unfoldable pub typed_writer_at : Bool → List Word → Found Writer
typed_writer_at indexed text = if sign_at (writer_type indexed) sign.FieldWriter text then field_writer_at indexed text else bit_writer_at indexed text

unfoldable pub writer_at : Version → List Word → Found Writer
writer_at version text = if takes_index version && sign_at 7 sign.Comma text then typed_writer_at true text else typed_writer_at false text

-- ---- calls for values

unfoldable pub truth_behind_at : Phrase → Phrase → List Word → Found TruthCall
truth_behind_at middle end text = do
  rest ← phrase_at phrase.PubFn text
  name ← name_at rest
  rest ← phrase_at middle name.1
  value ← truth_at rest
  rest ← phrase_at end value.1
  Some (record { name = name.0; value = value.0 }, rest)

unfoldable pub number_behind_at : Phrase → Phrase → List Word → Found NumberCall
number_behind_at middle end text = do
  rest ← phrase_at phrase.PubFn text
  name ← name_at rest
  rest ← phrase_at middle name.1
  value ← hexadecimal_at rest
  rest ← phrase_at end value.1
  Some (record { name = name.0; value = value.0 }, rest)

unfoldable pub truth_call_at : Bool → List Word → Found TruthCall
truth_call_at reads text = if reads then truth_behind_at phrase.TestsBit phrase.ClosesBody text else truth_behind_at phrase.WritesBit phrase.ClosesCall text

unfoldable pub number_call_at : Bool → List Word → Found NumberCall
number_call_at reads text =
    if reads then number_behind_at phrase.TestsNumber phrase.ClosesBody text else number_behind_at phrase.WritesNumber phrase.ClosesCall text

-- the calls that test, or those that write
abbrev pub truth_calls : Bool → Reading TruthCall
truth_calls true = truth_test
truth_calls false = truth_write

abbrev pub number_calls : Bool → Reading NumberCall
number_calls true = number_test
number_calls false = number_write

unfoldable pub bit_reading_at : List Word → Found Values
bit_reading_at text = do
  rest ← phrase_at phrase.BitReaderImpl text
  marker ← name_at rest
  rest ← phrase_at phrase.OpensCalls marker.1
  calls ← braced_at begins_pub truth_test.read rest
  Some (values.BitReading marker.0 calls.0, calls.1)

unfoldable pub field_reading_at : List Word → Found Values
field_reading_at text = do
  rest ← phrase_at phrase.FieldReaderImpl text
  marker ← name_at rest
  rest ← phrase_at phrase.ThenNext marker.1
  width ← width_at rest
  rest ← phrase_at phrase.OpensCalls width.1
  calls ← braced_at begins_pub number_test.read rest
  Some (values.FieldReading marker.0 width.0 calls.0, calls.1)

unfoldable pub bit_writing_at : List Word → Found Values
bit_writing_at text = do
  rest ← phrase_at phrase.WriterImpl text
  which ← kind_at rest
  rest ← phrase_at phrase.OfSpecInImpl which.1
  marker ← name_at rest
  rest ← phrase_at phrase.OpensCalls marker.1
  calls ← braced_at begins_pub truth_write.read rest
  Some (values.BitWriting which.0 marker.0 calls.0, calls.1)

-- behind the width of a block that writes numbers
unfoldable pub field_bits_at : Word → Width → List Word → Found Values
field_bits_at marker width text = do
  rest ← phrase_at phrase.ThenNext text
  bits ← decimal_at rest
  rest ← phrase_at phrase.OpensCalls bits.1
  calls ← braced_at begins_pub number_write.read rest
  Some (values.FieldWriting marker width bits.0 calls.0, calls.1)

unfoldable pub field_writing_at : List Word → Found Values
field_writing_at text = do
  rest ← phrase_at phrase.FieldWriterImpl text
  marker ← name_at rest
  rest ← phrase_at phrase.ThenNext marker.1
  width ← width_at rest
  field_bits_at marker.0 width.0 width.1

unfoldable pub writing_at : List Word → Found Values
writing_at text = if sign_at 4 sign.FieldWriter text then field_writing_at text else bit_writing_at text

unfoldable pub values_at : List Word → Found Values
values_at text = if sign_at 1 sign.BitReader text then bit_reading_at text else (if sign_at 1 sign.FieldReader text then field_reading_at text else writing_at text)

-- ---- register modules

unfoldable pub readable_at : List Word → Found Bool
readable_at text = if impl_at sign.Readable text then (phrase_at phrase.ReadableImpl text >>= λ rest. Some (true, rest)) else Some (false, text)

unfoldable pub writable_part_at : List Word → Found (Option Writable)
writable_part_at text = if impl_at sign.Writable text then (writable_at text >>= λ part. Some (Some part.0, part.1)) else Some (None, text)

unfoldable pub readers_at : (version : Version) → List Word → Found (List Reader)
readers_at version text = do
  rest ← phrase_at phrase.ReadersImpl text
  calls ← braced_at begins_pub (reader_reading version).read rest
  Some (calls.0, calls.1)

unfoldable pub writers_at : (version : Version) → List Word → Found (List Writer)
writers_at version text = do
  rest ← phrase_at phrase.WritersImpl text
  calls ← braced_at begins_pub (writer_reading version).read rest
  Some (calls.0, calls.1)

unfoldable pub readers_part_at : (version : Version) → List Word → Found (Option (List Reader))
readers_part_at version text = if impl_at sign.R text then ((readers_at version) text >>= λ part. Some (Some part.0, part.1)) else Some (None, text)

unfoldable pub writers_part_at : (version : Version) → List Word → Found (Option (List Writer))
writers_part_at version text = if impl_at sign.W text then ((writers_at version) text >>= λ part. Some (Some part.0, part.1)) else Some (None, text)

-- behind the type of a register module's word
unfoldable pub parts_at : (version : Version) → Word → Width → List Word → Found RegisterModule
parts_at version name width text = do
  readable ← readable_at text
  writable ← writable_part_at readable.1
  reset ← reset_at writable.1
  markers ← many_at begins_pub marker_reading.read reset.1
  readers ← (readers_part_at version) markers.1
  writers ← (writers_part_at version) readers.1
  blocks ← braced_at begins_impl values_reading.read writers.1
  Some (record { name = name; word = width; readable = readable.0; writable = writable.0; reset = reset.0; markers = markers.0; readers = readers.0; writers = writers.0; values = blocks.0 }, blocks.1)

unfoldable pub register_at : (version : Version) → List Word → Found RegisterModule
register_at version text = do
  rest ← phrase_at phrase.PubMod text
  name ← name_at rest
  rest ← phrase_at phrase.OpensModule name.1
  rest ← phrase_at phrase.UsePrelude rest
  rest ← phrase_at phrase.SpecStruct rest
  rest ← phrase_at phrase.OpensSpec rest
  width ← width_at rest
  rest ← phrase_at phrase.ClosesSpec width.1
  (parts_at version) name.0 width.0 rest
