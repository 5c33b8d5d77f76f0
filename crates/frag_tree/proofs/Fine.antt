-- The lines of the printed form are told apart into their words.
use Rattle.std.proofs.Common.{ℕ, ◌≡◌, ◌≤◌, ◌<◌, ◌+◌, ◌/◌, ◌%◌, ◌^◌, List, [], ◌∷◌, ◌++◌, length, Bool, true, false, Option, Some, None, refl, map, arith, zero, suc}
use Rattle.std.specs.Prelude.{nat_le, ◌&&◌, ◌||◌, ◌==◌, not, codes, if◌then◌else◌}
use Rattle.std.specs.Fmt.{digits, digits_onto, digit_glyph}
use Rattle.std.specs.List.{flat_map, list_all}
use Rattle.std.specs.Str.{bytes_eq}
use Rattle.std.proofs.lemmas.Bool.Decides.{nat_tests, Decides-ltb}
use Rattle.std.proofs.lemmas.Fmt.{decimal_nonempty}
use Rattle.pac_base.specs.Names.{is_word_byte}
use Rattle.pac_base.specs.declared.width.Width.{Width}
use Rattle.pac_base.specs.declared.width.Width.TheVariants.{W8, W16, W32, W64}
use Rattle.frag_words.specs.Lines.{Piece, Line, text, word, fixed, braced}
use Rattle.frag_words.specs.Words.{Word, words_in}
use Rattle.frag_words.specs.Joined.{is_run, is_joined, Runs, IsFine, AreFine}
use Rattle.frag_words.proofs.Joints.{words_of_lines, fine-append, fine-map, fine-flat_map}
use Rattle.frag_words.proofs.Readings.{both, both_left, both_right}
use Rattle.frag_tree.specs.declared.krate.Version.{Version}
use Rattle.frag_tree.specs.Phrases.{text_of, says, receiver}
use Rattle.frag_tree.specs.declared.phrase.Phrase.TheVariants as phrase
use Rattle.frag_tree.specs.declared.access.Access.{Access}
use Rattle.frag_tree.specs.declared.access.Body.{Body}
use Rattle.frag_tree.specs.declared.access.Body.TheVariants as body
use Rattle.frag_tree.specs.declared.block.Element.{Element}
use Rattle.frag_tree.specs.declared.block.Element.TheVariants as element
use Rattle.frag_tree.specs.declared.block.FieldType.{FieldType}
use Rattle.frag_tree.specs.declared.block.FieldType.TheVariants as holds
use Rattle.frag_tree.specs.declared.block.StructField.{StructField}
use Rattle.frag_tree.specs.declared.krate.Slot.{Slot}
use Rattle.frag_tree.specs.declared.register.BitKind.{BitKind}
use Rattle.frag_tree.specs.declared.register.BitKind.TheVariants as kind
use Rattle.frag_tree.specs.declared.register.Constant.{Constant}
use Rattle.frag_tree.specs.declared.register.NumberCall.{NumberCall}
use Rattle.frag_tree.specs.declared.register.ReadForm.{ReadForm}
use Rattle.frag_tree.specs.declared.register.ReadForm.TheVariants as read
use Rattle.frag_tree.specs.declared.register.Reader.{Reader}
use Rattle.frag_tree.specs.declared.register.RegisterModule.{RegisterModule}
use Rattle.frag_tree.specs.declared.register.Spot.{Spot}
use Rattle.frag_tree.specs.declared.register.Spot.TheVariants.{Fixed, Indexed}
use Rattle.frag_tree.specs.declared.krate.Version.TheVariants.{One, Two}
use Rattle.frag_tree.specs.declared.register.TruthCall.{TruthCall}
use Rattle.frag_tree.specs.declared.register.Values.{Values}
use Rattle.frag_tree.specs.declared.register.Values.TheVariants as values
use Rattle.frag_tree.specs.declared.register.Writable.{Writable}
use Rattle.frag_tree.specs.declared.register.WriteForm.{WriteForm}
use Rattle.frag_tree.specs.declared.register.WriteForm.TheVariants as write
use Rattle.frag_tree.specs.declared.register.Writer.{Writer}
use Rattle.frag_tree.specs.Blocks.{element_pieces, type_pieces, array_pieces, field_line, body_pieces, access_line, struct_lines, accessor_lines, opening_lines, modules_lines}
use Rattle.frag_tree.specs.Crates.{slot_line, slots_lines, top_lines, version_lines, crate_lines, printed, crate_words}
use Rattle.rust_names.specs.Identifiers.{is_identifier, is_start}
use Rattle.rust_names.specs.Keywords.{is_keyword}
use Rattle.frag_tree.specs.Numerals.{hexadecimal_word, decimal_word, width_word, truth_word, decimal}
use Rattle.frag_tree.specs.Registers.{kind_word, writable_lines, reset_line, marker_line, reader_line, writer_line, spot_pieces, readable_lines, readers_lines, writers_lines, truth_call_line, number_call_line, opening_pieces, values_lines, part_lines, register_lines}
use Rattle.frag_tree.specs.Trees.{BlockHead, BlockTree, CrateTree, Modules, ended, register, block, spot_read, spot_written}
use Rattle.frag_tree.specs.Validity.{is_number, valid_slot, valid_element, valid_type, valid_field, valid_body, valid_access, valid_constant, valid_writable, stands_in, valid_spot, valid_read, valid_reader, valid_write, valid_writer, valid_truth, valid_number, valid_values, valid_option, valid_register, valid_head, valid_modules, valid_block, valid_crate}

-- ---- words that are runs

more_words : (p d z : Bool) → (p || z) ≡ true → ((p || d) || z) ≡ true
more_words true d z h = refl
more_words false true z h = refl
more_words false false z h = h

start_word : (b : ℕ) → is_start b ≡ true → is_word_byte b ≡ true
start_word b h = more_words ((nat_le 65 b && nat_le b 90) || (nat_le 97 b && nat_le b 122)) (nat_le 48 b && nat_le b 57) (b == 95) h

identifier_run : (name : Word) → is_identifier name ≡ true → is_run name ≡ true
identifier_run [] valid = absurd cc
identifier_run (first ∷ others) valid =
    let front = both_left (is_start first && list_all is_word_byte others) (not (bytes_eq (first ∷ others) (codes "_"))) (both_left ((is_start first && list_all is_word_byte others) && not (bytes_eq (first ∷ others) (codes "_"))) (not (is_keyword (first ∷ others))) valid) in
    both (is_word_byte first) (list_all is_word_byte others) (start_word first (both_left (is_start first) (list_all is_word_byte others) front)) (both_right (is_start first) (list_all is_word_byte others) front)

glyph_word : (d : ℕ) → d < 16 → is_word_byte (digit_glyph false d) ≡ true
glyph_word d small = grind (arith, nat_tests, small)

on_last : (last : Bool) (one other : List ℕ) → list_all is_word_byte one ≡ true → list_all is_word_byte other ≡ true → list_all is_word_byte (if last then one else other) ≡ true
on_last true one other h k = h
on_last false one other h k = k

onto_words : (base k n : ℕ) (acc : List ℕ) → 0 < base → base ≤ 16 → list_all is_word_byte acc ≡ true → list_all is_word_byte (digits_onto k base false n acc) ≡ true
onto_words base zero n acc some few all = all
onto_words base (suc k) n acc some few all =
    let low : n % base < 16 = omega arith in
    let more = both (is_word_byte (digit_glyph false (n % base))) (list_all is_word_byte acc) (glyph_word (n % base) low) all in
    on_last (n / base == 0) (digit_glyph false (n % base) ∷ acc) (digits_onto k base false (n / base) (digit_glyph false (n % base) ∷ acc)) more (onto_words base k (n / base) (digit_glyph false (n % base) ∷ acc) some few more)

hexadecimal_run : (number : ℕ) → is_run (hexadecimal_word number) ≡ true
unfolding digits
hexadecimal_run number = onto_words 16 64 number [] (omega arith) (omega arith) refl

run_of_all : (bytes : List ℕ) → list_all is_word_byte bytes ≡ true → 0 < length bytes → is_run bytes ≡ true
run_of_all [] all some = absurd (omega (arith, some))
run_of_all (first ∷ others) all some = all

decimal_run : (number : ℕ) → is_number number ≡ true → is_run (decimal_word number) ≡ true
unfolding digits
decimal_run number valid = run_of_all (decimal_word number) (onto_words 10 64 number [] (omega arith) (omega arith) refl) (decimal_nonempty number ((Decides-ltb number (2 ^ 64)).0 valid))

width_run : (bits : Width) → is_run (width_word bits) ≡ true
width_run W8 = refl
width_run W16 = refl
width_run W32 = refl
width_run W64 = refl

truth_run : (value : Bool) → is_run (truth_word value) ≡ true
truth_run true = refl
truth_run false = refl

kind_run : (kind : BitKind) → is_run (kind_word kind) ≡ true
kind_run kind.Plain = refl
kind_run kind.OneToSet = refl
kind_run kind.ZeroToClear = refl
kind_run kind.OneToClear = refl
kind_run kind.ZeroToSet = refl
kind_run kind.OneToToggle = refl
kind_run kind.ZeroToToggle = refl

runs-append : (pieces more : List Piece) → Runs pieces → Runs more → Runs (pieces ++ more)
runs-append [] more runs of_more = of_more
runs-append (text bytes ∷ pieces) more runs of_more = runs-append pieces more runs of_more
runs-append (word w ∷ pieces) more runs of_more = (runs.0, runs-append pieces more runs.1 of_more)

-- ---- slots and blocks

slot_fine : (depth : ℕ) (slot : Slot) → valid_slot slot ≡ true → IsFine (slot_line depth slot)
slot_fine depth slot valid =
    let more = both_right (is_identifier slot.name) (is_identifier slot.block && is_number slot.address) valid in
    record {
      joined = refl;
      runs = (identifier_run slot.name (both_left (is_identifier slot.name) (is_identifier slot.block && is_number slot.address) valid), (identifier_run slot.block (both_left (is_identifier slot.block) (is_number slot.address) more), (hexadecimal_run slot.address, tt)));
    }

element_runs : (element : Element) → valid_element element ≡ true → Runs (element_pieces element)
element_runs (element.Register unit) valid = (identifier_run unit valid, tt)
element_runs (element.Block unit) valid = (identifier_run unit valid, tt)

type_runs : (holds : FieldType) → valid_type holds ≡ true → Runs (type_pieces holds)
type_runs (holds.One element) valid = element_runs element valid
type_runs (holds.Array element count) valid = runs-append (element_pieces element) (says phrase.Semicolon ∷ decimal count ∷ says phrase.ClosesArray ∷ []) (element_runs element (both_left (valid_element element) (is_number count) valid)) (decimal_run count (both_right (valid_element element) (is_number count) valid), tt)
type_runs (holds.Gap bytes) valid = (decimal_run bytes valid, tt)

array_joined : (name : Word) (element : Element) (count : ℕ) → is_joined (word name ∷ says phrase.Colon ∷ (array_pieces element count ++ says phrase.Comma ∷ [])) ≡ true
array_joined name (element.Register unit) count = refl
array_joined name (element.Block unit) count = refl

one_joined : (name : Word) (element : Element) → is_joined (word name ∷ says phrase.Colon ∷ (element_pieces element ++ says phrase.Comma ∷ [])) ≡ true
one_joined name (element.Register unit) = refl
one_joined name (element.Block unit) = refl

type_joined : (name : Word) (holds : FieldType) → is_joined (word name ∷ says phrase.Colon ∷ (type_pieces holds ++ says phrase.Comma ∷ [])) ≡ true
type_joined name (holds.One element) = one_joined name element
type_joined name (holds.Array element count) = array_joined name element count
type_joined name (holds.Gap bytes) = refl

field_fine : (depth : ℕ) (field : StructField) → valid_field field ≡ true → IsFine (field_line depth field)
field_fine depth field valid = record {
  joined = type_joined field.name field.holds;
  runs = (identifier_run field.name (both_left (is_identifier field.name) (valid_type field.holds) valid), runs-append (type_pieces field.holds) (says phrase.Comma ∷ []) (type_runs field.holds (both_right (is_identifier field.name) (valid_type field.holds) valid)) tt);
}

body_runs : (body : Body) → valid_body body ≡ true → Runs (body_pieces body)
body_runs (body.Field field) valid = (identifier_run field valid, tt)
body_runs (body.Member field) valid = (identifier_run field valid, tt)
body_runs (body.At offset) valid = (hexadecimal_run offset, tt)
body_runs (body.AtIndex offset stride count) valid =
    let more = both_right (is_number offset) (is_number stride && is_number count) valid in
    (hexadecimal_run offset, (decimal_run stride (both_left (is_number stride) (is_number count) more), (decimal_run count (both_right (is_number stride) (is_number count) more), tt)))

body_joined : (body : Body) → is_joined (says phrase.OpensBody ∷ body_pieces body) ≡ true
body_joined (body.Field f) = refl
body_joined (body.Member f) = refl
body_joined (body.At offset) = refl
body_joined (body.AtIndex offset stride count) = refl

access_joined : (name : Word) (is_indexed : Bool) (element : Element) (body : Body) → is_joined (says phrase.PubFn ∷ word name ∷ says (receiver is_indexed) ∷ says phrase.Reference ∷ (element_pieces element ++ says phrase.OpensBody ∷ body_pieces body)) ≡ true
access_joined name true (element.Register unit) body = body_joined body
access_joined name true (element.Block unit) body = body_joined body
access_joined name false (element.Register unit) body = body_joined body
access_joined name false (element.Block unit) body = body_joined body

access_fine : (depth : ℕ) (access : Access) → valid_access access ≡ true → IsFine (access_line depth access)
access_fine depth access valid =
    let more = both_right (is_identifier access.name) (valid_element access.element && valid_body access.body) valid in
    record {
      joined = access_joined access.name access.is_indexed access.element access.body;
      runs = (
        identifier_run access.name (both_left (is_identifier access.name) (valid_element access.element && valid_body access.body) valid),
        runs-append (element_pieces access.element) (says phrase.OpensBody ∷ body_pieces access.body) (element_runs access.element (both_left (valid_element access.element) (valid_body access.body) more))
            (body_runs access.body (both_right (valid_element access.element) (valid_body access.body) more)),
      );
    }

-- ---- registers

writable_fine : (depth : ℕ) (masks : Option Writable) → AreFine (writable_lines depth masks)
writable_fine depth None = tt
writable_fine depth (Some masks) = (
  record {
    joined = refl;
    runs = (width_run masks.zero_to_modify.width, (hexadecimal_run masks.zero_to_modify.value, (width_run masks.one_to_modify.width, (hexadecimal_run masks.one_to_modify.value, tt))));
  },
  tt,
)

reset_fine : (depth : ℕ) (constant : Constant) → IsFine (reset_line depth constant)
reset_fine depth constant = record { joined = refl; runs = (width_run constant.width, (hexadecimal_run constant.value, tt)) }

marker_fine : (depth : ℕ) (marker : Word) → is_identifier marker ≡ true → IsFine (marker_line depth marker)
marker_fine depth marker valid = record { joined = refl; runs = (identifier_run marker valid, tt) }

spot_runs : (spot : Spot) (after : List Piece) → valid_spot spot ≡ true → Runs after → Runs (spot_pieces spot ++ after)
spot_runs (Fixed place) after valid runs = (decimal_run place valid, runs)
spot_runs (Indexed offset step count) after valid runs =
    let more = both_right (is_number offset) (is_number step && is_number count) valid in
    (decimal_run offset (both_left (is_number offset) (is_number step && is_number count) valid), (decimal_run step (both_left (is_number step) (is_number count) more), (decimal_run count (both_right (is_number step) (is_number count) more), runs)))

read_joined : (depth : ℕ) (name marker : Word) (form : ReadForm) → is_joined (reader_line depth (record { name = name; marker = marker; form = form })).pieces ≡ true
read_joined depth name marker (read.Bit (Fixed place) mask) = refl
read_joined depth name marker (read.Bit (Indexed offset step count) mask) = refl
read_joined depth name marker (read.Field bits (Fixed place) mask) = refl
read_joined depth name marker (read.Field bits (Indexed offset step count) mask) = refl

read_runs : (depth : ℕ) (name marker : Word) (form : ReadForm) → is_identifier name ≡ true → is_identifier marker ≡ true → valid_read form ≡ true → Runs (reader_line depth (record { name = name; marker = marker; form = form })).pieces
read_runs depth name marker (read.Bit spot mask) of_name of_marker valid =
    (identifier_run name of_name, (identifier_run marker of_marker, spot_runs spot _ (both_left (valid_spot spot) (is_number mask) valid) (hexadecimal_run mask, tt)))
read_runs depth name marker (read.Field bits spot mask) of_name of_marker valid =
    (identifier_run name of_name, (identifier_run marker of_marker, (width_run bits, spot_runs spot _ (both_left (valid_spot spot) (is_number mask) valid) (hexadecimal_run mask, (width_run bits, tt)))))

reader_fine : (version : Version) (depth : ℕ) (reader : Reader) → valid_reader version reader ≡ true → IsFine (reader_line depth reader)
reader_fine version depth reader valid =
    let named = both_right (stands_in version (spot_read reader.form)) (is_identifier reader.name && (is_identifier reader.marker && valid_read reader.form)) valid in
    let more = both_right (is_identifier reader.name) (is_identifier reader.marker && valid_read reader.form) named in
    record {
      joined = read_joined depth reader.name reader.marker reader.form;
      runs = read_runs depth reader.name reader.marker reader.form (both_left (is_identifier reader.name) (is_identifier reader.marker && valid_read reader.form) named) (both_left (is_identifier reader.marker) (valid_read reader.form) more) (both_right (is_identifier reader.marker) (valid_read reader.form) more);
    }

write_joined : (depth : ℕ) (name marker : Word) (form : WriteForm) → is_joined (writer_line depth (record { name = name; marker = marker; form = form })).pieces ≡ true
write_joined depth name marker (write.Bit kind (Fixed place)) = refl
write_joined depth name marker (write.Bit kind (Indexed offset step count)) = refl
write_joined depth name marker (write.Field bits wide (Fixed place)) = refl
write_joined depth name marker (write.Field bits wide (Indexed offset step count)) = refl

write_runs : (depth : ℕ) (name marker : Word) (form : WriteForm) → is_identifier name ≡ true → is_identifier marker ≡ true → valid_write form ≡ true → Runs (writer_line depth (record { name = name; marker = marker; form = form })).pieces
write_runs depth name marker (write.Bit kind spot) of_name of_marker valid =
    (identifier_run name of_name, (kind_run kind, (identifier_run marker of_marker, (kind_run kind, spot_runs spot _ valid tt))))
write_runs depth name marker (write.Field bits wide spot) of_name of_marker valid =
    (identifier_run name of_name, (identifier_run marker of_marker, (width_run bits, (decimal_run wide (both_left (is_number wide) (valid_spot spot) valid), spot_runs spot _ (both_right (is_number wide) (valid_spot spot) valid) tt))))

writer_fine : (version : Version) (depth : ℕ) (writer : Writer) → valid_writer version writer ≡ true → IsFine (writer_line depth writer)
writer_fine version depth writer valid =
    let named = both_right (stands_in version (spot_written writer.form)) (is_identifier writer.name && (is_identifier writer.marker && valid_write writer.form)) valid in
    let more = both_right (is_identifier writer.name) (is_identifier writer.marker && valid_write writer.form) named in
    record {
      joined = write_joined depth writer.name writer.marker writer.form;
      runs = write_runs depth writer.name writer.marker writer.form (both_left (is_identifier writer.name) (is_identifier writer.marker && valid_write writer.form) named) (both_left (is_identifier writer.marker) (valid_write writer.form) more) (both_right (is_identifier writer.marker) (valid_write writer.form) more);
    }

-- ---- lists in braces

closing_fine : (depth : ℕ) → AreFine (fixed depth (text_of phrase.Closer) ∷ [])
closing_fine depth = (record { joined = refl; runs = tt }, tt)

braced_fine : (depth : ℕ) (opening : List Piece) (within : List Line) → is_joined opening ≡ true → Runs opening → AreFine within → AreFine (braced depth opening within)
braced_fine depth opening within joined runs fine = (record { joined = joined; runs = runs }, fine-append within (fixed depth (text_of phrase.Closer) ∷ []) fine (closing_fine depth))

-- ---- values

truth_fine : (depth : ℕ) (reads : Bool) (call : TruthCall) → valid_truth call ≡ true → IsFine (truth_call_line depth reads call)
truth_fine depth true call valid = record { joined = refl; runs = (identifier_run call.name valid, (truth_run call.value, tt)) }
truth_fine depth false call valid = record { joined = refl; runs = (identifier_run call.name valid, (truth_run call.value, tt)) }

number_fine : (depth : ℕ) (reads : Bool) (call : NumberCall) → valid_number call ≡ true → IsFine (number_call_line depth reads call)
number_fine depth true call valid = record { joined = refl; runs = (identifier_run call.name (both_left (is_identifier call.name) (is_number call.value) valid), (hexadecimal_run call.value, tt)) }
number_fine depth false call valid = record { joined = refl; runs = (identifier_run call.name (both_left (is_identifier call.name) (is_number call.value) valid), (hexadecimal_run call.value, tt)) }

values_fine : (depth : ℕ) (block : Values) → valid_values block ≡ true → AreFine (values_lines depth block)
values_fine depth (values.BitReading marker calls) valid =
    braced_fine depth (opening_pieces (values.BitReading marker calls)) (map (truth_call_line (depth + 1) true) calls) refl
    (identifier_run marker (both_left (is_identifier marker) (list_all valid_truth calls) valid), tt)
    (fine-map valid_truth (truth_call_line (depth + 1) true) (truth_fine (depth + 1) true) calls (both_right (is_identifier marker) (list_all valid_truth calls) valid))
values_fine depth (values.FieldReading marker bits calls) valid =
    braced_fine depth (opening_pieces (values.FieldReading marker bits calls)) (map (number_call_line (depth + 1) true) calls) refl
    (identifier_run marker (both_left (is_identifier marker) (list_all valid_number calls) valid), (width_run bits, tt))
    (fine-map valid_number (number_call_line (depth + 1) true) (number_fine (depth + 1) true) calls (both_right (is_identifier marker) (list_all valid_number calls) valid))
values_fine depth (values.BitWriting kind marker calls) valid =
    braced_fine depth (opening_pieces (values.BitWriting kind marker calls)) (map (truth_call_line (depth + 1) false) calls) refl
    (kind_run kind, (identifier_run marker (both_left (is_identifier marker) (list_all valid_truth calls) valid), tt))
    (fine-map valid_truth (truth_call_line (depth + 1) false) (truth_fine (depth + 1) false) calls (both_right (is_identifier marker) (list_all valid_truth calls) valid))
values_fine depth (values.FieldWriting marker bits wide calls) valid =
    let more = both_right (is_identifier marker) (is_number wide && list_all valid_number calls) valid in
    braced_fine depth (opening_pieces (values.FieldWriting marker bits wide calls)) (map (number_call_line (depth + 1) false) calls) refl
    (identifier_run marker (both_left (is_identifier marker) (is_number wide && list_all valid_number calls) valid), (width_run bits, (decimal_run wide (both_left (is_number wide) (list_all valid_number calls) more), tt)))
    (fine-map valid_number (number_call_line (depth + 1) false) (number_fine (depth + 1) false) calls (both_right (is_number wide) (list_all valid_number calls) more))

-- ---- register modules

readable_fine : (depth : ℕ) (readable : Bool) → AreFine (readable_lines depth readable)
readable_fine depth true = (record { joined = refl; runs = tt }, tt)
readable_fine depth false = tt

readers_fine : (version : Version) → (depth : ℕ) (readers : Option (List Reader)) → valid_option (list_all (valid_reader version)) readers ≡ true → AreFine (readers_lines depth readers)
readers_fine version depth None valid = tt
readers_fine version depth (Some calls) valid = braced_fine depth (says phrase.ReadersImpl ∷ []) (map (reader_line (depth + 1)) calls) refl tt (fine-map (valid_reader version) (reader_line (depth + 1)) ((reader_fine version) (depth + 1)) calls valid)

writers_fine : (version : Version) → (depth : ℕ) (writers : Option (List Writer)) → valid_option (list_all (valid_writer version)) writers ≡ true → AreFine (writers_lines depth writers)
writers_fine version depth None valid = tt
writers_fine version depth (Some calls) valid = braced_fine depth (says phrase.WritersImpl ∷ []) (map (writer_line (depth + 1)) calls) refl tt (fine-map (valid_writer version) (writer_line (depth + 1)) ((writer_fine version) (depth + 1)) calls valid)

register_fine : (version : Version) → (depth : ℕ) (unit : RegisterModule) → (valid_register version) unit ≡ true → AreFine (register_lines depth unit)
unfolding valid_register register_lines
register_fine version depth unit valid =
    let d = depth + 1 in
    let rest_writable = valid_constant unit.reset && (list_all is_identifier unit.markers && (valid_option (list_all (valid_reader version)) unit.readers && (valid_option (list_all (valid_writer version)) unit.writers && list_all valid_values unit.values))) in
    let name = both_left (is_identifier unit.name) (valid_option valid_writable unit.writable && rest_writable) valid in
    let v1 = both_right (is_identifier unit.name) (valid_option valid_writable unit.writable && rest_writable) valid in
    let v2 = both_right (valid_option valid_writable unit.writable) rest_writable v1 in
    let v3 = both_right (valid_constant unit.reset) (list_all is_identifier unit.markers && (valid_option (list_all (valid_reader version)) unit.readers && (valid_option (list_all (valid_writer version)) unit.writers && list_all valid_values unit.values))) v2 in
    let of_markers = both_left (list_all is_identifier unit.markers) (valid_option (list_all (valid_reader version)) unit.readers && (valid_option (list_all (valid_writer version)) unit.writers && list_all valid_values unit.values)) v3 in
    let v4 = both_right (list_all is_identifier unit.markers) (valid_option (list_all (valid_reader version)) unit.readers && (valid_option (list_all (valid_writer version)) unit.writers && list_all valid_values unit.values)) v3 in
    let of_readers = both_left (valid_option (list_all (valid_reader version)) unit.readers) (valid_option (list_all (valid_writer version)) unit.writers && list_all valid_values unit.values) v4 in
    let v5 = both_right (valid_option (list_all (valid_reader version)) unit.readers) (valid_option (list_all (valid_writer version)) unit.writers && list_all valid_values unit.values) v4 in
    let of_writers = both_left (valid_option (list_all (valid_writer version)) unit.writers) (list_all valid_values unit.values) v5 in
    let of_values = both_right (valid_option (list_all (valid_writer version)) unit.writers) (list_all valid_values unit.values) v5 in
    let values = flat_map (values_lines d) unit.values in
    let writers = writers_lines d unit.writers in
    let readers = readers_lines d unit.readers in
    let markers = map (marker_line d) unit.markers in
    let writable = writable_lines d unit.writable in
    let readable = readable_lines d unit.readable in
    let fine_values = fine-flat_map valid_values (values_lines d) (values_fine d) unit.values of_values in
    let fine_writers = fine-append writers values ((writers_fine version) d unit.writers of_writers) fine_values in
    let fine_readers = fine-append readers (writers ++ values) ((readers_fine version) d unit.readers of_readers) fine_writers in
    let fine_markers = fine-append markers (readers ++ (writers ++ values)) (fine-map is_identifier (marker_line d) (marker_fine d) unit.markers of_markers) fine_readers in
    let fine_writable = fine-append writable (reset_line d unit.reset ∷ (markers ++ (readers ++ (writers ++ values)))) (writable_fine d unit.writable) (reset_fine d unit.reset, fine_markers) in
    let fine_readable = fine-append readable (writable ++ (reset_line d unit.reset ∷ (markers ++ (readers ++ (writers ++ values))))) (readable_fine d unit.readable) fine_writable in
    braced_fine depth (says phrase.PubMod ∷ word unit.name ∷ says phrase.OpensModule ∷ []) (part_lines d unit) refl (identifier_run unit.name name, tt)
    (record { joined = refl; runs = tt }, (record { joined = refl; runs = tt }, (record { joined = refl; runs = (width_run unit.word, tt) }, fine_readable)))

-- ---- block modules

opening_fine : (depth : ℕ) (head : BlockHead) → valid_head head ≡ true → AreFine (opening_lines depth head)
unfolding opening_lines
opening_fine depth head valid =
    let d = depth + 1 in
    let more = both_right (is_identifier head.name) (list_all valid_field head.fields && list_all valid_access head.accessors) valid in (
      record { joined = refl; runs = (identifier_run head.name (both_left (is_identifier head.name) (list_all valid_field head.fields && list_all valid_access head.accessors) valid), tt) },
      (
        record { joined = refl; runs = tt },
        fine-append (struct_lines d head.fields) (accessor_lines d head.accessors)
            (record { joined = refl; runs = tt }, braced_fine d (says phrase.OpensStruct ∷ []) (map (field_line (d + 1)) head.fields) refl tt (fine-map valid_field (field_line (d + 1)) (field_fine (d + 1)) head.fields (both_left (list_all valid_field head.fields) (list_all valid_access head.accessors) more)))
            (braced_fine d (says phrase.BlockImpl ∷ []) (map (access_line (d + 1)) head.accessors) refl tt (fine-map valid_access (access_line (d + 1)) (access_fine (d + 1)) head.accessors (both_right (list_all valid_field head.fields) (list_all valid_access head.accessors) more))),
      ),
    )

modules_fine : (version : Version) → (depth : ℕ) (modules : Modules) → (valid_modules version) modules ≡ true → AreFine (modules_lines depth modules)
unfolding modules_lines valid_modules
modules_fine version depth ended valid = tt
modules_fine version depth (register unit others) valid =
    fine-append (register_lines depth unit) (modules_lines depth others) ((register_fine version) depth unit (both_left ((valid_register version) unit) ((valid_modules version) others) valid)) ((modules_fine version) depth others (both_right ((valid_register version) unit) ((valid_modules version) others) valid))
modules_fine version depth (block head inside others) valid =
    let more = both_right (valid_head head) ((valid_modules version) inside && (valid_modules version) others) valid in
    fine-append (opening_lines depth head ++ (modules_lines (depth + 1) inside ++ fixed depth (text_of phrase.Closer) ∷ [])) (modules_lines depth others)
    (fine-append (opening_lines depth head) (modules_lines (depth + 1) inside ++ fixed depth (text_of phrase.Closer) ∷ []) (opening_fine depth head (both_left (valid_head head) ((valid_modules version) inside && (valid_modules version) others) valid))
    (fine-append (modules_lines (depth + 1) inside) (fixed depth (text_of phrase.Closer) ∷ []) ((modules_fine version) (depth + 1) inside (both_left ((valid_modules version) inside) ((valid_modules version) others) more)) (closing_fine depth)))
    ((modules_fine version) depth others (both_right ((valid_modules version) inside) ((valid_modules version) others) more))

block_fine : (version : Version) → (unit : BlockTree) → (valid_block version) unit ≡ true → AreFine (top_lines unit)
block_fine version unit valid = (
  record { joined = refl; runs = tt },
  fine-append (opening_lines 0 unit.head) (modules_lines 1 unit.inside ++ fixed 0 (text_of phrase.Closer) ∷ []) (opening_fine 0 unit.head (both_left (valid_head unit.head) ((valid_modules version) unit.inside) valid))
      (fine-append (modules_lines 1 unit.inside) (fixed 0 (text_of phrase.Closer) ∷ []) ((modules_fine version) 1 unit.inside (both_right (valid_head unit.head) ((valid_modules version) unit.inside) valid)) (closing_fine 0)),
)

-- ---- the crate

version_fine : (version : Version) → AreFine (version_lines version)
version_fine One = tt
version_fine Two = (record { joined = refl; runs = tt }, tt)

crate_fine : (krate : CrateTree) → valid_crate krate ≡ true → AreFine (crate_lines krate)
unfolding crate_lines
crate_fine krate valid =
    fine-append (version_lines krate.version) (slots_lines krate.slots ++ flat_map top_lines krate.blocks) (version_fine krate.version)
    (fine-append (slots_lines krate.slots) (flat_map top_lines krate.blocks)
    (record { joined = refl; runs = tt }, (record { joined = refl; runs = tt }, braced_fine 0 (says phrase.OpensPeripherals ∷ []) (map (slot_line 1) krate.slots) refl tt (fine-map valid_slot (slot_line 1) (slot_fine 1) krate.slots (both_left (list_all valid_slot krate.slots) (list_all (valid_block krate.version) krate.blocks) valid))))
    (fine-flat_map (valid_block krate.version) top_lines (block_fine krate.version) krate.blocks (both_right (list_all valid_slot krate.slots) (list_all (valid_block krate.version) krate.blocks) valid)))

-- The words of the printed form of a valid crate are those of its productions.
pub printed_words : (krate : CrateTree) → valid_crate krate ≡ true → words_in (printed krate) ≡ crate_words krate
printed_words krate valid = words_of_lines (crate_lines krate) (crate_fine krate valid)
