-- The productions of register modules are exact.
use Rattle.std.proofs.Common.{ℕ, ◌≡◌, List, ◌++◌, Bool, true, false, inl, inr, refl, sym, ap, ◌∙◌}
use Rattle.std.specs.Prelude.{◌&&◌, codes}
use Rattle.std.proofs.Math.Bool.{and-true}
use Rattle.frag_words.specs.Lines.{line_words}
use Rattle.frag_words.specs.Readings.{IsExact, mapped, only_if, restated, word_is}
use Rattle.frag_words.specs.Words.{Word, words_behind}
use Rattle.frag_words.proofs.Readings.{Tells, behind_exact, both, both_left, both_right, followed_exact, given, pair_exact, mapped_exact, either_exact, some_is}
use Rattle.frag_words.proofs.Further.{Sides, only_if_exact, restated_exact, told_apart_exact, within_exact}
use Rattle.pac_base.specs.declared.width.Width.{Width}
use Rattle.frag_tree.specs.Phrases.{words_of, receiver, receiver_mut}
use Rattle.frag_tree.specs.Trees.{is_indexed, spot_read, spot_written, takes_index}
use Rattle.frag_tree.specs.declared.krate.Version.{Version}
use Rattle.frag_tree.specs.declared.phrase.Phrase.{Phrase}
use Rattle.frag_tree.specs.declared.register.Spot.{Spot}
use Rattle.frag_tree.specs.declared.register.Spot.TheVariants.{Fixed, Indexed}
use Rattle.frag_tree.specs.declared.phrase.Phrase.TheVariants as phrase
use Rattle.frag_tree.specs.declared.register.BitKind.{BitKind}
use Rattle.frag_tree.specs.declared.register.BitKind.TheVariants as kind
use Rattle.frag_tree.specs.declared.register.Constant.{Constant}
use Rattle.frag_tree.specs.declared.register.NumberCall.{NumberCall}
use Rattle.frag_tree.specs.declared.register.ReadForm.{ReadForm}
use Rattle.frag_tree.specs.declared.register.ReadForm.TheVariants as read
use Rattle.frag_tree.specs.declared.register.Reader.{Reader}
use Rattle.frag_tree.specs.declared.register.TruthCall.{TruthCall}
use Rattle.frag_tree.specs.declared.register.Writable.{Writable}
use Rattle.frag_tree.specs.declared.register.WriteForm.{WriteForm}
use Rattle.frag_tree.specs.declared.register.WriteForm.TheVariants as write
use Rattle.frag_tree.specs.declared.register.Writer.{Writer}
use Rattle.rust_names.specs.Identifiers.{is_identifier}
use Rattle.frag_tree.specs.Productions.{identifier, hexadecimal_reading, decimal_reading, width_reading, truth_reading, kind_reading}
use Rattle.frag_tree.specs.RegisterProductions.{constant_of, constant_parts, constant_reading, writable_words, writable_of, writable_parts, writable_raw, writable_reading, reset_words, reset_raw, reset_reading, marker_reading, at_bit_raw, at_bit_reading, indexed_of, indexed_parts, fixed_part, place_reading, spot_reading, bit_reader_raw, field_reader_raw, cast_words, reader_words, ReaderParts, reader_of, read_parts, reader_parts, reader_indexed, reader_type, reader_raw_of, reader_begins, reader_raw, reader_reading, field_writer_raw, bit_writer_raw, again_words, writer_words, WriterParts, writer_of, write_parts, writer_parts, writer_indexed, writer_type, writer_raw_of, writer_begins, writer_raw, writer_reading, truth_of, truth_parts, truth_raw, truth_test, truth_write, number_of, number_parts, number_raw, number_test, number_write}
use Rattle.frag_tree.specs.Registers.{truth_test_line, truth_write_line, number_test_line, number_write_line}
use Rattle.frag_tree.specs.Validity.{is_number, valid_constant, valid_writable, stands_in, valid_reader, valid_read, valid_spot, valid_writer, valid_write, valid_truth, valid_number}
use Rattle.frag_tree.proofs.Productions.{identifier_exact, hexadecimal_exact, decimal_exact, width_exact, truth_exact, kind_exact}

-- ---- constants

pub constant_exact : (name : Phrase) → IsExact Constant (constant_reading name)
constant_exact name = mapped_exact constant_of constant_parts _ (λ tree. refl) (λ tree. refl)
    (behind_exact (words_of name) _ (pair_exact width_reading _ width_exact (behind_exact (words_of phrase.Equals) _ (followed_exact hexadecimal_reading (λ _. words_of phrase.Semicolon) hexadecimal_exact))))

writable_raw_exact : IsExact (Constant × Constant) writable_raw
unfolding writable_raw
writable_raw_exact =
    behind_exact (words_of phrase.WritableImpl) _ (pair_exact (constant_reading phrase.ZeroToModify) _ (constant_exact phrase.ZeroToModify) (followed_exact (constant_reading phrase.OneToModify) (λ _. words_of phrase.Closer) (constant_exact phrase.OneToModify)))

pub writable_exact : IsExact Writable writable_reading
unfolding writable_reading writable_raw width_reading hexadecimal_reading words_behind
writable_exact = restated_exact writable_words valid_writable (mapped writable_of writable_parts writable_raw) (λ tree. refl) (λ tree. refl) (mapped_exact writable_of writable_parts writable_raw (λ tree. refl) (λ tree. refl) writable_raw_exact)

reset_raw_exact : IsExact Constant reset_raw
unfolding reset_raw
reset_raw_exact = behind_exact (words_of phrase.ResettableImpl) _ (followed_exact (constant_reading phrase.ResetValue) (λ _. words_of phrase.Closer) (constant_exact phrase.ResetValue))

pub reset_exact : IsExact Constant reset_reading
unfolding reset_reading reset_raw width_reading hexadecimal_reading words_behind
reset_exact = restated_exact reset_words valid_constant reset_raw (λ tree. refl) (λ tree. refl) reset_raw_exact

pub marker_exact : IsExact Word marker_reading
unfolding marker_reading
marker_exact = behind_exact (words_of phrase.PubStruct) _ (followed_exact identifier (λ _. words_of phrase.ClosesMarker) identifier_exact)

-- ---- spots

at_bit_raw_exact : IsExact (ℕ × (ℕ × ℕ)) at_bit_raw
at_bit_raw_exact =
    behind_exact (words_of phrase.OpensAtBit) _ (pair_exact decimal_reading _ decimal_exact (behind_exact (words_of phrase.ThenNext) _ (pair_exact decimal_reading _ decimal_exact (behind_exact (words_of phrase.ThenNext) _ (followed_exact decimal_reading (λ _. words_of phrase.ClosesAtBit) decimal_exact)))))

at_bit_exact : IsExact Spot at_bit_reading
unfolding at_bit_reading
at_bit_exact = within_exact indexed_of indexed_parts at_bit_raw back (λ parts. refl) at_bit_raw_exact
  where
    back : (tree : Spot) (parts : ℕ × (ℕ × ℕ)) → indexed_parts tree ≡ given parts → indexed_of parts ≡ tree
    back (Fixed place) parts is = absurd cc
    back (Indexed offset step count) parts is = ap indexed_of (sym (some_is (offset, (step, count)) parts is))

place_exact : IsExact Spot place_reading
unfolding place_reading
place_exact = within_exact Fixed fixed_part decimal_reading back (λ place. refl) decimal_exact
  where
    back : (tree : Spot) (place : ℕ) → fixed_part tree ≡ given place → Fixed place ≡ tree
    back (Fixed held) place is = ap Fixed (sym (some_is held place is))
    back (Indexed offset step count) place is = absurd cc

pub spot_exact : (indexed : Bool) → IsExact Spot (spot_reading indexed)
spot_exact true = at_bit_exact
spot_exact false = place_exact

-- a spot that is read with an index is indexed, and one that is read without is a number
spot_is : (indexed : Bool) (spot : Spot) → (spot_reading indexed).is_valid spot ≡ true → is_indexed spot ≡ indexed
unfolding at_bit_reading place_reading
spot_is true (Fixed place) valid = absurd cc
spot_is true (Indexed offset step count) valid = refl
spot_is false (Fixed place) valid = refl
spot_is false (Indexed offset step count) valid = absurd cc

-- ---- readers

reader_tells : (indexed : Bool) → Tells (Word × (Word × (Spot × ℕ))) (Word × (Word × (Width × (Spot × ℕ)))) (word_is (reader_type indexed) (codes "BitReader")) (bit_reader_raw indexed) (field_reader_raw indexed)
unfolding words_behind
reader_tells true = record { yes = λ tree rest valid. refl; no_other = λ tree rest valid. refl }
reader_tells false = record { yes = λ tree rest valid. refl; no_other = λ tree rest valid. refl }

reader_raw_of_exact : (indexed : Bool) → IsExact ReaderParts (reader_raw_of indexed)
reader_raw_of_exact indexed = either_exact (word_is (reader_type indexed) (codes "BitReader")) (bit_reader_raw indexed) (field_reader_raw indexed) (reader_tells indexed)
    (behind_exact (words_of phrase.PubFn) _ (pair_exact identifier _ identifier_exact (behind_exact (words_of (receiver indexed)) _ (behind_exact (words_of phrase.OfBitReader) _ (pair_exact identifier _ identifier_exact (behind_exact (words_of phrase.NewBitReader) _ (pair_exact (spot_reading indexed) _ (spot_exact indexed) (behind_exact (words_of phrase.ThenMask) _ (followed_exact hexadecimal_reading (λ _. words_of phrase.ClosesBitReader) hexadecimal_exact)))))))))
    (followed_exact _ cast_words (behind_exact (words_of phrase.PubFn) _ (pair_exact identifier _ identifier_exact (behind_exact (words_of (receiver indexed)) _ (behind_exact (words_of phrase.OfFieldReader) _ (pair_exact identifier _ identifier_exact (behind_exact (words_of phrase.ThenNext) _ (pair_exact width_reading _ width_exact (behind_exact (words_of phrase.NewFieldReader) _ (pair_exact (spot_reading indexed) _ (spot_exact indexed) (behind_exact (words_of phrase.ThenMask) hexadecimal_reading hexadecimal_exact)))))))))))

-- a reader takes an index where it is one of those
reader_is : (indexed : Bool) (parts : ReaderParts) → (reader_raw_of indexed).is_valid parts ≡ true → reader_indexed parts ≡ indexed
reader_is indexed (inl parts) valid =
    spot_is indexed parts.1.1.0 (both_left ((spot_reading indexed).is_valid parts.1.1.0) _ (both_right (is_identifier parts.1.0) _ (both_right (is_identifier parts.0) _ valid)))
reader_is indexed (inr parts) valid =
    spot_is indexed parts.1.1.1.0 (both_left ((spot_reading indexed).is_valid parts.1.1.1.0) _ (both_right (width_reading.is_valid parts.1.1.0) _ (both_right (is_identifier parts.1.0) _ (both_right (is_identifier parts.0) _ valid))))

-- whether a comma stands behind `self`
reader_comma : (indexed : Bool) (parts : ReaderParts) (rest : List Word) → word_is 6 (codes ",") ((reader_raw_of indexed).words parts ++ rest) ≡ indexed
unfolding words_behind
reader_comma true (inl parts) rest = refl
reader_comma true (inr parts) rest = refl
reader_comma false (inl parts) rest = refl
reader_comma false (inr parts) rest = refl

none_allowed : (b : Bool) → (b && false) ≡ false
none_allowed true = refl
none_allowed false = refl

reader_sides : (version : Version) → Sides ReaderParts (reader_begins version) reader_indexed (only_if (takes_index version) (reader_raw_of true)) (reader_raw_of false)
reader_sides version = record {
  yes = λ parts rest valid. (reader_is true parts (both_right (takes_index version) ((reader_raw_of true).is_valid parts) valid), both (takes_index version) _ (both_left (takes_index version) ((reader_raw_of true).is_valid parts) valid) (reader_comma true parts rest));
  no_other = λ parts rest valid. (reader_is false parts valid, ap (λ b. takes_index version && b) (reader_comma false parts rest) ∙ none_allowed (takes_index version));
}

reader_raw_exact : (version : Version) → IsExact ReaderParts (reader_raw version)
unfolding reader_raw
reader_raw_exact version =
    told_apart_exact (reader_begins version) reader_indexed (only_if (takes_index version) (reader_raw_of true)) (reader_raw_of false) (reader_sides version)
    (only_if_exact (takes_index version) (reader_raw_of true) (reader_raw_of_exact true)) (reader_raw_of_exact false)

pub reader_exact : (version : Version) → IsExact Reader (reader_reading version)
unfolding reader_reading reader_raw at_bit_reading place_reading width_reading hexadecimal_reading decimal_reading words_behind
reader_exact version = restated_exact reader_words (valid_reader version) (mapped reader_of reader_parts (reader_raw version)) same_words same_valid (mapped_exact reader_of reader_parts (reader_raw version) back forth (reader_raw_exact version))
  where
    words_of_form : (name marker : Word) (form : ReadForm) → reader_words (record { name = name; marker = marker; form = form }) ≡ (reader_raw version).words (read_parts name marker form)
    words_of_form name marker (read.Bit (Fixed place) mask) = refl
    words_of_form name marker (read.Bit (Indexed offset step count) mask) = refl
    words_of_form name marker (read.Field bits (Fixed place) mask) = refl
    words_of_form name marker (read.Field bits (Indexed offset step count) mask) = refl

    same_words : (tree : Reader) → reader_words tree ≡ (reader_raw version).words (reader_parts tree)
    same_words tree = words_of_form tree.name tree.marker tree.form

    valid_form : (name marker : Word) (form : ReadForm) → (stands_in version (spot_read form) && (is_identifier name && (is_identifier marker && valid_read form))) ≡ (reader_raw version).is_valid (read_parts name marker form)
    valid_form name marker (read.Bit (Fixed place) mask) = refl
    valid_form name marker (read.Bit (Indexed offset step count) mask) = refl
    valid_form name marker (read.Field bits (Fixed place) mask) = refl
    valid_form name marker (read.Field bits (Indexed offset step count) mask) = refl

    same_valid : (tree : Reader) → valid_reader version tree ≡ (reader_raw version).is_valid (reader_parts tree)
    same_valid tree = valid_form tree.name tree.marker tree.form

    back_form : (name marker : Word) (form : ReadForm) → reader_of (read_parts name marker form) ≡ record { name = name; marker = marker; form = form }
    back_form name marker (read.Bit spot mask) = refl
    back_form name marker (read.Field bits spot mask) = refl

    back : (tree : Reader) → reader_of (reader_parts tree) ≡ tree
    back tree = back_form tree.name tree.marker tree.form

    forth : (tree : ReaderParts) → reader_parts (reader_of tree) ≡ tree
    forth (inl parts) = refl
    forth (inr parts) = refl

-- ---- writers

-- a writer of a bit isn't that of a field
bit_type : (indexed : Bool) (name : Word) (kind : BitKind) (marker : Word) (spot : Spot) (rest : List Word) → word_is (writer_type indexed) (codes "FieldWriter") ((bit_writer_raw indexed).words ((name, (kind, marker)), spot) ++ rest) ≡ false
unfolding kind_reading words_behind
bit_type true name kind.Plain marker spot rest = refl
bit_type true name kind.OneToSet marker spot rest = refl
bit_type true name kind.ZeroToClear marker spot rest = refl
bit_type true name kind.OneToClear marker spot rest = refl
bit_type true name kind.ZeroToSet marker spot rest = refl
bit_type true name kind.OneToToggle marker spot rest = refl
bit_type true name kind.ZeroToToggle marker spot rest = refl
bit_type false name kind.Plain marker spot rest = refl
bit_type false name kind.OneToSet marker spot rest = refl
bit_type false name kind.ZeroToClear marker spot rest = refl
bit_type false name kind.OneToClear marker spot rest = refl
bit_type false name kind.ZeroToSet marker spot rest = refl
bit_type false name kind.OneToToggle marker spot rest = refl
bit_type false name kind.ZeroToToggle marker spot rest = refl

field_type : (indexed : Bool) (parts : Word × (Word × (Width × (ℕ × Spot)))) (rest : List Word) → word_is (writer_type indexed) (codes "FieldWriter") ((field_writer_raw indexed).words parts ++ rest) ≡ true
unfolding words_behind
field_type true parts rest = refl
field_type false parts rest = refl

writer_tells : (indexed : Bool) → Tells (Word × (Word × (Width × (ℕ × Spot)))) ((Word × (BitKind × Word)) × Spot) (word_is (writer_type indexed) (codes "FieldWriter")) (field_writer_raw indexed) (bit_writer_raw indexed)
writer_tells indexed = record { yes = λ tree rest valid. field_type indexed tree rest; no_other = λ tree rest valid. bit_type indexed tree.0.0 tree.0.1.0 tree.0.1.1 tree.1 rest }

writer_raw_of_exact : (indexed : Bool) → IsExact WriterParts (writer_raw_of indexed)
writer_raw_of_exact indexed = either_exact (word_is (writer_type indexed) (codes "FieldWriter")) (field_writer_raw indexed) (bit_writer_raw indexed) (writer_tells indexed)
    (behind_exact (words_of phrase.PubFn) _ (pair_exact identifier _ identifier_exact (behind_exact (words_of (receiver_mut indexed)) _ (behind_exact (words_of phrase.OfFieldWriter) _ (pair_exact identifier _ identifier_exact (behind_exact (words_of phrase.ThenNext) _ (pair_exact width_reading _ width_exact (behind_exact (words_of phrase.ThenNext) _ (pair_exact decimal_reading _ decimal_exact (behind_exact (words_of phrase.NewFieldWriter) _ (followed_exact (spot_reading indexed) (λ _. words_of phrase.ClosesCall) (spot_exact indexed))))))))))))
    (pair_exact _ _ (followed_exact _ again_words (behind_exact (words_of phrase.PubFn) _ (pair_exact identifier _ identifier_exact (behind_exact (words_of (receiver_mut indexed)) _ (pair_exact kind_reading _ kind_exact (behind_exact (words_of phrase.OfSpec) identifier identifier_exact)))))) (followed_exact (spot_reading indexed) (λ _. words_of phrase.ClosesCall) (spot_exact indexed)))

-- a writer takes an index where it is one of those
writer_is : (indexed : Bool) (parts : WriterParts) → (writer_raw_of indexed).is_valid parts ≡ true → writer_indexed parts ≡ indexed
writer_is indexed (inl parts) valid =
    spot_is indexed parts.1.1.1.1 (both_right (decimal_reading.is_valid parts.1.1.1.0) _ (both_right (width_reading.is_valid parts.1.1.0) _ (both_right (is_identifier parts.1.0) _ (both_right (is_identifier parts.0) _ valid))))
writer_is indexed (inr parts) valid = spot_is indexed parts.1 (both_right (is_identifier parts.0.0 && (kind_reading.is_valid parts.0.1.0 && is_identifier parts.0.1.1)) _ valid)

-- whether a comma stands behind `self`
writer_comma : (indexed : Bool) (parts : WriterParts) (rest : List Word) → word_is 7 (codes ",") ((writer_raw_of indexed).words parts ++ rest) ≡ indexed
unfolding kind_reading words_behind
writer_comma true (inl parts) rest = refl
writer_comma true (inr parts) rest = refl
writer_comma false (inl parts) rest = refl
writer_comma false (inr parts) rest = refl

writer_sides : (version : Version) → Sides WriterParts (writer_begins version) writer_indexed (only_if (takes_index version) (writer_raw_of true)) (writer_raw_of false)
writer_sides version = record {
  yes = λ parts rest valid. (writer_is true parts (both_right (takes_index version) ((writer_raw_of true).is_valid parts) valid), both (takes_index version) _ (both_left (takes_index version) ((writer_raw_of true).is_valid parts) valid) (writer_comma true parts rest));
  no_other = λ parts rest valid. (writer_is false parts valid, ap (λ b. takes_index version && b) (writer_comma false parts rest) ∙ none_allowed (takes_index version));
}

writer_raw_exact : (version : Version) → IsExact WriterParts (writer_raw version)
unfolding writer_raw
writer_raw_exact version =
    told_apart_exact (writer_begins version) writer_indexed (only_if (takes_index version) (writer_raw_of true)) (writer_raw_of false) (writer_sides version)
    (only_if_exact (takes_index version) (writer_raw_of true) (writer_raw_of_exact true)) (writer_raw_of_exact false)

both_assoc : (x y z : Bool) → (x && (y && z)) ≡ ((x && y) && z)
both_assoc true y z = refl
both_assoc false y z = refl

pub writer_exact : (version : Version) → IsExact Writer (writer_reading version)
unfolding writer_reading writer_raw at_bit_reading place_reading width_reading kind_reading decimal_reading words_behind
writer_exact version = restated_exact writer_words (valid_writer version) (mapped writer_of writer_parts (writer_raw version)) same_words same_valid (mapped_exact writer_of writer_parts (writer_raw version) back forth (writer_raw_exact version))
  where
    words_of_form : (name marker : Word) (form : WriteForm) → writer_words (record { name = name; marker = marker; form = form }) ≡ (writer_raw version).words (write_parts name marker form)
    words_of_form name marker (write.Bit kind (Fixed place)) = refl
    words_of_form name marker (write.Bit kind (Indexed offset step count)) = refl
    words_of_form name marker (write.Field bits wide (Fixed place)) = refl
    words_of_form name marker (write.Field bits wide (Indexed offset step count)) = refl

    same_words : (tree : Writer) → writer_words tree ≡ (writer_raw version).words (writer_parts tree)
    same_words tree = words_of_form tree.name tree.marker tree.form

    valid_form : (name marker : Word) (form : WriteForm) → (stands_in version (spot_written form) && (is_identifier name && (is_identifier marker && valid_write form))) ≡ (writer_raw version).is_valid (write_parts name marker form)
    valid_form name marker (write.Bit kind (Fixed place)) = both_assoc (is_identifier name) (is_identifier marker) (is_number place)
    valid_form name marker (write.Bit kind (Indexed offset step count)) = ap (λ b. takes_index version && b) (both_assoc (is_identifier name) (is_identifier marker) (valid_spot (Indexed offset step count)))
    valid_form name marker (write.Field bits wide (Fixed place)) = refl
    valid_form name marker (write.Field bits wide (Indexed offset step count)) = refl

    same_valid : (tree : Writer) → valid_writer version tree ≡ (writer_raw version).is_valid (writer_parts tree)
    same_valid tree = valid_form tree.name tree.marker tree.form

    back_form : (name marker : Word) (form : WriteForm) → writer_of (write_parts name marker form) ≡ record { name = name; marker = marker; form = form }
    back_form name marker (write.Bit kind spot) = refl
    back_form name marker (write.Field bits wide spot) = refl

    back : (tree : Writer) → writer_of (writer_parts tree) ≡ tree
    back tree = back_form tree.name tree.marker tree.form

    forth : (tree : WriterParts) → writer_parts (writer_of tree) ≡ tree
    forth (inl parts) = refl
    forth (inr parts) = refl

-- ---- calls

truth_raw_exact : (middle end : Phrase) → IsExact (Word × Bool) (truth_raw middle end)
truth_raw_exact middle end = behind_exact (words_of phrase.PubFn) _ (pair_exact identifier _ identifier_exact (behind_exact (words_of middle) _ (followed_exact truth_reading (λ _. words_of end) truth_exact)))

number_raw_exact : (middle end : Phrase) → IsExact (Word × ℕ) (number_raw middle end)
number_raw_exact middle end = behind_exact (words_of phrase.PubFn) _ (pair_exact identifier _ identifier_exact (behind_exact (words_of middle) _ (followed_exact hexadecimal_reading (λ _. words_of end) hexadecimal_exact)))

truth_call_exact : (words : TruthCall → List Word) (middle end : Phrase) → ((call : TruthCall) → words call ≡ (truth_raw middle end).words (truth_parts call)) → IsExact TruthCall (restated words valid_truth (mapped truth_of truth_parts (truth_raw middle end)))
unfolding truth_reading
truth_call_exact words middle end same =
    restated_exact words valid_truth (mapped truth_of truth_parts (truth_raw middle end)) same (λ call. sym (and-true (is_identifier call.name))) (mapped_exact truth_of truth_parts (truth_raw middle end) (λ tree. refl) (λ tree. refl) (truth_raw_exact middle end))

number_call_exact : (words : NumberCall → List Word) (middle end : Phrase) → ((call : NumberCall) → words call ≡ (number_raw middle end).words (number_parts call)) → IsExact NumberCall (restated words valid_number (mapped number_of number_parts (number_raw middle end)))
unfolding hexadecimal_reading
number_call_exact words middle end same =
    restated_exact words valid_number (mapped number_of number_parts (number_raw middle end)) same (λ call. refl) (mapped_exact number_of number_parts (number_raw middle end) (λ tree. refl) (λ tree. refl) (number_raw_exact middle end))

pub truth_test_exact : IsExact TruthCall truth_test
unfolding truth_test truth_reading words_behind
truth_test_exact = truth_call_exact (λ call. line_words (truth_test_line 0 call)) phrase.TestsBit phrase.ClosesBody (λ call. refl)

pub truth_write_exact : IsExact TruthCall truth_write
unfolding truth_write truth_reading words_behind
truth_write_exact = truth_call_exact (λ call. line_words (truth_write_line 0 call)) phrase.WritesBit phrase.ClosesCall (λ call. refl)

pub number_test_exact : IsExact NumberCall number_test
unfolding number_test hexadecimal_reading words_behind
number_test_exact = number_call_exact (λ call. line_words (number_test_line 0 call)) phrase.TestsNumber phrase.ClosesBody (λ call. refl)

pub number_write_exact : IsExact NumberCall number_write
unfolding number_write hexadecimal_reading words_behind
number_write_exact = number_call_exact (λ call. line_words (number_write_line 0 call)) phrase.WritesNumber phrase.ClosesCall (λ call. refl)
