-- The production of blocks of values is exact.
use Rattle.std.proofs.Common.{ℕ, ◌≡◌, List, [], ◌++◌, true, false, ◌⊎◌, inl, inr, refl, sym, ap}
use Rattle.std.specs.Prelude.{◌&&◌, codes}
use Rattle.std.specs.List.{flat_map, list_all}
use Rattle.std.proofs.Math.Bool.{and-true}
use Rattle.std.proofs.lemmas.List.{append-nil}
use Rattle.frag_words.specs.Readings.{IsExact, mapped, words_of_either, either, word_is}
use Rattle.frag_words.specs.Words.{Word, words_behind}
use Rattle.frag_words.proofs.Readings.{Tells, behind_exact, pair_exact, mapped_exact, either_exact}
use Rattle.frag_words.proofs.Further.{restated_exact}
use Rattle.pac_base.specs.declared.width.Width.{Width}
use Rattle.frag_tree.specs.Phrases.{words_of}
use Rattle.frag_tree.specs.declared.phrase.Phrase.TheVariants as phrase
use Rattle.frag_tree.specs.declared.register.BitKind.{BitKind}
use Rattle.frag_tree.specs.declared.register.BitKind.TheVariants as kind
use Rattle.frag_tree.specs.declared.register.NumberCall.{NumberCall}
use Rattle.frag_tree.specs.declared.register.TruthCall.{TruthCall}
use Rattle.frag_tree.specs.declared.register.Values.{Values}
use Rattle.frag_tree.specs.declared.register.Values.TheVariants as values
use Rattle.rust_names.specs.Identifiers.{is_identifier}
use Rattle.frag_tree.specs.Productions.{identifier, decimal_reading, width_reading, kind_reading}
use Rattle.frag_tree.specs.RegisterProductions.{truth_test, truth_write, number_test, number_write, calls_until, bit_reading_raw, field_reading_raw, bit_writing_raw, field_writing_raw, ValuesParts, values_words, values_of, values_parts, values_raw, values_reading}
use Rattle.frag_tree.specs.Registers.{opening_pieces, truth_call_line, number_call_line}
use Rattle.frag_tree.specs.Validity.{is_number, valid_truth, valid_number, valid_values}
use Rattle.frag_tree.proofs.Braced.{braced_words, until_brace}
use Rattle.frag_tree.proofs.Productions.{identifier_exact, decimal_exact, width_exact, kind_exact}
use Rattle.frag_tree.proofs.RegisterProductions.{truth_test_exact, truth_write_exact, number_test_exact, number_write_exact}

truth_tests_exact : IsExact (List TruthCall) (calls_until truth_test)
unfolding truth_test words_behind
truth_tests_exact = until_brace truth_test (λ tree rest. refl) truth_test_exact

truth_writes_exact : IsExact (List TruthCall) (calls_until truth_write)
unfolding truth_write words_behind
truth_writes_exact = until_brace truth_write (λ tree rest. refl) truth_write_exact

number_tests_exact : IsExact (List NumberCall) (calls_until number_test)
unfolding number_test words_behind
number_tests_exact = until_brace number_test (λ tree rest. refl) number_test_exact

number_writes_exact : IsExact (List NumberCall) (calls_until number_write)
unfolding number_write words_behind
number_writes_exact = until_brace number_write (λ tree rest. refl) number_write_exact

bit_reading_exact : IsExact (Word × List TruthCall) bit_reading_raw
unfolding bit_reading_raw
bit_reading_exact = behind_exact (words_of phrase.BitReaderImpl) _ (pair_exact identifier _ identifier_exact (behind_exact (words_of phrase.OpensCalls) (calls_until truth_test) truth_tests_exact))

field_reading_exact : IsExact (Word × (Width × List NumberCall)) field_reading_raw
unfolding field_reading_raw
field_reading_exact = behind_exact (words_of phrase.FieldReaderImpl) _ (pair_exact identifier _ identifier_exact (behind_exact (words_of phrase.ThenNext) _ (pair_exact width_reading _ width_exact (behind_exact (words_of phrase.OpensCalls) (calls_until number_test) number_tests_exact))))

bit_writing_exact : IsExact (BitKind × (Word × List TruthCall)) bit_writing_raw
unfolding bit_writing_raw
bit_writing_exact = behind_exact (words_of phrase.WriterImpl) _ (pair_exact kind_reading _ kind_exact (behind_exact (words_of phrase.OfSpecInImpl) _ (pair_exact identifier _ identifier_exact (behind_exact (words_of phrase.OpensCalls) (calls_until truth_write) truth_writes_exact))))

field_writing_exact : IsExact (Word × (Width × (ℕ × List NumberCall))) field_writing_raw
unfolding field_writing_raw
field_writing_exact = behind_exact (words_of phrase.FieldWriterImpl) _ (pair_exact identifier _ identifier_exact (behind_exact (words_of phrase.ThenNext) _ (pair_exact width_reading _ width_exact (behind_exact (words_of phrase.ThenNext) _ (pair_exact decimal_reading _ decimal_exact (behind_exact (words_of phrase.OpensCalls) (calls_until number_write) number_writes_exact))))))

-- ---- which block it is

kind_fourth : (kind : BitKind) (parts : Word × List TruthCall) (rest : List Word) → word_is 4 (codes "FieldWriter") (bit_writing_raw.words (kind, parts) ++ rest) ≡ false
unfolding bit_writing_raw kind_reading words_behind
kind_fourth kind.Plain parts rest = refl
kind_fourth kind.OneToSet parts rest = refl
kind_fourth kind.ZeroToClear parts rest = refl
kind_fourth kind.OneToClear parts rest = refl
kind_fourth kind.ZeroToSet parts rest = refl
kind_fourth kind.OneToToggle parts rest = refl
kind_fourth kind.ZeroToToggle parts rest = refl

writing_first : (tree : (Word × (Width × (ℕ × List NumberCall))) ⊎ (BitKind × (Word × List TruthCall))) (rest : List Word) → word_is 1 (codes "FieldReader") (words_of_either field_writing_raw bit_writing_raw tree ++ rest) ≡ false
unfolding field_writing_raw bit_writing_raw words_behind
writing_first (inl parts) rest = refl
writing_first (inr parts) rest = refl

other_first : (tree : (Word × (Width × List NumberCall)) ⊎ ((Word × (Width × (ℕ × List NumberCall))) ⊎ (BitKind × (Word × List TruthCall)))) (rest : List Word) → word_is 1 (codes "BitReader") (words_of_either field_reading_raw (either (word_is 4 (codes "FieldWriter")) field_writing_raw bit_writing_raw) tree ++ rest) ≡ false
unfolding field_reading_raw field_writing_raw bit_writing_raw words_behind
other_first (inl parts) rest = refl
other_first (inr (inl parts)) rest = refl
other_first (inr (inr parts)) rest = refl

writing_tells : Tells (Word × (Width × (ℕ × List NumberCall))) (BitKind × (Word × List TruthCall)) (word_is 4 (codes "FieldWriter")) field_writing_raw bit_writing_raw
unfolding field_writing_raw words_behind
writing_tells = record { yes = λ tree rest valid. refl; no_other = λ tree rest valid. kind_fourth tree.0 tree.1 rest }

reading_tells : Tells (Word × (Width × List NumberCall)) ((Word × (Width × (ℕ × List NumberCall))) ⊎ (BitKind × (Word × List TruthCall))) (word_is 1 (codes "FieldReader")) field_reading_raw (either (word_is 4 (codes "FieldWriter")) field_writing_raw bit_writing_raw)
unfolding field_reading_raw words_behind
reading_tells = record { yes = λ tree rest valid. refl; no_other = λ tree rest valid. writing_first tree rest }

values_tells : Tells (Word × List TruthCall) ((Word × (Width × List NumberCall)) ⊎ ((Word × (Width × (ℕ × List NumberCall))) ⊎ (BitKind × (Word × List TruthCall)))) (word_is 1 (codes "BitReader")) bit_reading_raw (either (word_is 1 (codes "FieldReader")) field_reading_raw (either (word_is 4 (codes "FieldWriter")) field_writing_raw bit_writing_raw))
unfolding bit_reading_raw words_behind
values_tells = record { yes = λ tree rest valid. refl; no_other = λ tree rest valid. other_first tree rest }

values_raw_exact : IsExact ValuesParts values_raw
unfolding values_raw
values_raw_exact =
    either_exact (word_is 1 (codes "BitReader")) _ _ values_tells bit_reading_exact
    (either_exact (word_is 1 (codes "FieldReader")) _ _ reading_tells field_reading_exact
    (either_exact (word_is 4 (codes "FieldWriter")) _ _ writing_tells field_writing_exact bit_writing_exact))

-- the brace behind a list, with nothing behind it
closed : {A : Type 0} (words : A → List Word) (items : List A) → flat_map words items ++ words_of phrase.Closer ≡ flat_map words items ++ (words_of phrase.Closer ++ [])
closed words items = ap (λ xs. flat_map words items ++ xs) (sym (append-nil (words_of phrase.Closer)))

pub values_exact : IsExact Values values_reading
unfolding values_reading values_raw bit_reading_raw field_reading_raw bit_writing_raw field_writing_raw truth_test truth_write number_test number_write kind_reading width_reading decimal_reading words_behind
values_exact = restated_exact values_words valid_values (mapped values_of values_parts values_raw) same_words same_valid (mapped_exact values_of values_parts values_raw back forth values_raw_exact)
  where
    same_words : (tree : Values) → values_words tree ≡ values_raw.words (values_parts tree)
    same_words (values.BitReading marker calls) = braced_words 0 (opening_pieces (values.BitReading marker calls)) (truth_call_line 1 true) calls
    same_words (values.FieldReading marker bits calls) = braced_words 0 (opening_pieces (values.FieldReading marker bits calls)) (number_call_line 1 true) calls
    same_words (values.BitWriting kind marker calls) = braced_words 0 (opening_pieces (values.BitWriting kind marker calls)) (truth_call_line 1 false) calls
    same_words (values.FieldWriting marker bits wide calls) = braced_words 0 (opening_pieces (values.FieldWriting marker bits wide calls)) (number_call_line 1 false) calls

    same_valid : (tree : Values) → valid_values tree ≡ values_raw.is_valid (values_parts tree)
    same_valid (values.BitReading marker calls) = ap (λ b. is_identifier marker && b) (sym (and-true (list_all valid_truth calls)))
    same_valid (values.FieldReading marker bits calls) = ap (λ b. is_identifier marker && b) (sym (and-true (list_all valid_number calls)))
    same_valid (values.BitWriting kind marker calls) = ap (λ b. is_identifier marker && b) (sym (and-true (list_all valid_truth calls)))
    same_valid (values.FieldWriting marker bits wide calls) = ap (λ b. is_identifier marker && (is_number wide && b)) (sym (and-true (list_all valid_number calls)))

    back : (tree : Values) → values_of (values_parts tree) ≡ tree
    back (values.BitReading marker calls) = refl
    back (values.FieldReading marker bits calls) = refl
    back (values.BitWriting kind marker calls) = refl
    back (values.FieldWriting marker bits wide calls) = refl

    forth : (tree : ValuesParts) → values_parts (values_of tree) ≡ tree
    forth (inl parts) = refl
    forth (inr (inl parts)) = refl
    forth (inr (inr (inl parts))) = refl
    forth (inr (inr (inr parts))) = refl
