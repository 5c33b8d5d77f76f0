-- The production of register modules is exact.
use Rattle.std.proofs.Common.{ℕ, ◌≡◌, ◌≤◌, ◌+◌, List, [], ◌∷◌, ◌++◌, length, Bool, true, false, Option, Some, None, refl, sym, ap, ap₂, ◌∙◌, map, append_assoc}
use Rattle.std.specs.Prelude.{◌&&◌, codes}
use Rattle.std.specs.List.{flat_map, list_all}
use Rattle.std.specs.Str.{bytes_eq}
use Rattle.std.proofs.Math.Bool.{and-true}
use Rattle.std.proofs.lemmas.Grind.{flat_map-append}
use Rattle.std.proofs.lemmas.List.{append-nil}
use Rattle.std.proofs.lemmas.List.Folds.{flat_map-map}
use Rattle.frag_words.specs.Lines.{Line, line, fixed, line_words, lines_words, word}
use Rattle.frag_words.specs.Readings.{IsExact, behind, pair, mapped, word_is}
use Rattle.frag_words.specs.Words.{Word, words_behind}
use Rattle.frag_words.proofs.Readings.{Tells, behind_exact, pair_exact, mapped_exact}
use Rattle.frag_words.proofs.Lists.{Ends, list_exact}
use Rattle.frag_words.proofs.Further.{restated_exact, list_until_exact, option_exact, flag_exact}
use Rattle.frag_tree.specs.declared.krate.Version.{Version}
use Rattle.frag_tree.specs.Phrases.{text_of, words_of, says}
use Rattle.frag_tree.specs.declared.phrase.Phrase.TheVariants as phrase
use Rattle.frag_tree.specs.declared.register.Constant.{Constant}
use Rattle.frag_tree.specs.declared.register.Reader.{Reader}
use Rattle.frag_tree.specs.declared.register.RegisterModule.{RegisterModule}
use Rattle.frag_tree.specs.declared.register.Values.{Values}
use Rattle.frag_tree.specs.declared.register.Values.TheVariants as values
use Rattle.frag_tree.specs.declared.register.Writable.{Writable}
use Rattle.frag_tree.specs.declared.register.Writer.{Writer}
use Rattle.rust_names.specs.Identifiers.{is_identifier}
use Rattle.frag_tree.specs.Numerals.{width_word}
use Rattle.frag_tree.specs.Productions.{identifier, width_reading}
use Rattle.frag_tree.specs.RegisterProductions.{writable_reading, reset_words, reset_reading, marker_reading, reader_reading, writer_reading, calls_until, values_words, values_reading, begins_impl, readers_reading, writers_reading, values_part, writers_part, readers_part, markers_part, reset_part, writable_part, readable_part, RegisterParts, register_raw, register_of, register_parts, register_words, register_reading}
use Rattle.frag_tree.specs.Registers.{opening_pieces, truth_call_line, number_call_line, readable_lines, writable_lines, reset_line, marker_line, reader_line, writer_line, readers_lines, writers_lines, values_lines, part_lines, register_lines}
use Rattle.frag_tree.specs.Validity.{valid_constant, valid_writable, valid_reader, valid_writer, valid_values, valid_option, valid_register}
use Rattle.frag_tree.proofs.Braced.{braced_words, one_word, some_words, until_brace}
use Rattle.frag_tree.proofs.Productions.{identifier_exact, width_exact}
use Rattle.frag_tree.proofs.RegisterProductions.{writable_exact, reset_exact, marker_exact, reader_exact, writer_exact}
use Rattle.frag_tree.proofs.ValuesProductions.{values_exact}

readers_exact : (version : Version) → IsExact (List Reader) (readers_reading version)
unfolding readers_reading reader_reading words_behind
readers_exact version = behind_exact (words_of phrase.ReadersImpl) (calls_until (reader_reading version)) (until_brace (reader_reading version) (λ tree rest. refl) (reader_exact version))

writers_exact : (version : Version) → IsExact (List Writer) (writers_reading version)
unfolding writers_reading writer_reading words_behind
writers_exact version = behind_exact (words_of phrase.WritersImpl) (calls_until (writer_reading version)) (until_brace (writer_reading version) (λ tree rest. refl) (writer_exact version))

-- ---- what parts begin with

values_impl : (block : Values) (rest : List Word) → word_is 0 (codes "impl") (values_reading.words block ++ rest) ≡ true
unfolding values_reading words_behind
values_impl (values.BitReading marker calls) rest = refl
values_impl (values.FieldReading marker bits calls) rest = refl
values_impl (values.BitWriting kind marker calls) rest = refl
values_impl (values.FieldWriting marker bits wide calls) rest = refl

some_impl : (words : List Word) → word_is 0 (codes "impl") (words ++ []) ≡ true → 1 ≤ length words
some_impl [] begins = absurd cc
some_impl (first ∷ others) begins = one_word first others

values_part_exact : IsExact (List Values) values_part
unfolding values_part words_behind
values_part_exact = list_until_exact (word_is 0 (codes "impl")) values_reading (words_of phrase.Closer)
    (record { tells = record { yes = λ tree rest valid. values_impl tree rest; no_other = λ tree rest valid. refl }; some = λ tree valid. some_impl (values_reading.words tree) (values_impl tree []) })
    values_exact

-- the second word of a block of values is none of these
values_second : (second : Word) → bytes_eq (codes "BitReader") second ≡ false → bytes_eq (codes "FieldReader") second ≡ false → bytes_eq (codes "<") second ≡ false → (blocks : List Values) (rest : List Word) → begins_impl second (values_part.words blocks ++ rest) ≡ false
unfolding values_part values_reading words_behind
values_second second no_bit no_field no_angle [] rest = refl
values_second second no_bit no_field no_angle (values.BitReading marker calls ∷ blocks) rest = no_bit
values_second second no_bit no_field no_angle (values.FieldReading marker bits calls ∷ blocks) rest = no_field
values_second second no_bit no_field no_angle (values.BitWriting kind marker calls ∷ blocks) rest = no_angle
values_second second no_bit no_field no_angle (values.FieldWriting marker bits wide calls ∷ blocks) rest = no_angle

writers_tells : (version : Version) → Tells (List Writer × List Values) (List Values) (begins_impl (codes "W")) (pair (writers_reading version) values_part) values_part
unfolding writers_reading words_behind
writers_tells version = record { yes = λ tree rest valid. refl; no_other = λ tree rest valid. values_second (codes "W") refl refl refl tree rest }

writers_part_exact : (version : Version) → IsExact (Option (List Writer) × List Values) (writers_part version)
unfolding writers_part
writers_part_exact version = option_exact (begins_impl (codes "W")) (writers_reading version) values_part (writers_tells version) (writers_exact version) values_part_exact

no_readers : (version : Version) → (writers : Option (List Writer)) (blocks : List Values) (rest : List Word) → begins_impl (codes "R") ((writers_part version).words (writers, blocks) ++ rest) ≡ false
unfolding writers_part writers_reading words_behind
no_readers version None blocks rest = values_second (codes "R") refl refl refl blocks rest
no_readers version (Some calls) blocks rest = refl

readers_tells : (version : Version) → Tells (List Reader × (Option (List Writer) × List Values)) (Option (List Writer) × List Values) (begins_impl (codes "R")) (pair (readers_reading version) (writers_part version)) (writers_part version)
unfolding readers_reading words_behind
readers_tells version = record { yes = λ tree rest valid. refl; no_other = λ tree rest valid. (no_readers version) tree.0 tree.1 rest }

readers_part_exact : (version : Version) → IsExact (Option (List Reader) × (Option (List Writer) × List Values)) (readers_part version)
unfolding readers_part
readers_part_exact version = option_exact (begins_impl (codes "R")) (readers_reading version) (writers_part version) (readers_tells version) (readers_exact version) (writers_part_exact version)

-- behind the markers no `pub` stands
values_no_pub : (blocks : List Values) (rest : List Word) → word_is 0 (codes "pub") (values_part.words blocks ++ rest) ≡ false
unfolding values_part values_reading words_behind
values_no_pub [] rest = refl
values_no_pub (values.BitReading marker calls ∷ blocks) rest = refl
values_no_pub (values.FieldReading marker bits calls ∷ blocks) rest = refl
values_no_pub (values.BitWriting kind marker calls ∷ blocks) rest = refl
values_no_pub (values.FieldWriting marker bits wide calls ∷ blocks) rest = refl

no_pub : (version : Version) → (readers : Option (List Reader)) (writers : Option (List Writer)) (blocks : List Values) (rest : List Word) → word_is 0 (codes "pub") ((readers_part version).words (readers, (writers, blocks)) ++ rest) ≡ false
unfolding readers_part readers_reading writers_part writers_reading words_behind
no_pub version (Some calls) writers blocks rest = refl
no_pub version None (Some calls) blocks rest = refl
no_pub version None None blocks rest = values_no_pub blocks rest

markers_end : (version : Version) → Ends Word (Option (List Reader) × (Option (List Writer) × List Values)) (word_is 0 (codes "pub")) marker_reading (readers_part version)
unfolding marker_reading words_behind
markers_end version = record {
  tells = record { yes = λ tree rest valid. refl; no_other = λ tree rest valid. (no_pub version) tree.0 tree.1.0 tree.1.1 rest };
  some = λ tree valid. some_words (marker_reading.words tree) refl;
}

markers_part_exact : (version : Version) → IsExact (List Word × (Option (List Reader) × (Option (List Writer) × List Values))) (markers_part version)
unfolding markers_part
markers_part_exact version = list_exact (word_is 0 (codes "pub")) marker_reading (readers_part version) (markers_end version) marker_exact (readers_part_exact version)

reset_part_exact : (version : Version) → IsExact (Constant × (List Word × (Option (List Reader) × (Option (List Writer) × List Values)))) (reset_part version)
unfolding reset_part
reset_part_exact version = pair_exact reset_reading (markers_part version) reset_exact (markers_part_exact version)

writable_tells : (version : Version) → Tells (Writable × (Constant × (List Word × (Option (List Reader) × (Option (List Writer) × List Values))))) (Constant × (List Word × (Option (List Reader) × (Option (List Writer) × List Values)))) (begins_impl (codes "Writable")) (pair writable_reading (reset_part version)) (reset_part version)
unfolding writable_reading reset_part reset_reading words_behind
writable_tells version = record { yes = λ tree rest valid. refl; no_other = λ tree rest valid. refl }

writable_part_exact : (version : Version) → IsExact (Option Writable × (Constant × (List Word × (Option (List Reader) × (Option (List Writer) × List Values))))) (writable_part version)
unfolding writable_part
writable_part_exact version = option_exact (begins_impl (codes "Writable")) writable_reading (reset_part version) (writable_tells version) writable_exact (reset_part_exact version)

no_readable : (version : Version) → (masks : Option Writable) (parts : Constant × (List Word × (Option (List Reader) × (Option (List Writer) × List Values)))) (rest : List Word) → begins_impl (codes "Readable") ((writable_part version).words (masks, parts) ++ rest) ≡ false
unfolding writable_part writable_reading reset_part reset_reading words_behind
no_readable version None parts rest = refl
no_readable version (Some masks) parts rest = refl

readable_tells : (version : Version) → Tells (Option Writable × (Constant × (List Word × (Option (List Reader) × (Option (List Writer) × List Values))))) (Option Writable × (Constant × (List Word × (Option (List Reader) × (Option (List Writer) × List Values))))) (begins_impl (codes "Readable")) (behind (words_of phrase.ReadableImpl) (writable_part version)) (writable_part version)
unfolding words_behind
readable_tells version = record { yes = λ tree rest valid. refl; no_other = λ tree rest valid. (no_readable version) tree.0 tree.1 rest }

readable_part_exact : (version : Version) → IsExact (Bool × (Option Writable × (Constant × (List Word × (Option (List Reader) × (Option (List Writer) × List Values)))))) (readable_part version)
unfolding readable_part
readable_part_exact version = flag_exact (begins_impl (codes "Readable")) (words_of phrase.ReadableImpl) (writable_part version) (readable_tells version) (writable_part_exact version)

register_raw_exact : (version : Version) → IsExact RegisterParts (register_raw version)
unfolding register_raw
register_raw_exact version = behind_exact (words_of phrase.PubMod) _ (pair_exact identifier _ identifier_exact (behind_exact (words_of phrase.OpensModule) _ (behind_exact (words_of phrase.UsePrelude) _ (behind_exact (words_of phrase.SpecStruct) _ (behind_exact (words_of phrase.OpensSpec) _ (pair_exact width_reading _ width_exact (behind_exact (words_of phrase.ClosesSpec) (readable_part version) (readable_part_exact version))))))))

-- ---- the words of the parts

abbrev closer : List Word
closer = words_of phrase.Closer

split : (lines more : List Line) (end : List Word) → lines_words (lines ++ more) ++ end ≡ lines_words lines ++ (lines_words more ++ end)
split lines more end = ap (λ xs. xs ++ end) (flat_map-append line_words lines more) ∙ append_assoc (lines_words lines) (lines_words more) end

-- the words of a block of values don't depend on the depth
values_depth : (depth : ℕ) (block : Values) → lines_words (values_lines depth block) ≡ values_words block
values_depth depth (values.BitReading marker calls) = braced_words depth (opening_pieces (values.BitReading marker calls)) (truth_call_line (depth + 1) true) calls ∙ sym (braced_words 0 (opening_pieces (values.BitReading marker calls)) (truth_call_line 1 true) calls)
values_depth depth (values.FieldReading marker bits calls) = braced_words depth (opening_pieces (values.FieldReading marker bits calls)) (number_call_line (depth + 1) true) calls ∙ sym (braced_words 0 (opening_pieces (values.FieldReading marker bits calls)) (number_call_line 1 true) calls)
values_depth depth (values.BitWriting kind marker calls) = braced_words depth (opening_pieces (values.BitWriting kind marker calls)) (truth_call_line (depth + 1) false) calls ∙ sym (braced_words 0 (opening_pieces (values.BitWriting kind marker calls)) (truth_call_line 1 false) calls)
values_depth depth (values.FieldWriting marker bits wide calls) = braced_words depth (opening_pieces (values.FieldWriting marker bits wide calls)) (number_call_line (depth + 1) false) calls ∙ sym (braced_words 0 (opening_pieces (values.FieldWriting marker bits wide calls)) (number_call_line 1 false) calls)

blocks_words : (depth : ℕ) (blocks : List Values) → lines_words (flat_map (values_lines depth) blocks) ≡ flat_map values_words blocks
blocks_words depth [] = refl
blocks_words depth (block ∷ blocks) = flat_map-append line_words (values_lines depth block) (flat_map (values_lines depth) blocks) ∙ ap₂ (λ xs ys. xs ++ ys) (values_depth depth block) (blocks_words depth blocks)

values_end : (depth : ℕ) (blocks : List Values) → lines_words (flat_map (values_lines depth) blocks) ++ closer ≡ values_part.words blocks
unfolding values_part values_reading
values_end depth blocks = ap₂ (λ xs ys. xs ++ ys) (blocks_words depth blocks) (sym (append-nil closer))

writers_front : (version : Version) → (depth : ℕ) (writers : Option (List Writer)) (blocks : List Values) → lines_words (writers_lines depth writers) ++ values_part.words blocks ≡ (writers_part version).words (writers, blocks)
unfolding writers_part writers_reading writer_reading words_behind
writers_front version depth None blocks = refl
writers_front version depth (Some calls) blocks = ap (λ xs. xs ++ values_part.words blocks) (braced_words depth (says phrase.WritersImpl ∷ []) (writer_line (depth + 1)) calls)

readers_front : (version : Version) → (depth : ℕ) (readers : Option (List Reader)) (writers : Option (List Writer)) (blocks : List Values) → lines_words (readers_lines depth readers) ++ (writers_part version).words (writers, blocks) ≡ (readers_part version).words (readers, (writers, blocks))
unfolding readers_part readers_reading reader_reading words_behind
readers_front version depth None writers blocks = refl
readers_front version depth (Some calls) writers blocks = ap (λ xs. xs ++ (writers_part version).words (writers, blocks)) (braced_words depth (says phrase.ReadersImpl ∷ []) (reader_line (depth + 1)) calls)

markers_front : (version : Version) → (depth : ℕ) (markers : List Word) (parts : Option (List Reader) × (Option (List Writer) × List Values)) → lines_words (map (marker_line depth) markers) ++ (readers_part version).words parts ≡ (markers_part version).words (markers, parts)
unfolding markers_part marker_reading words_behind
markers_front version depth markers parts = ap (λ xs. xs ++ (readers_part version).words parts) (flat_map-map line_words (marker_line depth) markers)

writable_front : (version : Version) → (depth : ℕ) (masks : Option Writable) (parts : Constant × (List Word × (Option (List Reader) × (Option (List Writer) × List Values)))) → lines_words (writable_lines depth masks) ++ (reset_part version).words parts ≡ (writable_part version).words (masks, parts)
unfolding writable_part writable_reading words_behind
writable_front version depth None parts = refl
writable_front version depth (Some masks) parts = refl

readable_front : (version : Version) → (depth : ℕ) (readable : Bool) (parts : Option Writable × (Constant × (List Word × (Option (List Reader) × (Option (List Writer) × List Values))))) → lines_words (readable_lines depth readable) ++ (writable_part version).words parts ≡ (readable_part version).words (readable, parts)
unfolding readable_part words_behind
readable_front version depth true parts = refl
readable_front version depth false parts = refl

-- the parts of a register module behind its head, up to the brace
parts_words : (version : Version) → (depth : ℕ) (unit : RegisterModule) → lines_words (readable_lines depth unit.readable ++ (writable_lines depth unit.writable ++ (reset_line depth unit.reset ∷ (map (marker_line depth) unit.markers ++ (readers_lines depth unit.readers ++ (writers_lines depth unit.writers ++ flat_map (values_lines depth) unit.values)))))) ++ closer ≡ (readable_part version).words (register_parts unit).1.1
unfolding reset_part reset_reading words_behind
parts_words version depth unit =
    let values = flat_map (values_lines depth) unit.values in
    let writers = writers_lines depth unit.writers in
    let readers = readers_lines depth unit.readers in
    let markers = map (marker_line depth) unit.markers in
    let of_writers = split writers values closer ∙ (ap (λ xs. lines_words writers ++ xs) (values_end depth unit.values) ∙ (writers_front version) depth unit.writers unit.values) in
    let of_readers = split readers (writers ++ values) closer ∙ (ap (λ xs. lines_words readers ++ xs) of_writers ∙ (readers_front version) depth unit.readers unit.writers unit.values) in
    let of_markers = split markers (readers ++ (writers ++ values)) closer ∙ (ap (λ xs. lines_words markers ++ xs) of_readers ∙ (markers_front version) depth unit.markers (unit.readers, (unit.writers, unit.values))) in
    let of_reset : lines_words (reset_line depth unit.reset ∷ (markers ++ (readers ++ (writers ++ values)))) ++ closer ≡ (reset_part version).words (unit.reset, (unit.markers, (unit.readers, (unit.writers, unit.values)))) = ap (λ xs. reset_words unit.reset ++ xs) of_markers in
    let of_writable = split (writable_lines depth unit.writable) (reset_line depth unit.reset ∷ (markers ++ (readers ++ (writers ++ values)))) closer ∙ (ap (λ xs. lines_words (writable_lines depth unit.writable) ++ xs) of_reset ∙ (writable_front version) depth unit.writable (unit.reset, (unit.markers, (unit.readers, (unit.writers, unit.values))))) in
    split (readable_lines depth unit.readable) (writable_lines depth unit.writable ++ (reset_line depth unit.reset ∷ (markers ++ (readers ++ (writers ++ values))))) closer ∙ (ap (λ xs. lines_words (readable_lines depth unit.readable) ++ xs) of_writable ∙ (readable_front version) depth unit.readable (unit.writable, (unit.reset, (unit.markers, (unit.readers, (unit.writers, unit.values))))))

-- the words of a register module at any depth
pub register_lines-words : (version : Version) → (depth : ℕ) (unit : RegisterModule) → lines_words (register_lines depth unit) ≡ (register_raw version).words (register_parts unit)
unfolding register_lines register_raw width_reading words_behind
register_lines-words version depth unit =
    ap (λ xs. line_words (line depth (says phrase.PubMod ∷ word unit.name ∷ says phrase.OpensModule ∷ [])) ++ xs) (flat_map-append line_words (part_lines (depth + 1) unit) (fixed depth (text_of phrase.Closer) ∷ []))
    ∙ ap (λ xs. words_of phrase.PubMod ++ ((unit.name ∷ []) ++ ((words_of phrase.OpensModule ++ (words_of phrase.UsePrelude ++ (words_of phrase.SpecStruct ++ words_of phrase.OpensSpec))) ++ ((width_word unit.word ∷ []) ++ (words_of phrase.ClosesSpec ++ xs))))) ((parts_words version) (depth + 1) unit)

-- ---- validity

values_valid : (blocks : List Values) → list_all valid_values blocks ≡ values_part.is_valid blocks
unfolding values_part values_reading
values_valid blocks = sym (and-true (list_all valid_values blocks))

writers_valid : (version : Version) → (writers : Option (List Writer)) (blocks : List Values) → (valid_option (list_all (valid_writer version)) writers && list_all valid_values blocks) ≡ (writers_part version).is_valid (writers, blocks)
unfolding writers_part writers_reading writer_reading
writers_valid version None blocks = values_valid blocks
writers_valid version (Some calls) blocks = ap₂ (λ x y. x && y) (sym (and-true (list_all (valid_writer version) calls))) (values_valid blocks)

readers_valid : (version : Version) → (readers : Option (List Reader)) (writers : Option (List Writer)) (blocks : List Values) → (valid_option (list_all (valid_reader version)) readers && (valid_option (list_all (valid_writer version)) writers && list_all valid_values blocks)) ≡ (readers_part version).is_valid (readers, (writers, blocks))
unfolding readers_part readers_reading reader_reading
readers_valid version None writers blocks = (writers_valid version) writers blocks
readers_valid version (Some calls) writers blocks = ap₂ (λ x y. x && y) (sym (and-true (list_all (valid_reader version) calls))) ((writers_valid version) writers blocks)

markers_valid : (version : Version) → (markers : List Word) (readers : Option (List Reader)) (writers : Option (List Writer)) (blocks : List Values) → (list_all is_identifier markers && (valid_option (list_all (valid_reader version)) readers && (valid_option (list_all (valid_writer version)) writers && list_all valid_values blocks))) ≡ (markers_part version).is_valid (markers, (readers, (writers, blocks)))
unfolding markers_part marker_reading
markers_valid version markers readers writers blocks = ap (λ b. list_all is_identifier markers && b) ((readers_valid version) readers writers blocks)

reset_valid : (version : Version) → (constant : Constant) (markers : List Word) (readers : Option (List Reader)) (writers : Option (List Writer)) (blocks : List Values) → (valid_constant constant && (list_all is_identifier markers && (valid_option (list_all (valid_reader version)) readers && (valid_option (list_all (valid_writer version)) writers && list_all valid_values blocks)))) ≡ (reset_part version).is_valid (constant, (markers, (readers, (writers, blocks))))
unfolding reset_part reset_reading
reset_valid version constant markers readers writers blocks = ap (λ b. valid_constant constant && b) ((markers_valid version) markers readers writers blocks)

writable_valid : (version : Version) → (masks : Option Writable) (constant : Constant) (markers : List Word) (readers : Option (List Reader)) (writers : Option (List Writer)) (blocks : List Values) → (valid_option valid_writable masks && (valid_constant constant && (list_all is_identifier markers && (valid_option (list_all (valid_reader version)) readers && (valid_option (list_all (valid_writer version)) writers && list_all valid_values blocks))))) ≡ (writable_part version).is_valid (masks, (constant, (markers, (readers, (writers, blocks)))))
unfolding writable_part writable_reading
writable_valid version None constant markers readers writers blocks = (reset_valid version) constant markers readers writers blocks
writable_valid version (Some masks) constant markers readers writers blocks = ap (λ b. valid_writable masks && b) ((reset_valid version) constant markers readers writers blocks)

readable_valid : (version : Version) → (readable : Bool) (parts : Option Writable × (Constant × (List Word × (Option (List Reader) × (Option (List Writer) × List Values))))) → (writable_part version).is_valid parts ≡ (readable_part version).is_valid (readable, parts)
unfolding readable_part
readable_valid version true parts = refl
readable_valid version false parts = refl

register_valid : (version : Version) → (unit : RegisterModule) → (valid_register version) unit ≡ (register_raw version).is_valid (register_parts unit)
unfolding valid_register register_raw width_reading
register_valid version unit =
    ap (λ b. is_identifier unit.name && b)
    ((writable_valid version) unit.writable unit.reset unit.markers unit.readers unit.writers unit.values
    ∙ (readable_valid version) unit.readable (unit.writable, (unit.reset, (unit.markers, (unit.readers, (unit.writers, unit.values))))))

pub register_exact : (version : Version) → IsExact RegisterModule (register_reading version)
unfolding register_reading
register_exact version = restated_exact register_words (valid_register version) (mapped register_of register_parts (register_raw version)) ((register_lines-words version) 0) (register_valid version) (mapped_exact register_of register_parts (register_raw version) (λ tree. refl) (λ tree. refl) (register_raw_exact version))
