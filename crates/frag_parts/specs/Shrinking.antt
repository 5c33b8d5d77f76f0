-- No item of a list is without words.
use Rattle.std.proofs.Common.{◌≤◌, arith, length, length-append, ap, drop, Bool, true, false}
use Rattle.std.specs.Prelude.{codes}
use Rattle.frag_words.specs.Readings.{IsExact, Reading}
use Rattle.frag_words.specs.Words.{Word, words_behind}
use Rattle.frag_tree.specs.declared.krate.Version.{Version}
use Rattle.frag_tree.specs.Productions.{access_reading, field_reading, slot_reading}
use Rattle.frag_tree.specs.RegisterProductions.{marker_reading, number_test, number_write, reader_reading, truth_test, truth_write, values_reading, writer_reading}
use Rattle.frag_tree.specs.declared.access.Access.{Access}
use Rattle.frag_tree.specs.declared.block.StructField.{StructField}
use Rattle.frag_tree.specs.declared.krate.Slot.{Slot}
use Rattle.frag_tree.specs.declared.register.NumberCall.{NumberCall}
use Rattle.frag_tree.specs.declared.register.Reader.{Reader}
use Rattle.frag_tree.specs.declared.register.TruthCall.{TruthCall}
use Rattle.frag_tree.specs.declared.register.Values.{Values}
use Rattle.frag_tree.specs.declared.register.Values.TheVariants as values
use Rattle.frag_tree.specs.declared.register.Writer.{Writer}
use Rattle.frag_tree.proofs.Braced.{one_word}
use Rattle.frag_tree.proofs.Productions.{access_exact, field_exact, slot_exact}
use Rattle.frag_tree.proofs.RegisterProductions.{marker_exact, number_test_exact, number_write_exact, reader_exact, truth_test_exact, truth_write_exact, writer_exact}
use Rattle.frag_tree.proofs.ValuesProductions.{values_exact}
use Rattle.frag_token.specs.Reading.{Shrinks}
use Rattle.frag_parts.specs.Reading.{number_calls, truth_calls}

pub shrinks_of : {A : Type 0} (reading : Reading A) → IsExact A reading → ((tree : A) → 1 ≤ length (reading.words tree)) → Shrinks reading.read
shrinks_of reading exact some text tree rest e =
    let taken = exact.takes text tree rest e in
    omega (arith, some tree, ap length taken.0, length-append (reading.words tree) rest)

slot_some : (tree : Slot) → 1 ≤ length (slot_reading.words tree)
unfolding slot_reading words_behind
slot_some tree = one_word (codes "pub") (drop 1 (slot_reading.words tree))

pub slot_shrinks : Shrinks slot_reading.read
slot_shrinks = shrinks_of slot_reading slot_exact slot_some

field_some : (tree : StructField) → 1 ≤ length (field_reading.words tree)
unfolding field_reading words_behind
field_some tree = one_word tree.name (drop 1 (field_reading.words tree))

pub field_shrinks : Shrinks field_reading.read
field_shrinks = shrinks_of field_reading field_exact field_some

access_some : (tree : Access) → 1 ≤ length (access_reading.words tree)
unfolding access_reading words_behind
access_some tree = one_word (codes "pub") (drop 1 (access_reading.words tree))

pub access_shrinks : Shrinks access_reading.read
access_shrinks = shrinks_of access_reading access_exact access_some

marker_some : (tree : Word) → 1 ≤ length (marker_reading.words tree)
unfolding marker_reading words_behind
marker_some tree = one_word (codes "pub") (drop 1 (marker_reading.words tree))

pub marker_shrinks : Shrinks marker_reading.read
marker_shrinks = shrinks_of marker_reading marker_exact marker_some

reader_some : (version : Version) → (tree : Reader) → 1 ≤ length ((reader_reading version).words tree)
unfolding reader_reading words_behind
reader_some version tree = one_word (codes "pub") (drop 1 ((reader_reading version).words tree))

pub reader_shrinks : (version : Version) → Shrinks (reader_reading version).read
reader_shrinks version = shrinks_of (reader_reading version) (reader_exact version) (reader_some version)

writer_some : (version : Version) → (tree : Writer) → 1 ≤ length ((writer_reading version).words tree)
unfolding writer_reading words_behind
writer_some version tree = one_word (codes "pub") (drop 1 ((writer_reading version).words tree))

pub writer_shrinks : (version : Version) → Shrinks (writer_reading version).read
writer_shrinks version = shrinks_of (writer_reading version) (writer_exact version) (writer_some version)

truth_test_some : (tree : TruthCall) → 1 ≤ length (truth_test.words tree)
unfolding truth_test words_behind
truth_test_some tree = one_word (codes "pub") (drop 1 (truth_test.words tree))

truth_test_shrinks : Shrinks truth_test.read
truth_test_shrinks = shrinks_of truth_test truth_test_exact truth_test_some

truth_write_some : (tree : TruthCall) → 1 ≤ length (truth_write.words tree)
unfolding truth_write words_behind
truth_write_some tree = one_word (codes "pub") (drop 1 (truth_write.words tree))

truth_write_shrinks : Shrinks truth_write.read
truth_write_shrinks = shrinks_of truth_write truth_write_exact truth_write_some

number_test_some : (tree : NumberCall) → 1 ≤ length (number_test.words tree)
unfolding number_test words_behind
number_test_some tree = one_word (codes "pub") (drop 1 (number_test.words tree))

number_test_shrinks : Shrinks number_test.read
number_test_shrinks = shrinks_of number_test number_test_exact number_test_some

number_write_some : (tree : NumberCall) → 1 ≤ length (number_write.words tree)
unfolding number_write words_behind
number_write_some tree = one_word (codes "pub") (drop 1 (number_write.words tree))

number_write_shrinks : Shrinks number_write.read
number_write_shrinks = shrinks_of number_write number_write_exact number_write_some

pub truth_calls_shrink : (reads : Bool) → Shrinks (truth_calls reads).read
truth_calls_shrink true = truth_test_shrinks
truth_calls_shrink false = truth_write_shrinks

pub number_calls_shrink : (reads : Bool) → Shrinks (number_calls reads).read
number_calls_shrink true = number_test_shrinks
number_calls_shrink false = number_write_shrinks

values_some : (tree : Values) → 1 ≤ length (values_reading.words tree)
unfolding values_reading words_behind
values_some (values.BitReading marker calls) = one_word (codes "impl") (drop 1 (values_reading.words (values.BitReading marker calls)))
values_some (values.FieldReading marker bits calls) = one_word (codes "impl") (drop 1 (values_reading.words (values.FieldReading marker bits calls)))
values_some (values.BitWriting kind marker calls) = one_word (codes "impl") (drop 1 (values_reading.words (values.BitWriting kind marker calls)))
values_some (values.FieldWriting marker bits wide calls) = one_word (codes "impl") (drop 1 (values_reading.words (values.FieldWriting marker bits wide calls)))

pub values_shrinks : Shrinks values_reading.read
values_shrinks = shrinks_of values_reading values_exact values_some
