-- What a script does against a crate text: the events that the text's bodies and the prelude give (this project's own rule). It looks at the text alone.
use Rattle.std.specs.Prelude.{ℕ, Bool, ◌==◌, List, ◌++◌, codes, find, Option, Some, None, option_map, unwrap_or, if◌then◌else◌}
use Rattle.std.specs.Str.{bytes_eq}
use Rattle.pac_base.specs.Widths.{bits_of}
use Rattle.frag_tree.specs.declared.event.Event.{Event}
use Rattle.frag_tree.specs.declared.event.Said.{Said}
use Rattle.frag_tree.specs.declared.event.Said.TheVariants.{Number, Truth}
use Rattle.frag_tree.specs.declared.register.NumberCall.{NumberCall}
use Rattle.frag_tree.specs.declared.register.ReadForm.{ReadForm}
use Rattle.frag_tree.specs.declared.register.ReadForm.TheVariants as read
use Rattle.frag_tree.specs.declared.register.Reader.{Reader}
use Rattle.frag_tree.specs.declared.register.RegisterModule.{RegisterModule}
use Rattle.frag_tree.specs.declared.register.TruthCall.{TruthCall}
use Rattle.frag_tree.specs.declared.register.WriteForm.{WriteForm}
use Rattle.frag_tree.specs.declared.register.WriteForm.TheVariants as write
use Rattle.frag_tree.specs.declared.register.Writer.{Writer}
use Rattle.frag_tree.specs.declared.script.Script.{Script}
use Rattle.frag_tree.specs.Trees.{CrateTree}
use Rattle.frag_sem.specs.CallPlaces.{RegisterAt, register_at}
use Rattle.frag_sem.specs.PreludeCalls.{bit_tests, bit_writes}
use Rattle.frag_sem.specs.PreludeWords.{as_bits, bit_of, is_set, same_truth, start_word, taken, written}
use Rattle.frag_sem.specs.ProxyTypes.{numbers_on, reader_type, readers_of, truths_on, writer_type, writers_of}
use Rattle.frag_sem.specs.Spots.{spot_at}
use Rattle.frag_sem.specs.Meaning.{Acts, ActsAt, Places, meaning}
use Rattle.frag_sem.specs.Presets.{Preset, presets}

-- A fitting script against a fitting crate has a meaning in each of its parts. Elsewhere what isn't there does nothing, and gives 0.

-- ---- what is read

-- a call that compares with what it stands for
abbrev pub compared_truth : Bool → Option TruthCall → Said
compared_truth bit None = Number 0
compared_truth bit (Some call) = Truth (same_truth bit call.value)

abbrev pub compared_number : ℕ → Option NumberCall → Said
compared_number value None = Number 0
compared_number value (Some call) = Truth (value == call.value)

-- What the calls of a bit's reader give: `bit` the truth, the others whether it is what they stand for.
abbrev pub bit_given : List TruthCall → List ℕ → Bool → Said
bit_given calls method bit = if bytes_eq method (codes "bit") then Truth bit else compared_truth bit (find (λ call. bytes_eq method call.name) (bit_tests ++ calls))

-- What the calls of a field's reader give: `bits` the number, the others whether it is what they stand for.
abbrev pub bits_given : List NumberCall → List ℕ → ℕ → Said
bits_given calls method value = if bytes_eq method (codes "bits") then Number value else compared_number value (find (λ call. bytes_eq method call.name) calls)

-- a reader is its shift by the spot, its mask and its cast
abbrev pub form_given : RegisterModule → Reader → Option ℕ → List ℕ → ℕ → ReadForm → Said
form_given unit reader index method word (read.Bit spot mask) = bit_given (truths_on (reader_type reader) unit.values) method (is_set (taken word (spot_at spot index) mask))
form_given unit reader index method word (read.Field width spot mask) =
    bits_given (numbers_on (reader_type reader) unit.values) method (as_bits (bits_of width) (taken word (spot_at spot index) mask))

abbrev pub reader_given : RegisterModule → Option ℕ → List ℕ → ℕ → Option Reader → Said
reader_given unit index method word None = Number 0
reader_given unit index method word (Some reader) = form_given unit reader index method word reader.form

-- the call that reads a field
abbrev pub reader_named : List ℕ → RegisterModule → Option Reader
reader_named name unit = find (λ reader. bytes_eq name reader.name) (readers_of unit)

-- what a method of a field gives of a word that was read
unfoldable pub field_given : RegisterModule → List ℕ → Option ℕ → List ℕ → ℕ → Said
field_given unit field index method word = reader_given unit index method word (reader_named field unit)

-- ---- what is written

-- what a call writes that stands for something
abbrev pub truth_or : Option TruthCall → ℕ → ℕ
truth_or None value = value
truth_or (Some call) value = bit_of call.value

abbrev pub number_or : Option NumberCall → ℕ → ℕ
number_or None value = value
number_or (Some call) value = call.value

-- What the calls of a bit's writer write: `bit` its value, the others what they stand for.
abbrev pub bit_put : List TruthCall → List ℕ → ℕ → ℕ
bit_put calls method value = if bytes_eq method (codes "bit") then value else truth_or (find (λ call. bytes_eq method call.name) calls) value

-- What the calls of a field's writer write: `bits` its value, the others what they stand for.
abbrev pub bits_put : List NumberCall → List ℕ → ℕ → ℕ
bits_put calls method value = if bytes_eq method (codes "bits") then value else number_or (find (λ call. bytes_eq method call.name) calls) value

-- a writer of N-bit words is the prelude's formula, of one bit or of its width at the spot
abbrev pub form_written : RegisterModule → Writer → Option ℕ → List ℕ → ℕ → ℕ → WriteForm → ℕ
form_written unit writer index method value word (write.Bit kind spot) =
    written (bits_of unit.word) word (spot_at spot index) 1 (bit_put (bit_writes kind ++ truths_on (writer_type writer) unit.values) method value)
form_written unit writer index method value word (write.Field width bits spot) =
    written (bits_of unit.word) word (spot_at spot index) bits (bits_put (numbers_on (writer_type writer) unit.values) method value)

abbrev pub writer_written : RegisterModule → Option ℕ → List ℕ → ℕ → ℕ → Option Writer → ℕ
writer_written unit index method value word None = word
writer_written unit index method value word (Some writer) = form_written unit writer index method value word writer.form

-- the call that writes a field
abbrev pub writer_named : List ℕ → RegisterModule → Option Writer
writer_named name unit = find (λ writer. bytes_eq name writer.name) (writers_of unit)

-- what a method of a field makes of a word, where the method may take a value
unfoldable pub field_written : RegisterModule → List ℕ → Option ℕ → List ℕ → ℕ → ℕ → ℕ
field_written unit field index method value word = writer_written unit index method value word (writer_named field unit)

-- the two masks of a register module, 0 where it isn't `Writable`
abbrev pub one_to_modify : RegisterModule → ℕ
one_to_modify unit = unwrap_or (option_map (λ masks. masks.one_to_modify.value) unit.writable) 0

abbrev pub zero_to_modify : RegisterModule → ℕ
zero_to_modify unit = unwrap_or (option_map (λ masks. masks.zero_to_modify.value) unit.writable) 0

-- the word from which a write starts that is based on this word
abbrev pub started : RegisterModule → ℕ → ℕ
started unit base = start_word (bits_of unit.word) base (one_to_modify unit) (zero_to_modify unit)

-- ---- a crate

abbrev pub text_acts : RegisterModule → Acts
text_acts unit = record {
  width = unit.word;
  reset = unit.reset.value;
  start = started unit;
  given = field_given unit;
  put = field_written unit;
}

abbrev pub acts_at : RegisterAt → ActsAt
acts_at found = record { address = found.address; acts = text_acts found.register }

-- what stands at the places of a crate
abbrev pub text_at : CrateTree → Places
text_at krate place = option_map acts_at (register_at krate place)

-- The events of a script against a crate, where the k-th read gives the k-th answer.
unfoldable pub text_meaning : CrateTree → Script → List ℕ → List Event
text_meaning krate script answers = meaning (text_at krate) script answers

-- the presets of a script against a crate
unfoldable pub text_presets : CrateTree → Script → List Preset
text_presets krate script = presets (text_at krate) script
