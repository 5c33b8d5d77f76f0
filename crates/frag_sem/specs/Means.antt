-- Which events a script has against a crate text, as a relation that has no case for what isn't there: a name that isn't bound, a place of no register, a register that can't be read or written, a field or a method of nothing, a truth in place of a number or a number in place of a truth, a number too great.
use Rattle.std.specs.Prelude.{ℕ, ◌≡◌, ◌<◌, ◌+◌, ◌*◌, ◌%◌, ◌^◌, Bool, true, false, ◌==◌, IsTrue, IsSomeAnd, List, [], ◌∷◌, ◌++◌, codes, drop, find, Option, Some, None}
use Rattle.std.specs.Str.{bytes_eq}
use Rattle.pac_base.specs.declared.width.Width.{Width}
use Rattle.pac_base.specs.Widths.{bits_of}
use Rattle.frag_tree.specs.declared.event.Event.{Event}
use Rattle.frag_tree.specs.declared.event.Event.TheVariants as event
use Rattle.frag_tree.specs.declared.event.Said.{Said}
use Rattle.frag_tree.specs.declared.event.Said.TheVariants.{Number, Truth}
use Rattle.frag_tree.specs.declared.register.NumberCall.{NumberCall}
use Rattle.frag_tree.specs.declared.register.ReadForm.{ReadForm}
use Rattle.frag_tree.specs.declared.register.ReadForm.TheVariants as read
use Rattle.frag_tree.specs.declared.register.Reader.{Reader}
use Rattle.frag_tree.specs.declared.register.RegisterModule.{RegisterModule}
use Rattle.frag_tree.specs.declared.register.Spot.{Spot}
use Rattle.frag_tree.specs.declared.register.Spot.TheVariants as spot
use Rattle.frag_tree.specs.declared.register.TruthCall.{TruthCall}
use Rattle.frag_tree.specs.declared.register.Writable.{Writable}
use Rattle.frag_tree.specs.declared.register.WriteForm.{WriteForm}
use Rattle.frag_tree.specs.declared.register.WriteForm.TheVariants as write
use Rattle.frag_tree.specs.declared.register.Writer.{Writer}
use Rattle.frag_tree.specs.declared.script.Script.{Script}
use Rattle.frag_tree.specs.declared.script.ScriptLine.{ScriptLine}
use Rattle.frag_tree.specs.declared.statement.Atom.{Atom}
use Rattle.frag_tree.specs.declared.statement.Atom.TheVariants as atom
use Rattle.frag_tree.specs.declared.statement.Call.{Call}
use Rattle.frag_tree.specs.declared.statement.Link.{Link}
use Rattle.frag_tree.specs.declared.statement.Link.TheVariants as link
use Rattle.frag_tree.specs.declared.statement.Place.{Place}
use Rattle.frag_tree.specs.declared.statement.Source.{Source}
use Rattle.frag_tree.specs.declared.statement.Source.TheVariants as source
use Rattle.frag_tree.specs.declared.statement.Statement.{Statement}
use Rattle.frag_tree.specs.declared.statement.Statement.TheVariants as statement
use Rattle.frag_tree.specs.declared.statement.Value.{Value}
use Rattle.frag_tree.specs.Trees.{CrateTree}
use Rattle.frag_sem.specs.CallPlaces.{RegisterAt}
use Rattle.frag_sem.specs.Meaning.{next_answer}
use Rattle.frag_sem.specs.PlaceIs.{PlaceIs}
use Rattle.frag_sem.specs.Presets.{Preset}
use Rattle.frag_sem.specs.PreludeCalls.{bit_tests, bit_writes}
use Rattle.frag_sem.specs.PreludeWords.{as_bits, bit_of, is_set, same_truth, start_word, taken, written}
use Rattle.frag_sem.specs.ProxyTypes.{numbers_on, reader_type, truths_on, writer_type}
use Rattle.frag_sem.specs.ScriptTyping.{reader_name}
use Rattle.frag_sem.specs.TextMeaning.{reader_named, writer_named}

-- a name that is bound: the register module, and the word that was read
pub record Held : Type 0 where
  pub name : List ℕ
  pub register : RegisterModule
  pub word : ℕ

abbrev pub held_as : List ℕ → List Held → Option Held
held_as name names = find (λ held. bytes_eq name held.name) names

-- the field lies here: a spot without a count takes no index, and one with a count takes an index below it
abbrev pub SpotIs : Spot → Option ℕ → ℕ → Type 0
SpotIs (spot.Fixed place) None at = at ≡ place
SpotIs (spot.Fixed place) (Some index) at = ⊥
SpotIs (spot.Indexed offset step count) None at = ⊥
SpotIs (spot.Indexed offset step count) (Some index) at = (index < count) × (at ≡ offset + index * step)

-- ---- what is read

-- `bit` gives the truth, another call whether it is what that stands for
abbrev pub TestGives : (is_plain : Bool) → Option TruthCall → Bool → Said → Type 0
TestGives true call bit said = said ≡ Truth bit
TestGives false None bit said = ⊥
TestGives false (Some call) bit said = said ≡ Truth (same_truth bit call.value)

-- `bits` gives the number, another call whether it is what that stands for
abbrev pub CompareGives : (is_plain : Bool) → Option NumberCall → ℕ → Said → Type 0
CompareGives true call value said = said ≡ Number value
CompareGives false None value said = ⊥
CompareGives false (Some call) value said = said ≡ Truth (value == call.value)

-- what a method of a reader gives of a word
abbrev pub FormGives : RegisterModule → Reader → Option ℕ → List ℕ → ℕ → ReadForm → Said → Type 0
FormGives unit reader index method word (read.Bit spot mask) said =
    (at : ℕ) × SpotIs spot index at
    × TestGives (bytes_eq method (codes "bit")) (find (λ call. bytes_eq method call.name) (bit_tests ++ truths_on (reader_type reader) unit.values)) (is_set (taken word at mask)) said
FormGives unit reader index method word (read.Field width spot mask) said =
    (at : ℕ) × SpotIs spot index at
    × CompareGives (bytes_eq method (codes "bits")) (find (λ call. bytes_eq method call.name) (numbers_on (reader_type reader) unit.values)) (as_bits (bits_of width) (taken word at mask)) said

-- what a method of a field gives of a word
abbrev pub FieldGives : RegisterModule → Call → List ℕ → ℕ → Said → Type 0
FieldGives unit field method word said = IsSomeAnd (reader_named field.name unit) (λ reader. FormGives unit reader field.index method word reader.form said)

-- ---- values

abbrev pub SourceIs : List Held → Source → Said → Type 0
SourceIs names (source.Bits reader) said = IsSomeAnd (held_as reader names) (λ held. said ≡ Number held.word)
SourceIs names (source.Field reader field method) said = IsSomeAnd (held_as reader names) (λ held. FieldGives held.register field method held.word said)

-- `as` cuts a number
abbrev pub AtomIs : List Held → Atom → Said → Type 0
AtomIs names (atom.Number value) said = said ≡ Number value
AtomIs names (atom.Truth value) said = said ≡ Truth value
AtomIs names (atom.Source read) said = SourceIs names read said
AtomIs names (atom.Cast read width) said = (value : ℕ) × SourceIs names read (Number value) × (said ≡ Number (as_bits (bits_of width) value))

-- an odd number of `!` turns a truth around, and none stands before a number
abbrev pub Negated : ℕ → Said → Said → Type 0
Negated negations (Number value) said = (negations ≡ 0) × (said ≡ Number value)
Negated negations (Truth value) said = said ≡ Truth (same_truth (negations % 2 == 0) value)

abbrev pub ValueIs : List Held → Value → Said → Type 0
ValueIs names value said = (inner : Said) × AtomIs names value.atom inner × Negated value.negations inner said

-- a value of a number type
abbrev pub NumberIs : List Held → Width → Value → ℕ → Type 0
NumberIs names width value number = ValueIs names value (Number number) × (number < 2 ^ bits_of width)

-- ---- what is written

-- `bit` writes its value, another call what it stands for
abbrev pub BitTakes : (is_plain : Bool) → Option TruthCall → List Held → Option Value → Bool → Type 0
BitTakes true call names None bit = ⊥
BitTakes true call names (Some value) bit = ValueIs names value (Truth bit)
BitTakes false None names value bit = ⊥
BitTakes false (Some call) names None bit = bit ≡ call.value
BitTakes false (Some call) names (Some value) bit = ⊥

-- `bits` writes its value, another call what it stands for
abbrev pub BitsTake : (is_plain : Bool) → Option NumberCall → List Held → Width → Option Value → ℕ → Type 0
BitsTake true call names width None number = ⊥
BitsTake true call names width (Some value) number = NumberIs names width value number
BitsTake false None names width value number = ⊥
BitsTake false (Some call) names width None number = number ≡ call.value
BitsTake false (Some call) names width (Some value) number = ⊥

-- what a method of a writer makes of a word
abbrev pub FormMakes : RegisterModule → Writer → List Held → Option ℕ → List ℕ → Option Value → ℕ → WriteForm → ℕ → Type 0
FormMakes unit writer names index method value word (write.Bit kind spot) next =
    (at : ℕ) × (bit : Bool) × SpotIs spot index at
    × BitTakes (bytes_eq method (codes "bit")) (find (λ call. bytes_eq method call.name) (bit_writes kind ++ truths_on (writer_type writer) unit.values)) names value bit
    × (next ≡ written (bits_of unit.word) word at 1 (bit_of bit))
FormMakes unit writer names index method value word (write.Field width bits spot) next =
    (at : ℕ) × (number : ℕ) × SpotIs spot index at
    × BitsTake (bytes_eq method (codes "bits")) (find (λ call. bytes_eq method call.name) (numbers_on (writer_type writer) unit.values)) names width value number
    × (next ≡ written (bits_of unit.word) word at bits number)

-- what a link makes of a word: `bits` of the writer makes it its value
abbrev pub LinkMakes : RegisterModule → List Held → ℕ → Link → ℕ → Type 0
LinkMakes unit names word (link.Bits value) next = NumberIs names unit.word value next
LinkMakes unit names word (link.Field field method value) next = IsSomeAnd (writer_named field.name unit) (λ writer. FormMakes unit writer names field.index method value word writer.form next)

-- what a chain makes of a word, link by link
unfoldable pub ChainMakes : RegisterModule → List Held → ℕ → List Link → ℕ → Type 0
ChainMakes unit names word [] end = end ≡ word
ChainMakes unit names word (first ∷ others) end = (next : ℕ) × LinkMakes unit names word first next × ChainMakes unit names next others end

-- ---- statements

-- the answers that are left, and the names that are bound
pub record Known : Type 0 where
  pub answers : List ℕ
  pub names : List Held

abbrev pub answer_at : RegisterAt → Known → ℕ
answer_at found known = next_answer (bits_of found.register.word) known.answers

abbrev pub holding : List ℕ → RegisterAt → Known → Held
holding name found known = record { name = name; register = found.register; word = answer_at found known }

-- the names within the chain of a `modify`, which may name what it read
abbrev pub held_within : Bool → RegisterAt → Known → List Held
held_within true found known = holding reader_name found known ∷ known.names
held_within false found known = known.names

-- a register that can be read stands at the place
pub record ReadableAt (krate : CrateTree) (place : Place) (found : RegisterAt) : Type 0 where
  pub place_is : PlaceIs krate place found
  pub readable : IsTrue found.register.readable

-- a register that can be written stands at the place, with its two masks
pub record WritableAt (krate : CrateTree) (place : Place) (found : RegisterAt) (masks : Writable) : Type 0 where
  pub place_is : PlaceIs krate place found
  pub writable : found.register.writable ≡ Some masks

-- the word from which a write starts that is based on this word
abbrev pub start_of : RegisterAt → Writable → ℕ → ℕ
start_of found masks base = start_word (bits_of found.register.word) base masks.one_to_modify.value masks.zero_to_modify.value

-- one write of what a chain makes of a word
pub record Written (found : RegisterAt) (names : List Held) (word : ℕ) (chain : List Link) (made : Event) : Type 0 where
  pub end : ℕ
  pub makes : ChainMakes found.register names word chain end
  pub made_is : made ≡ event.Write found.address found.register.word end

-- one read, whose word is the next answer
abbrev pub reading : RegisterAt → Known → Event
reading found known = event.Read found.address found.register.word (answer_at found known)

-- a write that starts from a word of the register, and changes nothing that is known
pub record PlainWrite (krate : CrateTree) (known : Known) (place : Place) (chain : List Link) (base : RegisterAt → Writable → ℕ) (events : List Event) (after : Known) : Type 0 where
  pub found : RegisterAt
  pub masks : Writable
  pub at : WritableAt krate place found masks
  pub made : Event
  pub written : Written found known.names (base found masks) chain made
  pub events_are : events ≡ made ∷ []
  pub after_is : after ≡ known

-- a read, and then a write that starts from what was read
pub record ReadWrite (krate : CrateTree) (known : Known) (place : Place) (names_reader : Bool) (chain : List Link) (events : List Event) (after : Known) : Type 0 where
  pub found : RegisterAt
  pub masks : Writable
  pub readable : ReadableAt krate place found
  pub at : WritableAt krate place found masks
  pub made : Event
  pub written : Written found (held_within names_reader found known) (start_of found masks (answer_at found known)) chain made
  pub events_are : events ≡ reading found known ∷ made ∷ []
  pub after_is : after ≡ record { answers = drop 1 known.answers; names = known.names }

-- a read whose word is bound
pub record NamedRead (krate : CrateTree) (known : Known) (name : List ℕ) (place : Place) (events : List Event) (after : Known) : Type 0 where
  pub found : RegisterAt
  pub at : ReadableAt krate place found
  pub events_are : events ≡ reading found known ∷ []
  pub after_is : after ≡ record { answers = drop 1 known.answers; names = holding name found known ∷ known.names }

-- a write of the reset word
pub record ResetWrite (krate : CrateTree) (known : Known) (place : Place) (events : List Event) (after : Known) : Type 0 where
  pub found : RegisterAt
  pub masks : Writable
  pub at : WritableAt krate place found masks
  pub events_are : events ≡ event.Write found.address found.register.word found.register.reset.value ∷ []
  pub after_is : after ≡ known

-- a statement has these events, and leaves this known
abbrev pub StatementMeans : CrateTree → Known → Statement → List Event → Known → Type 0
StatementMeans krate known (statement.Let name place) events after = NamedRead krate known name place events after
StatementMeans krate known (statement.Write place chain) events after = PlainWrite krate known place chain (λ found masks. start_of found masks found.register.reset.value) events after
StatementMeans krate known (statement.WriteWithZero place chain) events after = PlainWrite krate known place chain (λ found masks. 0) events after
StatementMeans krate known (statement.Modify place names_reader chain) events after = ReadWrite krate known place names_reader chain events after
StatementMeans krate known (statement.Reset place) events after = ResetWrite krate known place events after
StatementMeans krate known (statement.Say value) events after = (said : Said) × ValueIs known.names value said × (events ≡ event.Say said ∷ []) × (after ≡ known)

-- ---- scripts

-- the events of a statement, and then those of the lines behind it
pub record Then (here : List Event → Known → Type 0) (others : Known → List Event → Type 0) (events : List Event) : Type 0 where
  pub first : List Event
  pub after : Known
  pub later : List Event
  pub here_is : here first after
  pub later_is : others after later
  pub events_are : events ≡ first ++ later

unfoldable pub LinesMean : CrateTree → List ScriptLine → Known → List Event → Type 0
LinesMean krate [] known events = events ≡ []
LinesMean krate (line ∷ lines) known events = Then (StatementMeans krate known line.statement) (LinesMean krate lines) events

-- A script has these events against a crate, where the k-th read has the k-th answer.
unfoldable pub Means : CrateTree → Script → List ℕ → List Event → Type 0
Means krate script answers events = LinesMean krate script.lines (record { answers = answers; names = [] }) events

-- ---- presets

-- a place that is called has the preset of the register that stands there, and so have the others
pub record PresetThen (krate : CrateTree) (place : Place) (rest : List Preset → Type 0) (presets : List Preset) : Type 0 where
  pub found : RegisterAt
  pub place_is : PlaceIs krate place found
  pub others : List Preset
  pub presets_are : presets ≡ record { address = found.address; width = found.register.word; value = found.register.reset.value } ∷ others
  pub others_are : rest others

-- one preset for each place
unfoldable pub PresetsAre : CrateTree → List Place → List Preset → Type 0
PresetsAre krate [] presets = presets ≡ []
PresetsAre krate (place ∷ places) presets = PresetThen krate place (PresetsAre krate places) presets
