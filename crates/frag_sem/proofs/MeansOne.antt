-- What a script means with nothing missing is its meaning.
use Rattle.std.proofs.Common.{ℕ, ◌≡◌, Bool, true, false, cond, List, [], ◌∷◌, ◌++◌, map, find, drop, Option, Some, None, option_map, bytes_eq, refl, sym, ap, ap₂, ◌∙◌, mod-eq_of_lt, mul-le-mul_right, mul_comm, arith, ◌-◌, ◌*◌, ◌≤◌, ◌<◌, filter_map}
use Rattle.std.specs.Prelude.{codes, if◌then◌else◌, unwrap_or, IsSomeAnd}
use Rattle.std.specs.List.{cons_option}
use Rattle.pac_base.specs.Widths.{bits_of}
use Rattle.pac_base.specs.declared.width.Width.{Width}
use Rattle.frag_tree.specs.declared.event.Event.{Event}
use Rattle.frag_tree.specs.declared.event.Event.TheVariants as event
use Rattle.frag_tree.specs.declared.event.Said.{Said}
use Rattle.frag_tree.specs.declared.event.Said.TheVariants.{Number, Truth}
use Rattle.frag_tree.specs.declared.register.NumberCall.{NumberCall}
use Rattle.frag_tree.specs.declared.register.ReadForm.{ReadForm}
use Rattle.frag_tree.specs.declared.register.ReadForm.TheVariants as read
use Rattle.frag_tree.specs.declared.register.Reader.{Reader}
use Rattle.frag_tree.specs.declared.register.RegisterModule.{RegisterModule}
use Rattle.frag_tree.specs.declared.register.Spot.{Spot}
use Rattle.frag_tree.specs.declared.register.Spot.TheVariants as spot
use Rattle.frag_tree.specs.declared.register.TruthCall.{TruthCall}
use Rattle.frag_tree.specs.declared.register.Writable.{Writable}
use Rattle.frag_tree.specs.declared.register.WriteForm.{WriteForm}
use Rattle.frag_tree.specs.declared.register.WriteForm.TheVariants as write
use Rattle.frag_tree.specs.declared.register.Writer.{Writer}
use Rattle.frag_tree.specs.declared.script.ScriptLine.{ScriptLine}
use Rattle.frag_tree.specs.declared.statement.Atom.{Atom}
use Rattle.frag_tree.specs.declared.statement.Atom.TheVariants as atom
use Rattle.frag_tree.specs.declared.statement.Call.{Call}
use Rattle.frag_tree.specs.declared.statement.Link.{Link}
use Rattle.frag_tree.specs.declared.statement.Link.TheVariants as link
use Rattle.frag_tree.specs.declared.statement.Place.{Place}
use Rattle.frag_tree.specs.declared.statement.Source.{Source}
use Rattle.frag_tree.specs.declared.statement.Source.TheVariants as source
use Rattle.frag_tree.specs.declared.statement.Statement.{Statement}
use Rattle.frag_tree.specs.declared.statement.Statement.TheVariants as statement
use Rattle.frag_tree.specs.declared.statement.Value.{Value}
use Rattle.frag_tree.specs.Trees.{CrateTree}
use Rattle.frag_sem.specs.CallPlaces.{RegisterAt, register_at}
use Rattle.frag_sem.specs.Laws.{MeansOne, MembersLieLower, PresetsOne}
use Rattle.frag_sem.specs.Meaning.{ActsAt, Bound, Outcome, Standing, argument, at_place, atom_value, bits_of_bound, bound_as, chain_written, events_then, field_of_bound, let_outcome, lines_meaning, link_written, meaning, modify_outcome, names_within, negated, number_said, outcome_of, reset_outcome, source_value, value_of, write_outcome}
use Rattle.frag_sem.specs.Means.{AtomIs, BitTakes, BitsTake, ChainMakes, CompareGives, FieldGives, FormGives, FormMakes, Held, Known, LinesMean, LinkMakes, Means, Negated, PresetsAre, SourceIs, SpotIs, StatementMeans, TestGives, ValueIs, answer_at, held_as, held_within, start_of}
use Rattle.frag_sem.specs.PreludeCalls.{bit_tests, bit_writes}
use Rattle.frag_sem.specs.PreludeWords.{as_bits, bit_of, is_set, start_word, taken, written}
use Rattle.frag_sem.specs.ProxyTypes.{numbers_on, reader_type, truths_on, writer_type}
use Rattle.frag_sem.specs.Presets.{Preset, called_places, preset_of, presets}
use Rattle.frag_sem.specs.Spots.{spot_at}
use Rattle.frag_sem.specs.TextMeaning.{acts_at, bit_given, bits_given, compared_number, compared_truth, field_given, field_written, form_given, form_written, number_or, reader_given, reader_named, started, text_acts, text_at, text_meaning, text_presets, truth_or, writer_named, writer_written}
use Rattle.frag_sem.proofs.PlacesFound.{place_found}

-- ---- bound names

-- a register module that is held, by its acts
abbrev pub bound_of : Held → Bound
bound_of held = record { name = held.name; acts = text_acts held.register; word = held.word }

pub bound_held : (name : List ℕ) (names : List Held) → bound_as name (map bound_of names) ≡ option_map bound_of (held_as name names)
bound_held name [] = refl
bound_held name (held ∷ names) = by (bytes_eq name held.name) (bound_held name names)
  where
    by : (b : Bool) → bound_as name (map bound_of names) ≡ option_map bound_of (held_as name names) → cond b (Some (bound_of held)) (bound_as name (map bound_of names)) ≡ option_map bound_of (cond b (Some held) (held_as name names))
    by true more = refl
    by false more = more

-- ---- what is read

pub spot_is : (s : Spot) (index : Option ℕ) (at : ℕ) → SpotIs s index at → at ≡ spot_at s index
spot_is (spot.Fixed place) None at h = h
spot_is (spot.Fixed place) (Some index) at h = absurd h
spot_is (spot.Indexed offset step count) None at h = absurd h
spot_is (spot.Indexed offset step count) (Some index) at h = h.1

pub members_lie_lower : MembersLieLower
members_lie_lower (spot.Fixed place) None at h = omega (arith, h)
members_lie_lower (spot.Fixed place) (Some index) at h = absurd h
members_lie_lower (spot.Indexed offset step count) None at h = absurd h
members_lie_lower (spot.Indexed offset step count) (Some index) at h =
    let below : index < count = h.0 in
    let earlier : index * step ≤ (count - 1) * step = mul-le-mul_right step (omega arith) in
    omega (arith, h.1, mul_comm (count - 1) step)

test_is : (plain : Bool) (call : Option TruthCall) (bit : Bool) (said : Said) → TestGives plain call bit said → (if plain then Truth bit else compared_truth bit call) ≡ said
test_is true call bit said h = sym h
test_is false None bit said h = absurd h
test_is false (Some call) bit said h = sym h

compare_is : (plain : Bool) (call : Option NumberCall) (value : ℕ) (said : Said) → CompareGives plain call value said → (if plain then Number value else compared_number value call) ≡ said
compare_is true call value said h = sym h
compare_is false None value said h = absurd h
compare_is false (Some call) value said h = sym h

form_is : (unit : RegisterModule) (reader : Reader) (index : Option ℕ) (method : List ℕ) (word : ℕ) (form : ReadForm) (said : Said) → FormGives unit reader index method word form said → form_given unit reader index method word form ≡ said
form_is unit reader index method word (read.Bit s mask) said h =
    ap (λ (n : ℕ). bit_given (truths_on (reader_type reader) unit.values) method (is_set (taken word n mask))) (sym (spot_is s index h.0 h.1))
    ∙ test_is (bytes_eq method (codes "bit")) (find (λ call. bytes_eq method call.name) (bit_tests ++ truths_on (reader_type reader) unit.values)) (is_set (taken word h.0 mask)) said h.2
form_is unit reader index method word (read.Field width s mask) said h =
    ap (λ (n : ℕ). bits_given (numbers_on (reader_type reader) unit.values) method (as_bits (bits_of width) (taken word n mask))) (sym (spot_is s index h.0 h.1))
    ∙ compare_is (bytes_eq method (codes "bits")) (find (λ call. bytes_eq method call.name) (numbers_on (reader_type reader) unit.values)) (as_bits (bits_of width) (taken word h.0 mask)) said h.2

field_is : (unit : RegisterModule) (field : Call) (method : List ℕ) (word : ℕ) (said : Said) → FieldGives unit field method word said → field_given unit field.name field.index method word ≡ said
unfolding field_given
field_is unit field method word said = by (reader_named field.name unit)
  where
    by : (o : Option Reader) → IsSomeAnd o (λ reader. FormGives unit reader field.index method word reader.form said) → reader_given unit field.index method word o ≡ said
    by None h = absurd h
    by (Some reader) h = form_is unit reader field.index method word reader.form said h

-- ---- values

source_is : (names : List Held) (source : Source) (said : Said) → SourceIs names source said → source_value (map bound_of names) source ≡ said
source_is names (source.Bits reader) said h = ap bits_of_bound (bound_held reader names) ∙ by (held_as reader names) h
  where
    by : (o : Option Held) → IsSomeAnd o (λ held. said ≡ Number held.word) → bits_of_bound (option_map bound_of o) ≡ said
    by None h = absurd h
    by (Some held) h = sym h
source_is names (source.Field reader field method) said h = ap (field_of_bound field method) (bound_held reader names) ∙ by (held_as reader names) h
  where
    by : (o : Option Held) → IsSomeAnd o (λ held. FieldGives held.register field method held.word said) → field_of_bound field method (option_map bound_of o) ≡ said
    by None h = absurd h
    by (Some held) h = field_is held.register field method held.word said h

atom_is : (names : List Held) (a : Atom) (said : Said) → AtomIs names a said → atom_value (map bound_of names) a ≡ said
atom_is names (atom.Number value) said h = sym h
atom_is names (atom.Truth value) said h = sym h
atom_is names (atom.Source source) said h = source_is names source said h
atom_is names (atom.Cast source width) said h = ap (λ inner. Number (as_bits (bits_of width) (number_said inner))) (source_is names source (Number h.0) h.1) ∙ sym h.2

negated_is : (negations : ℕ) (inner said : Said) → Negated negations inner said → negated negations inner ≡ said
negated_is negations (Number value) said h = sym h.1
negated_is negations (Truth value) said h = sym h

pub value_is : (names : List Held) (value : Value) (said : Said) → ValueIs names value said → value_of (map bound_of names) value ≡ said
unfolding value_of
value_is names value said h = ap (negated value.negations) (atom_is names value.atom h.0 h.1) ∙ negated_is value.negations h.0 said h.2

-- ---- what is written

bit_is : (plain : Bool) (call : Option TruthCall) (names : List Held) (value : Option Value) (bit : Bool) → BitTakes plain call names value bit → (if plain then argument (map bound_of names) value else truth_or call (argument (map bound_of names) value)) ≡ bit_of bit
bit_is true call names None bit h = absurd h
bit_is true call names (Some value) bit h = ap number_said (value_is names value (Truth bit) h)
bit_is false None names value bit h = absurd h
bit_is false (Some call) names None bit h = ap bit_of (sym h)
bit_is false (Some call) names (Some value) bit h = absurd h

bits_are : (plain : Bool) (call : Option NumberCall) (names : List Held) (width : Width) (value : Option Value) (number : ℕ) → BitsTake plain call names width value number → (if plain then argument (map bound_of names) value else number_or call (argument (map bound_of names) value)) ≡ number
bits_are true call names width None number h = absurd h
bits_are true call names width (Some value) number h = ap number_said (value_is names value (Number number) h.0)
bits_are false None names width value number h = absurd h
bits_are false (Some call) names width None number h = sym h
bits_are false (Some call) names width (Some value) number h = absurd h

made_is : (unit : RegisterModule) (writer : Writer) (names : List Held) (index : Option ℕ) (method : List ℕ) (value : Option Value) (word : ℕ) (form : WriteForm) (next : ℕ) → FormMakes unit writer names index method value word form next → form_written unit writer index method (argument (map bound_of names) value) word form ≡ next
made_is unit writer names index method value word (write.Bit kind s) next h =
    ap₂ (λ (n v : ℕ). written (bits_of unit.word) word n 1 v) (sym (spot_is s index h.0 h.2))
    (bit_is (bytes_eq method (codes "bit")) (find (λ call. bytes_eq method call.name) (bit_writes kind ++ truths_on (writer_type writer) unit.values)) names value h.1 h.3)
    ∙ sym h.4
made_is unit writer names index method value word (write.Field width bits s) next h =
    ap₂ (λ (n v : ℕ). written (bits_of unit.word) word n bits v) (sym (spot_is s index h.0 h.2))
    (bits_are (bytes_eq method (codes "bits")) (find (λ call. bytes_eq method call.name) (numbers_on (writer_type writer) unit.values)) names width value h.1 h.3)
    ∙ sym h.4

link_is : (unit : RegisterModule) (names : List Held) (word : ℕ) (one : Link) (next : ℕ) → LinkMakes unit names word one next → link_written (text_acts unit) (map bound_of names) word one ≡ next
unfolding field_written
link_is unit names word (link.Bits value) next h = ap (λ said. as_bits (bits_of unit.word) (number_said said)) (value_is names value (Number next) h.0) ∙ mod-eq_of_lt h.1
link_is unit names word (link.Field field method value) next h = by (writer_named field.name unit) h
  where
    by : (o : Option Writer) → IsSomeAnd o (λ writer. FormMakes unit writer names field.index method value word writer.form next) → writer_written unit field.index method (argument (map bound_of names) value) word o ≡ next
    by None h = absurd h
    by (Some writer) h = made_is unit writer names field.index method value word writer.form next h

chain_is : (unit : RegisterModule) (names : List Held) (word : ℕ) (chain : List Link) (end : ℕ) → ChainMakes unit names word chain end → chain_written (text_acts unit) (map bound_of names) word chain ≡ end
unfolding ChainMakes
chain_is unit names word [] end h = sym h
chain_is unit names word (first ∷ others) end h =
    ap (λ (w : ℕ). chain_written (text_acts unit) (map bound_of names) w others) (link_is unit names word first h.0 h.1) ∙ chain_is unit names h.0 others end h.2

-- ---- statements

abbrev pub standing_of : Known → Standing
standing_of known = record { answers = known.answers; names = map bound_of known.names }

-- the two masks are those that stand there
start_is : (found : RegisterAt) (masks : Writable) (base : ℕ) → found.register.writable ≡ Some masks → started found.register base ≡ start_of found masks base
start_is found masks base writable =
    ap (λ (o : Option Writable). start_word (bits_of found.register.word) base (unwrap_or (option_map (λ m. m.one_to_modify.value) o) 0) (unwrap_or (option_map (λ m. m.zero_to_modify.value) o) 0)) writable

-- what is done at a register that stands there
done_at : (krate : CrateTree) (place : Place) (found : RegisterAt) → register_at krate place ≡ Some found → (standing : Standing) (outcome : ActsAt → Outcome) → at_place (text_at krate place) standing outcome ≡ outcome (acts_at found)
done_at krate place found is standing outcome = ap (λ o. at_place (option_map acts_at o) standing outcome) is

within_is : (names_reader : Bool) (found : RegisterAt) (known : Known) → names_within names_reader (acts_at found) (answer_at found known) (map bound_of known.names) ≡ map bound_of (held_within names_reader found known)
within_is true found known = refl
within_is false found known = refl

pub statement_is : (krate : CrateTree) (known : Known) (said : Statement) (events : List Event) (after : Known) → StatementMeans krate known said events after → outcome_of (text_at krate) (standing_of known) said ≡ record { events = events; after = standing_of after }
unfolding outcome_of
statement_is krate known (statement.Let name place) events after h =
    done_at krate place h.found (place_found krate place h.found h.at.place_is) (standing_of known) (let_outcome name (standing_of known))
    ∙ ap₂ (λ e k. record { events = e; after = standing_of k }) (sym h.events_are) (sym h.after_is)
statement_is krate known (statement.Write place chain) events after h =
    let unit = h.found.register in
    let base = unit.reset.value in
    done_at krate place h.found (place_found krate place h.found h.at.place_is) (standing_of known) (λ found. write_outcome chain (standing_of known) found (found.acts.start found.acts.reset))
    ∙ (ap (λ (w : ℕ). write_outcome chain (standing_of known) (acts_at h.found) w) (start_is h.found h.masks base h.at.writable)
    ∙ (ap (λ (w : ℕ). record { events = event.Write h.found.address unit.word w ∷ []; after = standing_of known }) (chain_is unit known.names (start_of h.found h.masks base) chain h.written.end h.written.makes)
    ∙ ap₂ (λ e k. record { events = e; after = standing_of k }) (ap (λ e. e ∷ []) (sym h.written.made_is) ∙ sym h.events_are) (sym h.after_is)))
statement_is krate known (statement.WriteWithZero place chain) events after h =
    let unit = h.found.register in
    done_at krate place h.found (place_found krate place h.found h.at.place_is) (standing_of known) (λ found. write_outcome chain (standing_of known) found 0)
    ∙ (ap (λ (w : ℕ). record { events = event.Write h.found.address unit.word w ∷ []; after = standing_of known }) (chain_is unit known.names 0 chain h.written.end h.written.makes)
    ∙ ap₂ (λ e k. record { events = e; after = standing_of k }) (ap (λ e. e ∷ []) (sym h.written.made_is) ∙ sym h.events_are) (sym h.after_is))
statement_is krate known (statement.Modify place names_reader chain) events after h =
    let unit = h.found.register in
    let word = answer_at h.found known in
    let here : Event = event.Read h.found.address unit.word word in
    let next : Standing = record { answers = drop 1 known.answers; names = map bound_of known.names } in
    done_at krate place h.found (place_found krate place h.found h.at.place_is) (standing_of known) (modify_outcome names_reader chain (standing_of known))
    ∙ (ap₂ (λ (w : ℕ) (names : List Bound). record { events = here ∷ event.Write h.found.address unit.word (chain_written (text_acts unit) names w chain) ∷ []; after = next }) (start_is h.found h.masks word h.at.writable) (within_is names_reader h.found known)
    ∙ (ap (λ (w : ℕ). record { events = here ∷ event.Write h.found.address unit.word w ∷ []; after = next }) (chain_is unit (held_within names_reader h.found known) (start_of h.found h.masks word) chain h.written.end h.written.makes)
    ∙ ap₂ (λ e k. record { events = e; after = standing_of k }) (ap (λ e. here ∷ e ∷ []) (sym h.written.made_is) ∙ sym h.events_are) (sym h.after_is)))
statement_is krate known (statement.Reset place) events after h =
    done_at krate place h.found (place_found krate place h.found h.at.place_is) (standing_of known) (reset_outcome (standing_of known))
    ∙ ap₂ (λ e k. record { events = e; after = standing_of k }) (sym h.events_are) (sym h.after_is)
statement_is krate known (statement.Say value) events after h =
    ap (λ said. record { events = event.Say said ∷ []; after = standing_of known }) (value_is known.names value h.0 h.1)
    ∙ ap₂ (λ e k. record { events = e; after = standing_of k }) (sym h.2) (sym h.3)

-- ---- scripts

lines_are : (krate : CrateTree) (lines : List ScriptLine) (known : Known) (events : List Event) → LinesMean krate lines known events → lines_meaning (text_at krate) lines (standing_of known) ≡ events
unfolding LinesMean lines_meaning
lines_are krate [] known events h = sym h
lines_are krate (line ∷ lines) known events h =
    ap (λ outcome. events_then outcome (lines_meaning (text_at krate) lines)) (statement_is krate known line.statement h.first h.after h.here_is)
    ∙ (ap (λ later. h.first ++ later) (lines_are krate lines h.after h.later h.later_is) ∙ sym h.events_are)

pub means_one : MeansOne
unfolding Means text_meaning meaning
means_one krate script answers events h = sym (lines_are krate script.lines (record { answers = answers; names = [] }) events h)

-- ---- presets

presets_is : (krate : CrateTree) (places : List Place) (all : List Preset) → PresetsAre krate places all → all ≡ filter_map (λ place. option_map preset_of (text_at krate place)) places
unfolding PresetsAre
presets_is krate [] all h = h
presets_is krate (place ∷ places) all h =
    let first : Preset = record { address = h.found.address; width = h.found.register.word; value = h.found.register.reset.value } in
    h.presets_are
    ∙ (ap (λ others. first ∷ others) (presets_is krate places h.others h.others_are)
    ∙ ap (λ o. cons_option (option_map preset_of (option_map acts_at o)) (filter_map (λ other. option_map preset_of (text_at krate other)) places)) (sym (place_found krate place h.found h.place_is)))

pub presets_one : PresetsOne
unfolding text_presets presets
presets_one krate script all h = presets_is krate (called_places script) all h
