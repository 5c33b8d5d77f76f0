-- What the laws of this crate say, each as one statement.
use Rattle.std.specs.Prelude.{ℕ, ◌≡◌, ◌+◌, ◌*◌, ◌/◌, ◌%◌, ◌^◌, ◌<◌, ◌≤◌, false, List, [], ◌∷◌, ◌++◌, Some, None, ◌↔◌, Decides, Bool, length, drop, map, Option, IfSome, IsSomeAnd, IsTrue, Ok, ⊤, true}
use Rattle.std.specs.List.{list_all, list_any, AllByRecursion}
use Rattle.std.specs.Str.{bytes_eq}
use Rattle.bits_word.specs.Places.{get, put}
use Rattle.bits_word.specs.Start.{IsStart}
use Rattle.pac_base.specs.declared.width.Width.{Width}
use Rattle.pac_base.specs.Widths.{bits_of}
use Rattle.frag_tree.specs.declared.block.FieldType.TheVariants as holds
use Rattle.frag_tree.specs.declared.block.StructField.{StructField}
use Rattle.frag_tree.specs.declared.event.Event.{Event}
use Rattle.frag_tree.specs.declared.event.Event.TheVariants as event
use Rattle.frag_tree.specs.declared.krate.Version.{Version}
use Rattle.frag_tree.specs.declared.register.RegisterModule.{RegisterModule}
use Rattle.frag_tree.specs.declared.register.Spot.{Spot}
use Rattle.frag_tree.specs.declared.script.Script.{Script}
use Rattle.frag_tree.specs.declared.statement.Place.{Place}
use Rattle.frag_tree.specs.Trees.{BlockHead, CrateTree}
use Rattle.frag_sem.specs.AddressEnds.{addresses_fit, all_tests, cut_addresses_fit}
use Rattle.frag_sem.specs.CrateTyping.{AddressRange, Constants, CrateFits, DistinctNames, SlotModules, IsTypingFault, TypingKind, first_failed, register_constants_fit}
use Rattle.frag_sem.specs.Layout.{Extents, block_extent, end_of, place_named, placed, type_extent}
use Rattle.frag_sem.specs.CallPlaces.{register_at}
use Rattle.frag_sem.specs.Modules.{all_registers}
use Rattle.frag_sem.specs.PlaceTyping.{call_leads, module_fault}
use Rattle.frag_sem.specs.ScriptTyping.{◌>>=◌, call_types, is_slot, script_fault}
use Rattle.frag_sem.specs.Surfaces.{RegisterCalls}
use Rattle.frag_sem.specs.Spots.{last_spot}
use Rattle.frag_sem.specs.TextSurface.{register_calls, text_surface}
use Rattle.frag_sem.specs.Likeness.{AlikePlaces, KeepsWords}
use Rattle.frag_sem.specs.Meaning.{Places, meaning, next_answer}
use Rattle.frag_sem.specs.Means.{Means, PresetsAre, SpotIs}
use Rattle.frag_sem.specs.Presets.{Preset, called_places, presets}
use Rattle.frag_sem.specs.TextMeaning.{text_acts, text_meaning, text_presets}
use Rattle.frag_sem.specs.PreludeWords.{as_bits, bit_of, is_set, ones, start_word, taken, written}

-- ---- layout

-- bytes that belong to no element
abbrev pub gap_of : List ℕ → ℕ → StructField
gap_of name bytes = record { name = name; holds = holds.Gap bytes }

-- Where a gap of p bytes follows what ends at e, and e + p is a multiple of the next field's alignment, that field stands at e + p.
abbrev pub PlaceBehindGap : Type 0
PlaceBehindGap =
    (known : Extents) (front others : List StructField) (gap : List ℕ) (bytes : ℕ) (field : StructField)
    → list_any (λ other. bytes_eq field.name other.name) (front ++ gap_of gap bytes ∷ []) ≡ false
    → (end_of known front + bytes) % (type_extent known field.holds).align ≡ 0
    → place_named known (front ++ gap_of gap bytes ∷ field ∷ others) field.name ≡ Some (end_of known front + bytes)

-- Where what ends at e ends at a multiple of the next field's alignment, that field stands at e.
abbrev pub PlaceBehindEnd : Type 0
PlaceBehindEnd =
    (known : Extents) (front others : List StructField) (field : StructField)
    → list_any (λ other. bytes_eq field.name other.name) front ≡ false
    → end_of known front % (type_extent known field.holds).align ≡ 0
    → place_named known (front ++ field ∷ others) field.name ≡ Some (end_of known front)

-- Each field ends at or before the place of each later one, and at or before the end of all: no two share a byte.
abbrev pub FieldsApart : Type 0
FieldsApart =
    (known : Extents) (fields : List StructField) (front between others : List (StructField × ℕ)) (one later : StructField × ℕ)
    → placed known fields ≡ front ++ one ∷ (between ++ later ∷ others)
    → one.1 + (type_extent known one.0.holds).size ≤ later.1

-- Each field stands at a multiple of its alignment, where that is one.
abbrev pub FieldsAligned : Type 0
FieldsAligned =
    (known : Extents) (fields : List StructField) (front others : List (StructField × ℕ)) (one : StructField × ℕ)
    → placed known fields ≡ front ++ one ∷ others
    → 1 ≤ (type_extent known one.0.holds).align
    → one.1 % (type_extent known one.0.holds).align ≡ 0

-- No field that is added makes a struct end earlier.
abbrev pub EndsGrow : Type 0
EndsGrow = (known : Extents) (front others : List StructField) → end_of known front ≤ end_of known (front ++ others)

-- A block is at least as large as its struct.
abbrev pub SizeReaches : Type 0
SizeReaches = (head : BlockHead) (known : Extents) → end_of known head.fields ≤ (block_extent head known).size

-- ---- words of N bits

-- A field of n bits at o is read by a shift by o, a mask of n ones, and a cast to a type of at least n bits, out of any number.
abbrev pub ReaderGets : Type 0
ReaderGets = (type : Width) (w o n : ℕ) → n ≤ bits_of type → as_bits (bits_of type) (taken w o (ones n)) ≡ get w o n

-- A bit at o is read by a shift by o, and a mask of one.
abbrev pub BitReaderGets : Type 0
BitReaderGets = (w o : ℕ) → bit_of (is_set (taken w o (ones 1))) ≡ get w o 1

-- The prelude's formula of n bits at o puts a value at that place of a word of N bits, if the place ends within it.
abbrev pub WriterPuts : Type 0
WriterPuts = (N w o n v : ℕ) → w < 2 ^ N → o + n ≤ N → written N w o n v ≡ put w o n v

-- The word that is written is one of N bits again, wherever it is written.
abbrev pub WrittenStays : Type 0
WrittenStays = (N w o n v : ℕ) → w < 2 ^ N → written N w o n v < 2 ^ N

-- What was written at a place is read there.
abbrev pub ReadsWritten : Type 0
ReadsWritten = (N w o n v : ℕ) → w < 2 ^ N → o + n ≤ N → taken (written N w o n v) o (ones n) ≡ v % 2 ^ n

-- The prelude's start word is, bit by bit, the one of masks that say which bits are raised and which are cleared.
abbrev pub StartWordIsStart : Type 0
StartWordIsStart = (width : Width) (b one raised : ℕ) → one < 2 ^ bits_of width → IsStart (bits_of width) b one raised (start_word (bits_of width) b one raised)

-- It is a word of N bits where the base and the mask that raises are.
abbrev pub StartStays : Type 0
StartStays = (N b one raised : ℕ) → b < 2 ^ N → raised < 2 ^ N → start_word N b one raised < 2 ^ N

-- Without masks a write starts from the base word itself.
abbrev pub StartWithoutMasks : Type 0
StartWithoutMasks = (N b : ℕ) → b < 2 ^ N → start_word N b 0 0 ≡ b

-- ---- typing

-- A crate fits exactly where no test fails.
abbrev pub FitsByTests : Type 0
FitsByTests = (krate : CrateTree) → CrateFits krate ↔ (first_failed (all_tests krate) ≡ None)

-- It is refused with exactly the kind of the first test that fails.
abbrev pub RefusedByTests : Type 0
RefusedByTests = (krate : CrateTree) (kind : TypingKind) → IsTypingFault krate kind ↔ (first_failed (all_tests krate) ≡ Some kind)

-- Where names are distinct, the greatest end in each block decides the address range of all chains of accessors.
abbrev pub EndsDecide : Type 0
EndsDecide = (krate : CrateTree) → DistinctNames krate → Decides (addresses_fit krate) (AddressRange krate)

-- Ends that are cut at 2^64 + 1 decide the same.
abbrev pub CutEndsDecide : Type 0
CutEndsDecide = (krate : CrateTree) → cut_addresses_fit krate ≡ addresses_fit krate

-- Each member of a field lies where the last one does, or lower: so the rules on readers and writers, which test the last one, speak of all.
abbrev pub MembersLieLower : Type 0
MembersLieLower = (spot : Spot) (index : Option ℕ) (at : ℕ) → SpotIs spot index at → at ≤ last_spot spot

-- ---- events

-- an access that ends at or below 2^64, of a value of its width
abbrev pub AccessInRange : ℕ → Width → ℕ → Type 0
AccessInRange address width value = (address + bits_of width / 8 ≤ 2 ^ 64) × (value < 2 ^ bits_of width)

abbrev pub EventInRange : Event → Type 0
EventInRange (event.Read address width value) = AccessInRange address width value
EventInRange (event.Write address width value) = AccessInRange address width value
EventInRange (event.Say value) = ⊤

-- The k-th read has the k-th answer, cut to its width, and 0 where there is none.
unfoldable pub AreAnswered : List Event → List ℕ → Type 0
AreAnswered [] answers = ⊤
AreAnswered (event.Read address width value ∷ others) answers = (value ≡ next_answer (bits_of width) answers) × AreAnswered others (drop 1 answers)
AreAnswered (event.Write address width value ∷ others) answers = AreAnswered others answers
AreAnswered (event.Say value ∷ others) answers = AreAnswered others answers

abbrev pub ReadsAreAnswered : Type 0
ReadsAreAnswered = (krate : CrateTree) (script : Script) (answers : List ℕ) → AreAnswered (text_meaning krate script answers) answers

-- Of a crate whose constants fit and whose registers are in range, each access of each script is in range, whatever the answers are.
abbrev pub EventsInRange : Type 0
EventsInRange = (krate : CrateTree) → Constants krate → AddressRange krate → (script : Script) (answers : List ℕ) → AllByRecursion EventInRange (text_meaning krate script answers)

-- So is each preset.
abbrev pub PresetsInRange : Type 0
PresetsInRange =
    (krate : CrateTree) → Constants krate → AddressRange krate → (script : Script) → AllByRecursion (λ preset. AccessInRange preset.address preset.width preset.value) (text_presets krate script)

-- A statement makes at most two events.
abbrev pub EventsAreFew : Type 0
EventsAreFew = (krate : CrateTree) (script : Script) (answers : List ℕ) → length (text_meaning krate script answers) ≤ 2 * length script.lines

-- What a test of all register modules says, it says of the register of each place.
abbrev pub PlacesAreRegisters : Type 0
PlacesAreRegisters =
    (test : RegisterModule → Bool) (krate : CrateTree) → list_all test (all_registers krate) ≡ true → (place : Place) → IfSome (register_at krate place) (λ found. test found.register ≡ true)

-- The version of a text changes neither what a script may call nor what it means.
abbrev pub VersionKeeps : Type 0
VersionKeeps =
    (krate : CrateTree) (version : Version)
    → (text_surface (record krate { version = version }) ≡ text_surface krate)
    × (((script : Script) (answers : List ℕ) → text_meaning (record krate { version = version }) script answers ≡ text_meaning krate script answers)
    × ((script : Script) → text_presets (record krate { version = version }) script ≡ text_presets krate script))

-- ---- what is meant with nothing missing

-- Whatever events a script has with nothing missing on the way are its meaning: so they are one list at most.
abbrev pub MeansOne : Type 0
MeansOne = (krate : CrateTree) (script : Script) (answers : List ℕ) (events : List Event) → Means krate script answers events → events ≡ text_meaning krate script answers

-- A script that fits a crate that fits has its meaning with nothing missing on the way, whatever the answers are.
abbrev pub FittingMeans : Type 0
FittingMeans = (krate : CrateTree) → CrateFits krate → (script : Script) → script_fault (text_surface krate) script ≡ None → (answers : List ℕ) → Means krate script answers (text_meaning krate script answers)

-- At each place that it calls stands a register, and that has its preset.
abbrev pub FittingPresets : Type 0
FittingPresets = (krate : CrateTree) → CrateFits krate → (script : Script) → script_fault (text_surface krate) script ≡ None → PresetsAre krate (called_places script) (text_presets krate script)

-- Whatever presets places have so, they are one list at most.
abbrev pub PresetsOne : Type 0
PresetsOne = (krate : CrateTree) (script : Script) (presets : List Preset) → PresetsAre krate (called_places script) presets → presets ≡ text_presets krate script

-- ---- likeness

-- A register module whose constants fit its type keeps words of it.
abbrev pub TextKeepsWords : Type 0
TextKeepsWords = (unit : RegisterModule) → IsTrue (register_constants_fit unit) → KeepsWords (text_acts unit)

-- Where at each place stand alike registers, or none on both sides, each script has the same events, whatever the answers are.
abbrev pub AlikeMean : Type 0
AlikeMean = (one other : Places) → AlikePlaces one other → (script : Script) (answers : List ℕ) → meaning one script answers ≡ meaning other script answers

-- So it has the same presets.
abbrev pub AlikePreset : Type 0
AlikePreset = (one other : Places) → AlikePlaces one other → (script : Script) → presets one script ≡ presets other script

-- ---- surfaces

-- Where names are distinct and each slot has its module, the surface says of a register call what the modules say.
abbrev pub CallsByModules : Type 0
CallsByModules =
    (krate : CrateTree) → DistinctNames krate → SlotModules krate → (has_call : RegisterCalls → Bool) (place : Place)
    → call_types has_call (text_surface krate) place ≡ (call_leads has_call krate place >>= λ unit. Ok (register_calls unit))

-- Where each slot has its module, a name is a slot of the surface exactly where a slot has it.
abbrev pub SlotsByName : Type 0
SlotsByName = (krate : CrateTree) → SlotModules krate → (name : List ℕ) → is_slot (text_surface krate) name ≡ list_any (bytes_eq name) (map (λ slot. slot.name) krate.slots)

-- So walking the modules finds the fault of each script.
abbrev pub FaultsByModules : Type 0
FaultsByModules = (krate : CrateTree) → DistinctNames krate → SlotModules krate → (script : Script) → script_fault (text_surface krate) script ≡ module_fault krate script

-- A register call that types is one of the register that stands at the place.
abbrev pub CallsAreThere : Type 0
CallsAreThere =
    (krate : CrateTree) (has_call : RegisterCalls → Bool) (place : Place) (unit : RegisterModule)
    → call_leads has_call krate place ≡ Ok unit → IsSomeAnd (register_at krate place) (λ found. (found.register ≡ unit) × (has_call (register_calls unit) ≡ true))
