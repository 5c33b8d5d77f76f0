-- The events of a script: what each access is, and how many there are.
use Rattle.std.proofs.Common.{ℕ, ◌≡◌, ◌+◌, ◌*◌, ◌/◌, ◌^◌, ◌<◌, ◌≤◌, Bool, true, List, [], ◌∷◌, ◌++◌, length, Option, Some, None, IfSome, option_map, option_and_then, filter_map, bytes_eq, refl, arith, length-append}
use Rattle.std.specs.List.{list_all, AllByRecursion, cons_option}
use Rattle.pac_base.specs.Widths.{bits_of}
use Rattle.frag_tree.specs.declared.event.Event.{Event}
use Rattle.frag_tree.specs.declared.krate.Slot.{Slot}
use Rattle.frag_tree.specs.declared.register.RegisterModule.{RegisterModule}
use Rattle.frag_tree.specs.declared.script.ScriptLine.{ScriptLine}
use Rattle.frag_tree.specs.declared.statement.Place.{Place}
use Rattle.frag_tree.specs.declared.statement.Call.{Call}
use Rattle.frag_tree.specs.declared.statement.Statement.{Statement}
use Rattle.frag_tree.specs.declared.statement.Statement.TheVariants as statement
use Rattle.frag_tree.specs.Trees.{BlockTree, CrateTree, ModuleTree, one_block}
use Rattle.frag_sem.specs.CallPlaces.{RegisterAt, from_slot, leads, register_at, slot_named}
use Rattle.frag_sem.specs.CrateTyping.{register_constants_fit, AddressRange, Constants, constants_fit}
use Rattle.frag_sem.specs.Likeness.{KeepsWords}
use Rattle.frag_sem.specs.Laws.{AccessInRange, AreAnswered, EventInRange, EventsAreFew, EventsInRange, PlacesAreRegisters, PresetsInRange, ReadsAreAnswered, VersionKeeps}
use Rattle.frag_sem.specs.Modules.{all_registers, registers_in, top_block}
use Rattle.frag_sem.specs.Meaning.{ActsAt, Outcome, Places, Standing, answer_for, at_place, events_then, let_outcome, lines_meaning, meaning, modify_outcome, names_within, outcome_of, reset_outcome, write_outcome}
use Rattle.frag_sem.specs.Presets.{Preset, called_places, preset_of, presets}
use Rattle.frag_sem.specs.TextMeaning.{acts_at, text_at, text_meaning, text_presets}
use Rattle.frag_sem.specs.TextSurface.{text_surface}
use Rattle.frag_sem.proofs.KeptWords.{chain_small, keeps_words}
use Rattle.frag_sem.proofs.Leading.{inside_has, leads_keeps, registers_at, registers_gather}
use Rattle.frag_sem.proofs.Lists.{both_true, found_parts}
use Rattle.frag_sem.proofs.Words.{answer_small, some_power}

-- ---- the register of a place is one of the crate's

-- what all register modules of a module have, has the register to which accessors lead
chain_has : (test : RegisterModule → Bool) (steps : List Call) (unit : ModuleTree) (start : ℕ) → list_all test (registers_at unit) ≡ true → IfSome (leads steps unit start) (λ found. test found.register ≡ true)
chain_has test steps unit start h =
    leads_keeps (λ inner from. list_all test (registers_at inner) ≡ true) (λ found. test found.register ≡ true)
    (λ register_of from all. (both_true (test register_of) true all).0)
    (λ block_of from step access inner entered all. inside_has registers_in registers_at registers_gather test block_of.inside access.element inner entered.module_is all)
    steps unit start h

slot_has : (test : RegisterModule → Bool) (krate : CrateTree) → list_all test (all_registers krate) ≡ true → (steps : List Call) (slot : Slot) (o : Option BlockTree) → top_block slot.block krate.blocks ≡ o → IfSome (option_and_then (λ unit. leads steps (one_block unit) slot.address) o) (λ found. test found.register ≡ true)
slot_has test krate all steps slot None is = tt
slot_has test krate all steps slot (Some unit) is =
    chain_has test steps (one_block unit) slot.address (found_parts (λ other. bytes_eq slot.block other.head.name) (λ other. registers_in other.inside) test krate.blocks unit is all)

place_has : (test : RegisterModule → Bool) (krate : CrateTree) → list_all test (all_registers krate) ≡ true → (steps : List Call) (o : Option Slot) → IfSome (option_and_then (from_slot krate steps) o) (λ found. test found.register ≡ true)
place_has test krate all steps None = tt
place_has test krate all steps (Some slot) = slot_has test krate all steps slot (top_block slot.block krate.blocks) refl

pub places_are_registers : PlacesAreRegisters
unfolding register_at
places_are_registers test krate all place = place_has test krate all place.steps (slot_named place.slot krate.slots)

-- ---- a register in range

-- a register that ends at or below 2^64, and keeps words
pub record InRange (found : ActsAt) : Type 0 where
  pub ends : found.address + bits_of found.acts.width / 8 ≤ 2 ^ 64
  pub words : KeepsWords found.acts

both_here : (o : Option RegisterAt) {P Q : RegisterAt → Type 0} → IfSome o P → IfSome o Q → ((x : RegisterAt) → P x → Q x → InRange (acts_at x)) → IfSome (option_map acts_at o) InRange
both_here None p q r = tt
both_here (Some x) p q r = r x p q

in_range : (krate : CrateTree) → Constants krate → AddressRange krate → (place : Place) → IfSome (text_at krate place) InRange
unfolding constants_fit
in_range krate fit range place =
    both_here (register_at krate place) (range.ends place)
    (places_are_registers register_constants_fit krate fit.1 place)
    (λ found ends constants. record { ends = ends; words = keeps_words found.register constants })

-- ---- events

all_append : {X : Type 0} (P : X → Type 0) (xs ys : List X) → AllByRecursion P xs → AllByRecursion P ys → AllByRecursion P (xs ++ ys)
all_append P [] ys p q = q
all_append P (x ∷ xs) ys p q = (p.0, all_append P xs ys p.1 q)

-- what is done at a register is in range where the register is
at_in_range : (o : Option ActsAt) (standing : Standing) (outcome : ActsAt → Outcome) → IfSome o InRange → ((found : ActsAt) → InRange found → AllByRecursion EventInRange (outcome found).events) → AllByRecursion EventInRange (at_place o standing outcome).events
at_in_range None standing outcome h each = tt
at_in_range (Some found) standing outcome h each = each found h

outcome_in_range : (places : Places) → ((place : Place) → IfSome (places place) InRange) → (standing : Standing) (said : Statement) → AllByRecursion EventInRange (outcome_of places standing said).events
unfolding outcome_of
outcome_in_range places range standing (statement.Let name place) =
    at_in_range (places place) standing (let_outcome name standing) (range place)
    (λ found in_it. ((in_it.ends, answer_small (bits_of found.acts.width) standing.answers), tt))
outcome_in_range places range standing (statement.Write place chain) =
    at_in_range (places place) standing (λ found. write_outcome chain standing found (found.acts.start found.acts.reset)) (range place)
    (λ found in_it. ((in_it.ends, chain_small found.acts in_it.words standing.names (found.acts.start found.acts.reset) chain (in_it.words.start found.acts.reset in_it.words.reset)), tt))
outcome_in_range places range standing (statement.WriteWithZero place chain) =
    at_in_range (places place) standing (λ found. write_outcome chain standing found 0) (range place)
    (λ found in_it. ((in_it.ends, chain_small found.acts in_it.words standing.names 0 chain (some_power (bits_of found.acts.width))), tt))
outcome_in_range places range standing (statement.Modify place names_reader chain) =
    at_in_range (places place) standing (modify_outcome names_reader chain standing) (range place)
    (λ found in_it.
    let word = answer_for found standing in
    let small : word < 2 ^ bits_of found.acts.width = answer_small (bits_of found.acts.width) standing.answers in
    ((in_it.ends, small), ((in_it.ends, chain_small found.acts in_it.words (names_within names_reader found word standing.names) (found.acts.start word) chain (in_it.words.start word small)), tt)))
outcome_in_range places range standing (statement.Reset place) =
    at_in_range (places place) standing (reset_outcome standing) (range place)
    (λ found in_it. ((in_it.ends, in_it.words.reset), tt))
outcome_in_range places range standing (statement.Say value) = (tt, tt)

pub lines_in_range : (places : Places) → ((place : Place) → IfSome (places place) InRange) → (lines : List ScriptLine) (standing : Standing) → AllByRecursion EventInRange (lines_meaning places lines standing)
unfolding lines_meaning
lines_in_range places range [] standing = tt
lines_in_range places range (first ∷ others) standing =
    all_append EventInRange (outcome_of places standing first.statement).events (lines_meaning places others (outcome_of places standing first.statement).after)
    (outcome_in_range places range standing first.statement)
    (lines_in_range places range others (outcome_of places standing first.statement).after)

pub events_in_range : EventsInRange
unfolding text_meaning meaning
events_in_range krate fit range script answers = lines_in_range (text_at krate) (in_range krate fit range) script.lines (record { answers = answers; names = [] })

-- ---- presets

preset_in_range : (found : Option ActsAt) (others : List Preset) → IfSome found InRange → AllByRecursion (λ preset. AccessInRange preset.address preset.width preset.value) others → AllByRecursion (λ preset. AccessInRange preset.address preset.width preset.value) (cons_option (option_map preset_of found) others)
preset_in_range None others h more = more
preset_in_range (Some found) others h more = ((h.ends, h.words.reset), more)

pub presets_of_places : (places : Places) → ((place : Place) → IfSome (places place) InRange) → (called : List Place) → AllByRecursion (λ preset. AccessInRange preset.address preset.width preset.value) (filter_map (λ place. option_map preset_of (places place)) called)
presets_of_places places range [] = tt
presets_of_places places range (place ∷ called) =
    preset_in_range (places place) (filter_map (λ other. option_map preset_of (places other)) called) (range place) (presets_of_places places range called)

pub presets_in_range : PresetsInRange
unfolding text_presets presets
presets_in_range krate fit range script = presets_of_places (text_at krate) (in_range krate fit range) (called_places script)

-- ---- answers

at_answered : (o : Option ActsAt) (standing : Standing) (outcome : ActsAt → Outcome) (others : Standing → List Event) → ((after : Standing) → AreAnswered (others after) after.answers) → ((found : ActsAt) → AreAnswered (events_then (outcome found) others) standing.answers) → AreAnswered (events_then (at_place o standing outcome) others) standing.answers
at_answered None standing outcome others more each = more standing
at_answered (Some found) standing outcome others more each = each found

outcome_answered : (places : Places) (standing : Standing) (said : Statement) (others : Standing → List Event) → ((after : Standing) → AreAnswered (others after) after.answers) → AreAnswered (events_then (outcome_of places standing said) others) standing.answers
unfolding outcome_of AreAnswered
outcome_answered places standing (statement.Let name place) others more =
    at_answered (places place) standing (let_outcome name standing) others more (λ found. (refl, more (let_outcome name standing found).after))
outcome_answered places standing (statement.Write place chain) others more =
    at_answered (places place) standing (λ found. write_outcome chain standing found (found.acts.start found.acts.reset)) others more (λ found. more standing)
outcome_answered places standing (statement.WriteWithZero place chain) others more =
    at_answered (places place) standing (λ found. write_outcome chain standing found 0) others more (λ found. more standing)
outcome_answered places standing (statement.Modify place names_reader chain) others more =
    at_answered (places place) standing (modify_outcome names_reader chain standing) others more (λ found. (refl, more (modify_outcome names_reader chain standing found).after))
outcome_answered places standing (statement.Reset place) others more =
    at_answered (places place) standing (reset_outcome standing) others more (λ found. more standing)
outcome_answered places standing (statement.Say value) others more = more standing

pub lines_answered : (places : Places) (lines : List ScriptLine) (standing : Standing) → AreAnswered (lines_meaning places lines standing) standing.answers
unfolding lines_meaning AreAnswered
lines_answered places [] standing = tt
lines_answered places (first ∷ others) standing = outcome_answered places standing first.statement (lines_meaning places others) (lines_answered places others)

pub reads_are_answered : ReadsAreAnswered
unfolding text_meaning meaning
reads_are_answered krate script answers = lines_answered (text_at krate) script.lines (record { answers = answers; names = [] })

-- ---- versions

pub version_keeps : VersionKeeps
unfolding text_surface text_meaning text_presets register_at
version_keeps krate version = (refl, (λ script answers. refl, λ script. refl))

-- ---- how many

at_few : (o : Option ActsAt) (standing : Standing) (outcome : ActsAt → Outcome) → ((found : ActsAt) → length (outcome found).events ≤ 2) → length (at_place o standing outcome).events ≤ 2
at_few None standing outcome each = omega arith
at_few (Some found) standing outcome each = each found

outcome_few : (places : Places) (standing : Standing) (said : Statement) → length (outcome_of places standing said).events ≤ 2
unfolding outcome_of
outcome_few places standing (statement.Let name place) = at_few (places place) standing (let_outcome name standing) (λ found. omega arith)
outcome_few places standing (statement.Write place chain) =
    at_few (places place) standing (λ found. write_outcome chain standing found (found.acts.start found.acts.reset)) (λ found. omega arith)
outcome_few places standing (statement.WriteWithZero place chain) = at_few (places place) standing (λ found. write_outcome chain standing found 0) (λ found. omega arith)
outcome_few places standing (statement.Modify place names_reader chain) = at_few (places place) standing (modify_outcome names_reader chain standing) (λ found. omega arith)
outcome_few places standing (statement.Reset place) = at_few (places place) standing (reset_outcome standing) (λ found. omega arith)
outcome_few places standing (statement.Say value) = omega arith

lines_few : (places : Places) (lines : List ScriptLine) (standing : Standing) → length (lines_meaning places lines standing) ≤ 2 * length lines
unfolding lines_meaning
lines_few places [] standing = omega arith
lines_few places (first ∷ others) standing =
    let outcome = outcome_of places standing first.statement in
    let here : length outcome.events ≤ 2 = outcome_few places standing first.statement in
    let more : length (lines_meaning places others outcome.after) ≤ 2 * length others = lines_few places others outcome.after in
    let all : length (outcome.events ++ lines_meaning places others outcome.after) ≡ length outcome.events + length (lines_meaning places others outcome.after) = length-append outcome.events (lines_meaning places others outcome.after) in
    omega arith

pub events_are_few : EventsAreFew
unfolding text_meaning meaning
events_are_few krate script answers = lines_few (text_at krate) script.lines (record { answers = answers; names = [] })
