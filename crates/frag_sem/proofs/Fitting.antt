-- A script that fits has its meaning with nothing missing.
use Rattle.std.proofs.Common.{ℕ, ◌≡◌, Bool, true, false, List, [], ◌∷◌, ◌++◌, map, drop, filter, filter_map, cond, not, option_map, IfSome, Option, Some, None, Ok, Err, is_some, refl, sym, ap, subst, ◌∙◌}
use Rattle.std.specs.List.{AllByRecursion, cons_option}
use Rattle.std.proofs.lemmas.Bool.{false≢true}
use Rattle.std.proofs.lemmas.Option.{none-some}
use Rattle.pac_base.specs.Widths.{bits_of}
use Rattle.frag_tree.specs.declared.event.Event.{Event}
use Rattle.frag_tree.specs.declared.event.Event.TheVariants as event
use Rattle.frag_tree.specs.declared.register.RegisterModule.{RegisterModule}
use Rattle.frag_tree.specs.declared.register.Writable.{Writable}
use Rattle.frag_tree.specs.declared.script.Script.{Script}
use Rattle.frag_tree.specs.declared.script.ScriptLine.{ScriptLine}
use Rattle.frag_tree.specs.declared.statement.Link.{Link}
use Rattle.frag_tree.specs.declared.statement.Place.{Place}
use Rattle.frag_tree.specs.declared.statement.Statement.{Statement}
use Rattle.frag_tree.specs.declared.statement.Statement.TheVariants as statement
use Rattle.frag_tree.specs.Trees.{CrateTree}
use Rattle.frag_sem.specs.CallPlaces.{RegisterAt}
use Rattle.frag_sem.specs.CrateTyping.{CrateFits}
use Rattle.frag_sem.specs.Laws.{FittingMeans, FittingPresets}
use Rattle.frag_sem.specs.Means.{ChainMakes, Held, Known, LinesMean, Means, PlainWrite, PresetsAre, ReadWrite, ReadableAt, StatementMeans, WritableAt, Written, answer_at, held_within, holding, reading, start_of}
use Rattle.frag_sem.specs.PlaceIs.{PlaceIs}
use Rattle.frag_sem.specs.PlaceTyping.{module_fault, module_scope}
use Rattle.frag_sem.specs.Presets.{called, called_places, first_of_each, preset_of, presets, same_place}
use Rattle.frag_sem.specs.ScriptTyping.{LineFault, Names, Typed, ◌>>=◌, anything, can_modify, can_read, can_write, chain_types, holds_or, is_new, line_fault, lines_fault, names_within, rebound, script_fault, statement_types, value_types}
use Rattle.frag_sem.specs.Surfaces.{RegisterCalls}
use Rattle.frag_sem.specs.TextMeaning.{acts_at, text_at, text_presets}
use Rattle.frag_sem.specs.TextSurface.{register_calls, text_surface}
use Rattle.frag_sem.proofs.FittingPlaces.{Standing, call_there}
use Rattle.frag_sem.proofs.FittingValues.{AreWords, chain_there, typed_held, value_there}
use Rattle.frag_sem.proofs.Lists.{both_true}
use Rattle.frag_sem.proofs.PlacesFound.{place_found}
use Rattle.frag_sem.proofs.MeansOne.{means_one}
use Rattle.frag_sem.proofs.Typings.{both_ok, same_ok}
use Rattle.frag_sem.proofs.Walking.{faults_by_modules}
use Rattle.frag_sem.proofs.Words.{answer_small}

-- the names within the chain of a `modify`, by their types and by their words
within_typed : (names_reader : Bool) (found : RegisterAt) (known : Known) → names_within (map typed_held known.names) (register_calls found.register) names_reader ≡ map typed_held (held_within names_reader found known)
within_typed true found known = refl
within_typed false found known = refl

within_words : (names_reader : Bool) (found : RegisterAt) (known : Known) → AreWords known.names → AreWords (held_within names_reader found known)
within_words true found known words = (answer_small (bits_of found.register.word) known.answers, words)
within_words false found known words = words

-- a register that can be written has its masks
masks_there : (o : Option Writable) → is_some o ≡ true → (masks : Writable) × (o ≡ Some masks)
masks_there None h = absurd (false≢true h)
masks_there (Some masks) h = (masks, refl)

-- where a register call types, the register
abbrev stands_at : {krate : CrateTree} {has_call : RegisterCalls → Bool} {place : Place} {calls : RegisterCalls} → Standing krate has_call place calls → RegisterAt
stands_at there = record { address = there.address; register = there.unit }

-- one write of what the chain makes
write_made : (found : RegisterAt) (names : List Held) (word : ℕ) (chain : List Link) (end : ℕ) → ChainMakes found.register names word chain end → Written found names word chain (event.Write found.address found.register.word end)
write_made found names word chain end makes = record { end = end; makes = makes; made_is = refl }

plain_write : (krate : CrateTree) (known : Known) (place : Place) (chain : List Link) (base : RegisterAt → Writable → ℕ) (found : RegisterAt) (masks : Writable) → WritableAt krate place found masks → (made : Event) → Written found known.names (base found masks) chain made → PlainWrite krate known place chain base (made ∷ []) known
plain_write krate known place chain base found masks at made written =
    record { found = found; masks = masks; at = at; made = made; written = written; events_are = refl; after_is = refl }

read_write : (krate : CrateTree) (known : Known) (place : Place) (names_reader : Bool) (chain : List Link) (found : RegisterAt) (masks : Writable) → ReadableAt krate place found → WritableAt krate place found masks → (made : Event) → Written found (held_within names_reader found known) (start_of found masks (answer_at found known)) chain made → ReadWrite krate known place names_reader chain (reading found known ∷ made ∷ []) (record { answers = drop 1 known.answers; names = known.names })
read_write krate known place names_reader chain found masks readable at made written =
    record { found = found; masks = masks; readable = readable; at = at; made = made; written = written; events_are = refl; after_is = refl }

-- ---- one statement

-- the events of a statement that types, and what is known behind it
record Done (krate : CrateTree) (known : Known) (said : Statement) (names : Names) : Type 0 where
  events : List Event
  after : Known
  means : StatementMeans krate known said events after
  words : AreWords after.names
  names_are : names ≡ map typed_held after.names

module _ (krate : CrateTree) (fits : CrateFits krate) (known : Known) (words : AreWords known.names) where
  -- a register that can be read, or written, and the chain that types there
  writable_there : (place : Place) (calls : RegisterCalls) (there : Standing krate can_write place calls) → (masks : Writable) × WritableAt krate place (stands_at there) masks
  unfolding register_calls
  writable_there place calls there =
      let masks = masks_there there.unit.writable there.has in
      (masks.0, record { place_is = there.place_is; writable = masks.1 })

  chain_of : (unit : RegisterModule) (calls : RegisterCalls) (names : List Held) (base : ℕ) (chain : List Link) → AreWords names → register_calls unit ≡ calls → chain_types (map typed_held names) calls chain ≡ Ok tt → (end : ℕ) × ChainMakes unit names base chain end
  chain_of unit calls names base chain held same typed = chain_there unit names held base chain (ap (λ c. chain_types (map typed_held names) c chain) same ∙ typed)

  let_done : (name : List ℕ) (place : Place) (typed : Names) → statement_types (module_scope krate) (map typed_held known.names) (statement.Let name place) ≡ Ok typed → Done krate known (statement.Let name place) typed
  unfolding statement_types register_calls
  let_done name place typed h =
      let new = both_ok (holds_or rebound (is_new (module_scope krate) (map typed_held known.names) name)) _ typed h in
      let called = both_ok ((module_scope krate).call can_read place) _ typed new.2 in
      let there = call_there krate fits can_read place called.0 called.1 in
      let found = stands_at there in
      record {
        events = reading found known ∷ [];
        after = record { answers = drop 1 known.answers; names = holding name found known ∷ known.names };
        means = record { found = found; at = record { place_is = there.place_is; readable = there.has }; events_are = refl; after_is = refl };
        words = (answer_small (bits_of there.unit.word) known.answers, words);
        names_are = sym (same_ok _ typed called.2) ∙ ap (λ c. (name, c) ∷ map typed_held known.names) (sym there.calls_are);
      }

  write_done : (place : Place) (chain : List Link) (base : RegisterAt → Writable → ℕ) (typed : Names) → ((module_scope krate).call can_write place >>= λ register. (chain_types (map typed_held known.names) register chain >>= λ _. Ok (map typed_held known.names))) ≡ Ok typed → (events : List Event) × PlainWrite krate known place chain base events known × (typed ≡ map typed_held known.names)
  write_done place chain base typed h =
      let called = both_ok ((module_scope krate).call can_write place) _ typed h in
      let there = call_there krate fits can_write place called.0 called.1 in
      let found = stands_at there in
      let masks = writable_there place called.0 there in
      let chained = both_ok (chain_types (map typed_held known.names) called.0 chain) (λ _. Ok (map typed_held known.names)) typed called.2 in
      let end = chain_of there.unit called.0 known.names (base found masks.0) chain words there.calls_are chained.1 in
      let made = event.Write found.address there.unit.word end.0 in
      (made ∷ [], plain_write krate known place chain base found masks.0 masks.1 made (write_made found known.names (base found masks.0) chain end.0 end.1), sym (same_ok (map typed_held known.names) typed chained.2))

  modify_done : (place : Place) (names_reader : Bool) (chain : List Link) (typed : Names) → statement_types (module_scope krate) (map typed_held known.names) (statement.Modify place names_reader chain) ≡ Ok typed → Done krate known (statement.Modify place names_reader chain) typed
  unfolding statement_types register_calls
  modify_done place names_reader chain typed h =
      let called = both_ok ((module_scope krate).call can_modify place) _ typed h in
      let there = call_there krate fits can_modify place called.0 called.1 in
      let found = stands_at there in
      let has = both_true there.unit.readable (is_some there.unit.writable) there.has in
      let masks = masks_there there.unit.writable has.1 in
      let chained = both_ok (chain_types (names_within (map typed_held known.names) called.0 names_reader) called.0 chain) (λ _. Ok (map typed_held known.names)) typed called.2 in
      let names_same : names_within (map typed_held known.names) called.0 names_reader ≡ map typed_held (held_within names_reader found known) =
      ap (λ c. names_within (map typed_held known.names) c names_reader) (sym there.calls_are) ∙ within_typed names_reader found known in
      let end = chain_of there.unit called.0 (held_within names_reader found known) (start_of found masks.0 (answer_at found known)) chain (within_words names_reader found known words) there.calls_are
      (ap (λ names. chain_types names called.0 chain) (sym names_same) ∙ chained.1) in
      let made = event.Write found.address there.unit.word end.0 in
      record {
        events = reading found known ∷ made ∷ [];
        after = record { answers = drop 1 known.answers; names = known.names };
        means = read_write krate known place names_reader chain found masks.0 (record { place_is = there.place_is; readable = has.0 }) (record { place_is = there.place_is; writable = masks.1 }) made
            (write_made found (held_within names_reader found known) (start_of found masks.0 (answer_at found known)) chain end.0 end.1);
        words = words;
        names_are = sym (same_ok (map typed_held known.names) typed chained.2);
      }

  reset_done : (place : Place) (typed : Names) → statement_types (module_scope krate) (map typed_held known.names) (statement.Reset place) ≡ Ok typed → Done krate known (statement.Reset place) typed
  unfolding statement_types
  reset_done place typed h =
      let called = both_ok ((module_scope krate).call can_write place) _ typed h in
      let there = call_there krate fits can_write place called.0 called.1 in
      let found = stands_at there in
      let masks = writable_there place called.0 there in
      record {
        events = event.Write found.address there.unit.word there.unit.reset.value ∷ [];
        after = known;
        means = record { found = found; masks = masks.0; at = masks.1; events_are = refl; after_is = refl };
        words = words;
        names_are = sym (same_ok (map typed_held known.names) typed called.2);
      }

  statement_done : (said : Statement) (typed : Names) → statement_types (module_scope krate) (map typed_held known.names) said ≡ Ok typed → Done krate known said typed
  unfolding statement_types
  statement_done (statement.Let name place) typed h = let_done name place typed h
  statement_done (statement.Write place chain) typed h =
      let done = write_done place chain (λ found masks. start_of found masks found.register.reset.value) typed h in
      record { events = done.0; after = known; means = done.1; words = words; names_are = done.2 }
  statement_done (statement.WriteWithZero place chain) typed h =
      let done = write_done place chain (λ found masks. 0) typed h in
      record { events = done.0; after = known; means = done.1; words = words; names_are = done.2 }
  statement_done (statement.Modify place names_reader chain) typed h = modify_done place names_reader chain typed h
  statement_done (statement.Reset place) typed h = reset_done place typed h
  statement_done (statement.Say value) typed h =
      let valued = both_ok (value_types (map typed_held known.names) anything value) (λ _. Ok (map typed_held known.names)) typed h in
      let said = value_there known.names words anything value valued.1 in
      record {
        events = event.Say said.0 ∷ [];
        after = known;
        means = (said.0, said.1, refl, refl);
        words = words;
        names_are = sym (same_ok (map typed_held known.names) typed valued.2);
      }

-- ---- scripts

-- a line that has no fault types
no_fault : (line : ℕ) (found : Typed Names) (others : Names → Option LineFault) → line_fault line found others ≡ None → (names : Names) × (found ≡ Ok names) × (others names ≡ None)
no_fault line (Ok names) others h = (names, refl, h)
no_fault line (Err kind) others h = absurd (none-some _ (sym h))

-- a script that fits is one in which walking the modules finds no fault
none_by_modules : (krate : CrateTree) → CrateFits krate → (script : Script) → script_fault (text_surface krate) script ≡ None → module_fault krate script ≡ None
none_by_modules krate fits script none = sym (faults_by_modules krate fits.distinct_names fits.slot_modules script) ∙ none

lines_done : (krate : CrateTree) → CrateFits krate → (lines : List ScriptLine) (known : Known) → AreWords known.names → lines_fault (module_scope krate) lines (map typed_held known.names) ≡ None → (events : List Event) × LinesMean krate lines known events
unfolding lines_fault LinesMean
lines_done krate fits [] known words h = ([], refl)
lines_done krate fits (line ∷ lines) known words h =
    let typed = no_fault line.line (statement_types (module_scope krate) (map typed_held known.names) line.statement) (lines_fault (module_scope krate) lines) h in
    let done = statement_done krate fits known words line.statement typed.0 typed.1 in
    let more = lines_done krate fits lines done.after done.words (ap (lines_fault (module_scope krate) lines) (sym done.names_are) ∙ typed.2) in
    (done.events ++ more.0, record { first = done.events; after = done.after; later = more.0; here_is = done.means; later_is = more.1; events_are = refl })

pub fitting_means : FittingMeans
unfolding Means module_fault
fitting_means krate fits script none answers =
    let done = lines_done krate fits script.lines (record { answers = answers; names = [] }) tt (none_by_modules krate fits script none) in
    subst (LinesMean krate script.lines (record { answers = answers; names = [] })) (means_one krate script answers done.0 done.1) done.1

-- ---- presets

-- a register stands at the place
abbrev Stands : CrateTree → Place → Type 0
Stands krate place = (found : RegisterAt) × PlaceIs krate place found

-- so at the place of each register call that types
call_stands : (krate : CrateTree) → CrateFits krate → (has_call : RegisterCalls → Bool) (place : Place) (others : RegisterCalls → Typed Names) (typed : Names) → ((module_scope krate).call has_call place >>= others) ≡ Ok typed → Stands krate place
call_stands krate fits has_call place others typed h =
    let called = both_ok ((module_scope krate).call has_call place) others typed h in
    let there = call_there krate fits has_call place called.0 called.1 in
    (stands_at there, there.place_is)

statement_stands : (krate : CrateTree) → CrateFits krate → (said : Statement) (names typed : Names) → statement_types (module_scope krate) names said ≡ Ok typed → IfSome (called said) (Stands krate)
unfolding statement_types
statement_stands krate fits (statement.Let name place) names typed h =
    let new = both_ok (holds_or rebound (is_new (module_scope krate) names name)) _ typed h in
    call_stands krate fits can_read place _ typed new.2
statement_stands krate fits (statement.Write place chain) names typed h = call_stands krate fits can_write place _ typed h
statement_stands krate fits (statement.WriteWithZero place chain) names typed h = call_stands krate fits can_write place _ typed h
statement_stands krate fits (statement.Modify place names_reader chain) names typed h = call_stands krate fits can_modify place _ typed h
statement_stands krate fits (statement.Reset place) names typed h = call_stands krate fits can_write place _ typed h
statement_stands krate fits (statement.Say value) names typed h = tt

-- one more place that is called
more_called : (P : Place → Type 0) (o : Option Place) (others : List Place) → IfSome o P → AllByRecursion P others → AllByRecursion P (cons_option o others)
more_called P None others first all = all
more_called P (Some place) others first all = (first, all)

all_stand : (krate : CrateTree) → CrateFits krate → (lines : List ScriptLine) (names : Names) → lines_fault (module_scope krate) lines names ≡ None → AllByRecursion (Stands krate) (filter_map (λ line. called line.statement) lines)
unfolding lines_fault
all_stand krate fits [] names h = tt
all_stand krate fits (line ∷ lines) names h =
    let typed = no_fault line.line (statement_types (module_scope krate) names line.statement) (lines_fault (module_scope krate) lines) h in
    more_called (Stands krate) (called line.statement) (filter_map (λ other. called other.statement) lines) (statement_stands krate fits line.statement names typed.0 typed.1) (all_stand krate fits lines typed.0 typed.2)

-- what all have, those have that are left
all_left : {X : Type 0} (P : X → Type 0) (test : X → Bool) (xs : List X) → AllByRecursion P xs → AllByRecursion P (filter test xs)
all_left P test [] all = tt
all_left {X} P test (x ∷ xs) all = by (test x) (all_left P test xs all.1)
  where
    by : (b : Bool) → AllByRecursion P (filter test xs) → AllByRecursion P (cond b (x ∷ filter test xs) (filter test xs))
    by true more = (all.0, more)
    by false more = more

all_once : {X : Type 0} (P : X → Type 0) (same : X → X → Bool) (xs : List X) → AllByRecursion P xs → AllByRecursion P (first_of_each same xs)
unfolding first_of_each
all_once P same [] all = tt
all_once P same (x ∷ xs) all = (all.0, all_left P (λ other. not (same x other)) (first_of_each same xs) (all_once P same xs all.1))

presets_are : (krate : CrateTree) (places : List Place) → AllByRecursion (Stands krate) places → PresetsAre krate places (filter_map (λ place. option_map preset_of (text_at krate place)) places)
unfolding PresetsAre
presets_are krate [] all = refl
presets_are krate (place ∷ places) all =
    record {
      found = all.0.0;
      place_is = all.0.1;
      others = filter_map (λ other. option_map preset_of (text_at krate other)) places;
      presets_are = ap (λ o. cons_option (option_map preset_of (option_map acts_at o)) (filter_map (λ other. option_map preset_of (text_at krate other)) places)) (place_found krate place all.0.0 all.0.1);
      others_are = presets_are krate places all.1;
    }

pub fitting_presets : FittingPresets
unfolding module_fault text_presets presets
fitting_presets krate fits script none =
    presets_are krate (called_places script) (all_once (Stands krate) same_place (filter_map (λ line. called line.statement) script.lines) (all_stand krate fits script.lines [] (none_by_modules krate fits script none)))
