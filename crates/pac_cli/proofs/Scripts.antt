-- Crate texts and scripts: from what their readers and typing answer to what they come to, and from a run to what was done.
use Rattle.std.proofs.Common.{ℕ, ◌≡◌, List, [], ◌∷◌, ◌++◌, All, length, slice_index_or, Option, Some, Result, refl, sym, ap, ap₂, ◌∙◌, subst, inl, inr, arith}
use Rattle.std.proofs.lemmas.List.Elements.{All-cons, All-nil}
use Rattle.std.specs.List.{AllByRecursion}
use Rattle.frag_eval.specs.Prefixes.{IsAll, acts_of, reads_in}
use Rattle.frag_eval.specs.Preparing.{Prepared, Refused, set_by_all}
use Rattle.frag_eval.specs.Runs.{Ran, Readied, Stopped}
use Rattle.frag_parse.specs.Parsing.{RefusedFor as CrateRefusedFor}
use Rattle.frag_parse.specs.declared.fault.ParseFault.{ParseFault}
use Rattle.frag_parse.specs.declared.fault.ParseFault.TheVariants as parse
use Rattle.frag_script.specs.ScriptLines.{RefusedFor as ScriptRefusedFor}
use Rattle.frag_script.specs.declared.fault.ScriptFault.{ScriptFault}
use Rattle.frag_script.specs.declared.fault.ScriptFault.TheVariants as script
use Rattle.frag_sem.proofs.Events.{events_in_range}
use Rattle.frag_sem.specs.CrateTyping.{CrateFits}
use Rattle.frag_sem.specs.Laws.{EventInRange}
use Rattle.frag_sem.specs.ScriptTyping.{LineFault, script_fault}
use Rattle.frag_sem.specs.Surfaces.{Surface}
use Rattle.frag_sem.specs.TextMeaning.{text_meaning, text_presets}
use Rattle.frag_sem.specs.TextSurface.{text_surface}
use Rattle.frag_tree.specs.Trees.{CrateTree, crate_tree}
use Rattle.frag_tree.specs.declared.event.Event.{Event}
use Rattle.frag_tree.specs.declared.event.Event.TheVariants as event
use Rattle.frag_tree.specs.declared.krate.Crate.{Crate}
use Rattle.frag_tree.specs.declared.script.Script.{Script}
use Rattle.frag_types.specs.Refusals.{IsCrateRefusal, IsScriptRefusal, crate_kind, script_kind}
use Rattle.frag_types.specs.declared.fault.CrateFault.{CrateFault}
use Rattle.frag_types.specs.declared.fault.CrateFault.TheVariants as krate
use Rattle.pac_bus.proofs.Acting.{did_then}
use Rattle.pac_bus.specs.EventTexts.{HoldsWord, event_text}
use Rattle.pac_bus.specs.Telling.{BusTold}
use Rattle.pac_io.proofs.WrittenUpTo.{none_written}
use Rattle.pac_fault.specs.Classes.{Class, no_memory, bad_words, bad_read, bad_write, bad_bus, long_file, bad_input, class_of}
use Rattle.pac_fault.specs.Layers.{of_parsing, of_script, of_typing}
use Rattle.pac_fault.specs.declared.fault.PacFault.{PacFault}
use Rattle.pac_fault.specs.declared.fault.PacFault.TheVariants.{Memory}
use Rattle.pac_cli.specs.Answers.{Answer, AnswersRun, AnswersScript, AnswersText, Decides, DecidesRun, Plan, does, no_crate_text, no_script, refused, scripted, table_plan, text_plan, unless_mistyped, unresolved}
use Rattle.pac_cli.specs.Buses.{OthersStay, Slot, bus_of, lent_for}
use Rattle.pac_words.specs.declared.command.Command.{Command}
use Rattle.pac_words.specs.declared.command.Command.TheVariants.{Executing, Running}
use Rattle.pac_words.specs.declared.command.Run.{Run}
use Rattle.pac_words.specs.declared.command.Source.{Source}
use Rattle.frag_emit.specs.Standing.{StandsFor}
use Rattle.svd_model.specs.Keys.{Key}
use Rattle.svd_model.specs.Steps.{Step}
use Rattle.svd_rows.specs.Rows.{Row}
use Rattle.pac_cli.specs.Resolving.{ComeTo, SourceBytes, bytes_from, Unresolved, stopped, resolved}
use Rattle.pac_cli.proofs.OneReading.{no_fault}
use Rattle.pac_cli.specs.Scripts.{no_crate, modules_too_deep, misfits, untyped, typed, CrateReadAs, IsTreeOf, no_statement, too_many_statements, mistyped, Unscripted, unread, spelled, ScriptReadAs}
use Rattle.pac_cli.specs.Stages.{Does, DoesNot, IsScriptFor, IsUnfit, MakesAll, MakesFirst, ScriptsNot, TypesNot}
use Rattle.pac_cli.specs.Worlds.{Desk, Paper, desk}
use Rattle.pac_cli.proofs.Doing.{does_otherwise, nothing_done}
use Rattle.pac_cli.proofs.Sources.{decides_run}

-- ---- crate texts

-- the bytes are no crate text that is read
pub not_parsed : (bytes : List ℕ) (fault : ParseFault) → CrateRefusedFor fault bytes → TypesNot (class_of (of_parsing fault)) bytes (of_parsing fault)
not_parsed bytes (parse.Syntax at) h = (no_crate, h, (at, refl))
not_parsed bytes (parse.TooDeep at) h = (modules_too_deep, h, (at, refl))
not_parsed bytes parse.Memory h = refl

-- the crate doesn't fit
pub not_typed : (bytes : List ℕ) (tree : CrateTree) (fault : CrateFault) → IsTreeOf bytes tree → IsCrateRefusal tree fault → TypesNot (class_of (of_typing fault)) bytes (of_typing fault)
not_typed bytes tree (krate.Syntax at) is h = absurd h
not_typed bytes tree (krate.TooDeep at) is h = absurd h
not_typed bytes tree (krate.Typing at kind) is h = (misfits (crate_kind kind), record { krate = tree; tree = is; fault = h }, (at, kind, refl, refl))
not_typed bytes tree krate.Memory is h = refl

-- ---- scripts

-- the bytes are no script that is read
pub not_read : (surface : Surface) (bytes : List ℕ) (fault : ScriptFault) → ScriptRefusedFor fault bytes → ScriptsNot (class_of (of_script fault)) surface bytes (of_script fault)
not_read surface bytes (script.Syntax line) h = (no_statement line, h, refl)
not_read surface bytes (script.TooLong count) h = (too_many_statements count, h, refl)
not_read surface bytes (script.Typing line kind) h = absurd h
not_read surface bytes script.Memory h = refl

-- the script doesn't fit
pub not_fitting : (surface : Surface) (bytes : List ℕ) (text : Script) (fault : ScriptFault) → ScriptReadAs bytes (spelled text) → IsScriptRefusal (script_fault surface text) fault
    → ScriptsNot (class_of (of_script fault)) surface bytes (of_script fault)
not_fitting surface bytes text (script.Syntax line) is h = absurd h
not_fitting surface bytes text (script.TooLong count) is h = absurd h
not_fitting surface bytes text (script.Typing line kind) is h =
    (mistyped (record { line = line; kind = script_kind kind }), record { script = text; comes = is; found = h }, (kind, refl, refl))
not_fitting surface bytes text script.Memory is h = refl

-- ---- what is answered

module _ (surface : Surface) (plan : Script → Plan) (bytes : List ℕ) where
  -- the script that fits has its plan
  pub plans : (text : Script) → IsScriptFor surface bytes text → AnswersScript surface plan bytes (does (plan text))
  unfolding scripted
  plans text h = record { reading = spelled text; comes = h.comes; answered = ap (λ (found : Option LineFault). unless_mistyped found (plan text)) (sym h.fits) }

  -- the script that doesn't is refused
  unfit : (why : Unscripted) → IsUnfit surface bytes why → AnswersScript surface plan bytes (refused (no_script why))
  unfolding scripted
  unfit (no_statement line) h = record { reading = unread (no_statement line); comes = h; answered = refl }
  unfit (too_many_statements count) h = record { reading = unread (too_many_statements count); comes = h; answered = refl }
  unfit (mistyped fault) h = record { reading = spelled h.script; comes = h.comes; answered = ap (λ (found : Option LineFault). unless_mistyped found (plan h.script)) (sym h.found) }

  unscripted : (class : Class) (now : Desk) (fault : PacFault) → ScriptsNot class surface bytes fault → DoesNot class (AnswersScript surface plan bytes) now now fault
  unscripted no_memory now fault h = record { told_as = h; count = refl; output = inl (nothing_done now) }
  unscripted bad_words now fault h = absurd h
  unscripted (bad_read name) now fault h = absurd h
  unscripted bad_write now fault h = absurd h
  unscripted (bad_bus done) now fault h = absurd h
  unscripted (long_file name limit) now fault h = absurd h
  unscripted bad_input now fault h = record { nothing = nothing_done now; cause = no_script h.0; decided = unfit h.0 h.1; shown = h.2 }

  pub not_scripted : (now : Desk) (fault : PacFault) → ScriptsNot (class_of fault) surface bytes fault → DoesNot (class_of fault) (AnswersScript surface plan bytes) now now fault
  not_scripted now fault h = unscripted (class_of fault) now fault h

-- a crate text that comes to a crate has the answers of scripts against it
pub answers_text : (text bytes : List ℕ) (tree : CrateTree) (answer : Answer) → CrateReadAs text (typed tree) → AnswersScript (text_surface tree) (text_plan tree) bytes answer → AnswersText text bytes answer
answers_text text bytes tree answer is h = record { reading = typed tree; comes = is; answered = h }

untyped_at : (class : Class) (text bytes : List ℕ) (now : Desk) (fault : PacFault) → TypesNot class text fault → DoesNot class (AnswersText text bytes) now now fault
untyped_at no_memory text bytes now fault h = record { told_as = h; count = refl; output = inl (nothing_done now) }
untyped_at bad_words text bytes now fault h = absurd h
untyped_at (bad_read name) text bytes now fault h = absurd h
untyped_at bad_write text bytes now fault h = absurd h
untyped_at (bad_bus done) text bytes now fault h = absurd h
untyped_at (long_file name limit) text bytes now fault h = absurd h
untyped_at bad_input text bytes now fault h = record {
  nothing = nothing_done now;
  cause = no_crate_text h.0;
  decided = record { reading = untyped h.0; comes = h.1; answered = refl };
  shown = h.2;
}

-- a crate text that comes to none is refused
pub not_crate : (text bytes : List ℕ) (now : Desk) (fault : PacFault) → TypesNot (class_of fault) text fault → DoesNot (class_of fault) (AnswersText text bytes) now now fault
not_crate text bytes now fault h = untyped_at (class_of fault) text bytes now fault h

-- ---- a run

words_of_one : (one : Event) → EventInRange one → HoldsWord one
words_of_one (event.Read address width value) h = h.1
words_of_one (event.Write address width value) h = h.1
words_of_one (event.Say said) h = tt

words_of_first : (events more : List Event) → AllByRecursion EventInRange (events ++ more) → All HoldsWord events
words_of_first [] more h = All-nil HoldsWord
words_of_first (one ∷ events) more h = All-cons HoldsWord one events (words_of_one one h.0) (words_of_first events more h.1)

words_of_all : (events : List Event) → AllByRecursion EventInRange events → All HoldsWord events
words_of_all [] h = All-nil HoldsWord
words_of_all (one ∷ events) h = All-cons HoldsWord one events (words_of_one one h.0) (words_of_all events h.1)

module _ (tree : CrateTree) (fits : CrateFits tree) (text : Script) where
  -- the accesses of a run are of words of their width
  pub whole_words : (events : List Event) → IsAll tree text events → All HoldsWord events
  whole_words events is = words_of_all events (subst (AllByRecursion EventInRange) (sym is) (events_in_range tree fits.constants fits.address_range text (reads_in events)))

  pub first_words : (events : List Event) (next : Event) (later : List Event) → text_meaning tree text (reads_in events) ≡ events ++ next ∷ later → All HoldsWord events
  first_words events next later is =
      words_of_first events (next ∷ later) (subst (AllByRecursion EventInRange) is (events_in_range tree fits.constants fits.address_range text (reads_in events)))

module _ (krate : Crate) (text : Script) (was ready : BusTold) (of : Readied) (prepared : Prepared was ready krate text of) where
  abbrev tree : CrateTree
  tree = crate_tree krate

  -- what is ready means what the script means against the crate
  same_meaning : (answers : List ℕ) → text_meaning (crate_tree of.krate) of.script answers ≡ text_meaning tree text answers
  same_meaning answers = ap₂ (λ (one : Crate) (other : Script). text_meaning (crate_tree one) other answers) prepared.of_crate prepared.of_script

  module _ (now : BusTold) (events : List Event) (ran : Ran ready now of.krate of.script events) where
    -- a run that came to its end made all events of its plan
    pub makes_all : MakesAll (text_plan tree text) events (Some was) (Some now)
    makes_all = record {
      whole = ran.all ∙ same_meaning (reads_in events);
      acted = did_then was ready now (set_by_all (text_presets tree text)) (acts_of events) prepared.preset ran.acted;
    }

    -- and its accesses are of words of their width
    pub all_words : CrateFits tree → All HoldsWord events
    all_words fits = whole_words tree fits text events (ran.all ∙ same_meaning (reads_in events))

  module _ (now : BusTold) (count : ℕ) (events : List Event) (stopped : Stopped ready now of.krate of.script count events) where
    -- where the bus failed, the first were made
    pub makes_first : MakesFirst (text_plan tree text) events (Some was) (Some now)
    makes_first = record {
      next = stopped.next;
      later = stopped.later;
      first = sym (same_meaning (reads_in events)) ∙ stopped.first;
      is_access = stopped.is_access;
      broke = record {
        between = stopped.broke.between;
        acted = did_then was ready stopped.broke.between (set_by_all (text_presets tree text)) (acts_of events) prepared.preset stopped.broke.acted;
        failed = stopped.broke.failed;
      };
    }

    pub some_words : CrateFits tree → All HoldsWord events
    some_words fits = first_words tree fits text events stopped.next stopped.later (sym (same_meaning (reads_in events)) ∙ stopped.first)

-- memory was wanting to prepare it
pub not_prepared : (krate : Crate) (text back : Script) (was now : BusTold) (decides : Answer → Type 0) (paper : Paper) (fault : PacFault) → fault ≡ Memory
    → decides (does (text_plan (crate_tree krate) text)) → Refused was now krate text back → DoesNot (class_of fault) decides (desk paper (Some was)) (desk paper (Some now)) fault
not_prepared krate text back was now decides paper fault is decided h =
    subst (λ (f : PacFault). DoesNot (class_of f) decides (desk paper (Some was)) (desk paper (Some now)) f) (sym is) (record {
      told_as = refl;
      count = refl;
      output = inr (record {
        plan = text_plan (crate_tree krate) text;
        decided = decided;
        events = [];
        makes = inl (record { none = refl; made = h.made; later = h.later; first = h.first; acted = h.preset });
        part = none_written paper.written [];
      });
    })

-- ---- a command

-- two inputs are those that are found
pub two_inputs : (inputs : List (List ℕ)) (one other : List ℕ) → length inputs ≡ 2 → one ≡ slice_index_or inputs 0 one → other ≡ slice_index_or inputs 1 other → inputs ≡ one ∷ other ∷ []
two_inputs [] one other many first second = absurd (omega (arith, many))
two_inputs (text ∷ []) one other many first second = absurd (omega (arith, many))
two_inputs (text ∷ more ∷ []) one other many first second = ap₂ (λ (a b : List ℕ). a ∷ b ∷ []) (sym first) (sym second)
two_inputs (text ∷ more ∷ next ∷ inputs) one other many first second = absurd (omega (arith, many))

-- running a script against a crate text is what the command decides
pub executed : {T : Type 0} (command : Command) (name : List ℕ) (run : Run) (inputs : List (List ℕ)) (text bytes : List ℕ) (before after : Paper) (old new : List Slot) (was now : BusTold)
    (result : Result T PacFault) → command ≡ Executing name run → inputs ≡ text ∷ bytes ∷ [] → lent_for (Some run.bus) old ≡ Some was → lent_for (Some run.bus) new ≡ Some now
    → Does (AnswersText text bytes) (desk before (Some was)) (desk after (Some now)) result
    → Does (Decides command inputs) (desk before (lent_for (bus_of command) old)) (desk after (lent_for (bus_of command) new)) result
executed command name run inputs text bytes before after old new was now result is given first last h =
    subst (λ (c : Command). Does (Decides c inputs) (desk before (lent_for (bus_of c) old)) (desk after (lent_for (bus_of c) new)) result) (sym is)
    (subst (λ (all : List (List ℕ)). Does (Decides (Executing name run) all) (desk before (lent_for (Some run.bus) old)) (desk after (lent_for (Some run.bus) new)) result) (sym given)
    (subst (λ (bus : Option BusTold). Does (AnswersText text bytes) (desk before bus) (desk after (lent_for (Some run.bus) new)) result) (sym first)
    (subst (λ (bus : Option BusTold). Does (AnswersText text bytes) (desk before (Some was)) (desk after bus) result) (sym last) h)))

-- and the other lent buses are those of the command
pub others_executed : (command : Command) (name : List ℕ) (run : Run) (old new : List Slot) → command ≡ Executing name run → OthersStay (Some run.bus) old new → OthersStay (bus_of command) old new
others_executed command name run old new is h = subst (λ (c : Command). OthersStay (bus_of c) old new) (sym is) h

-- ---- a description

-- a crate that fits is refused for want of memory alone
pub only_memory : (made : CrateTree) (fault : CrateFault) → CrateFits made → IsCrateRefusal made fault → of_typing fault ≡ Memory
only_memory made (krate.Syntax at) fits h = absurd h
only_memory made (krate.TooDeep at) fits h = absurd h
only_memory made (krate.Typing at kind) fits h = absurd (no_fault made (crate_kind kind) fits h)
only_memory made krate.Memory fits h = refl

-- a script does against a crate that stands for rows what it does against their register table
same_plan : (rows : List (Row Step Key)) (made : CrateTree) → StandsFor rows made → text_plan made ≡ table_plan rows
same_plan rows made stands = λ i text. record { presets = stands.presets text i; events = λ answers. stands.meaning text answers i; text = event_text; left = event_text }

-- a description that comes to no rows is refused
pub stops_run : (source : SourceBytes) (bytes : List ℕ) (why : Unresolved) → ComeTo source (stopped why) → AnswersRun source bytes (refused (unresolved why))
stops_run source bytes why comes = record { resolution = stopped why; comes = comes; answered = refl }

-- so the answers of scripts against it are those of the description
pub answers_run : (source : SourceBytes) (rows : List (Row Step Key)) (made : CrateTree) (bytes : List ℕ) (answer : Answer) → ComeTo source (resolved rows) → StandsFor rows made
    → AnswersScript (text_surface made) (text_plan made) bytes answer → AnswersRun source bytes answer
answers_run source rows made bytes answer comes stands h = record {
  resolution = resolved rows;
  comes = comes;
  answered =
      subst (λ (surface : Surface). AnswersScript surface (table_plan rows) bytes answer) stands.surface
      (subst (λ (plan : Script → Plan). AnswersScript (text_surface made) plan bytes answer) (same_plan rows made stands) h);
}

-- running a script against the crate of a description is what the command decides
pub has_run : {T : Type 0} (command : Command) (source : Source) (run : Run) (inputs files : List (List ℕ)) (given : SourceBytes) (bytes : List ℕ) (before after : Paper) (old new : List Slot) (was now : BusTold)
    (result : Result T PacFault) → command ≡ Running source run → inputs ≡ files ++ bytes ∷ [] → bytes_from source files ≡ Some given → lent_for (Some run.bus) old ≡ Some was → lent_for (Some run.bus) new ≡ Some now
    → Does (AnswersRun given bytes) (desk before (Some was)) (desk after (Some now)) result
    → Does (Decides command inputs) (desk before (lent_for (bus_of command) old)) (desk after (lent_for (bus_of command) new)) result
has_run command source run inputs files given bytes before after old new was now result is are from first last h =
    subst (λ (c : Command). Does (Decides c inputs) (desk before (lent_for (bus_of c) old)) (desk after (lent_for (bus_of c) new)) result) (sym is)
    (subst (λ (bus : Option BusTold). Does (DecidesRun source inputs) (desk before bus) (desk after (lent_for (Some run.bus) new)) result) (sym first)
    (subst (λ (bus : Option BusTold). Does (DecidesRun source inputs) (desk before (Some was)) (desk after bus) result) (sym last)
    (does_otherwise (AnswersRun given bytes) (DecidesRun source inputs) (decides_run source inputs files bytes given are from) (desk before (Some was)) (desk after (Some now)) result h)))

-- and the other lent buses are those of the command
pub others_run : (command : Command) (source : Source) (run : Run) (old new : List Slot) → command ≡ Running source run → OthersStay (Some run.bus) old new → OthersStay (bus_of command) old new
others_run command source run old new is h = subst (λ (c : Command). OthersStay (bus_of c) old new) (sym is) h
