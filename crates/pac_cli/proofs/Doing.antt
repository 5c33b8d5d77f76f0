-- From what a stage leaves to what is done for a command.
use Rattle.std.proofs.Common.{ℕ, ◌≡◌, ◌⊎◌, Option, Some, None, List, [], true, Result, Ok, Err, IfOk, refl, sym, ap, ◌∙◌, subst, inl, inr}
use Rattle.std.specs.Io.KnownBytes.{Appends}
use Rattle.std.specs.Result.{result_err}
use Rattle.frag_tree.specs.declared.event.Event.{Event}
use Rattle.pac_bus.specs.Telling.{BusTold}
use Rattle.pac_io.specs.Writing.{AppendsPrefix, FaultCause}
use Rattle.pac_io.specs.declared.fault.SinkFault.{SinkFault}
use Rattle.pac_io.specs.declared.fault.SinkFault.TheVariants as sink
use Rattle.reg_table.specs.Listing.{listing}
use Rattle.reg_table.specs.Registers.{table_of}
use Rattle.svd_model.specs.Keys.{Key}
use Rattle.svd_model.specs.Steps.{Step}
use Rattle.svd_rows.specs.Rows.{Row}
use Rattle.pac_fault.specs.Classes.{Class, no_memory, bad_words, bad_read, bad_write, bad_bus, long_file, bad_input, class_of}
use Rattle.pac_fault.specs.Layers.{of_writing}
use Rattle.pac_fault.specs.declared.fault.PacFault.{PacFault}
use Rattle.pac_fault.specs.declared.fault.PacFault.TheVariants.{Memory}
use Rattle.pac_cli.specs.Answers.{Plan, prints, Answer, refused, does, unresolved, AnswersSource, generated, listed}
use Rattle.pac_cli.specs.Resolving.{Unresolved, Resolution, stopped, resolved, SourceBytes, ComeTo}
use Rattle.pac_cli.specs.Stages.{Does, DoesNot, HasWrittenPart, MakesAll, MakesAny, MakesSome, ResolvesNot}
use Rattle.pac_cli.specs.Worlds.{Desk, DoesNothing, Paper, alone}
use Rattle.crate_form.proofs.Forming.{one_has_form}
use Rattle.crate_form.specs.Forms.{HasForm}
use Rattle.frag_emit.specs.Standing.{StandsFor}
use Rattle.frag_tree.proofs.CrateProductions.{one_crate}
use Rattle.frag_tree.proofs.Fine.{printed_words}
use Rattle.frag_tree.specs.Crates.{printed}
use Rattle.frag_tree.specs.Trees.{CrateTree}
use Rattle.frag_tree.specs.Validity.{valid_crate}
use Rattle.pac_cli.specs.Headline.{WordsHaveText, WritesText, WritesTextFor}
use Rattle.pac_cli.specs.Inputs.{files_of}
use Rattle.pac_inputs.specs.Gathering.{FileMap, Gathered, inputs_are}
use Rattle.pac_words.specs.Commands.{command_of}
use Rattle.pac_words.specs.declared.command.Command.{Command}

-- nothing is done
pub nothing_done : (now : Desk) → DoesNothing now now
nothing_done now = record { same_text = refl; same_faults = refl; same_bus = refl }

-- memory was wanting before anything was done
pub lacks_memory : (decides : Answer → Type 0) (now : Desk) (fault : PacFault) → fault ≡ Memory → DoesNot (class_of fault) decides now now fault
lacks_memory decides now fault is =
    subst (λ (f : PacFault). DoesNot (class_of f) decides now now f) (sym is) (record { told_as = refl; count = refl; output = inl (nothing_done now) })

-- the output broke off behind a first part
broken_off : (decides : Answer → Type 0) (old new : Desk) (error : SinkFault) → HasWrittenPart MakesSome decides old new
    → FaultCause error old.paper.faults new.paper.faults → DoesNot (class_of (of_writing error)) decides old new (of_writing error)
broken_off decides old new sink.Failed part cause = record { rose = cause; output = part }
broken_off decides old new sink.Memory part cause = record {
  told_as = refl;
  count = cause;
  output = inr (record { plan = part.plan; decided = part.decided; events = part.events; makes = inr part.makes; part = part.part });
}

pub not_written : (decides : Answer → Type 0) (old new : Desk) (error : SinkFault) (fault : PacFault) → fault ≡ of_writing error → HasWrittenPart MakesSome decides old new
    → FaultCause error old.paper.faults new.paper.faults → DoesNot (class_of fault) decides old new fault
not_written decides old new error fault is part cause =
    subst (λ (f : PacFault). DoesNot (class_of f) decides old new f) (sym is) (broken_off decides old new error part cause)

-- a text that depends on no bus makes no events
pub makes_nothing : (text : List ℕ) → MakesAll (prints text) [] None None
makes_nothing text = record { whole = refl; acted = refl }

-- a first part of a text that depends on no bus
pub part_of_text : (decides : Answer → Type 0) (text : List ℕ) (old new : Paper) → decides (does (prints text)) → AppendsPrefix old.written new.written text
    → HasWrittenPart MakesSome decides (alone old) (alone new)
part_of_text decides text old new decided part = record { plan = prints text; decided = decided; events = []; makes = inl (makes_nothing text); part = part }

-- ---- what decides an answer may be said otherwise

module _ (one other : Answer → Type 0) (goes : (answer : Answer) → one answer → other answer) where
  part_otherwise : (Makes : Plan → List Event → Option BusTold → Option BusTold → Type 0) (old new : Desk) → HasWrittenPart Makes one old new → HasWrittenPart Makes other old new
  part_otherwise Makes old new h = record { plan = h.plan; decided = goes (does h.plan) h.decided; events = h.events; makes = h.makes; part = h.part }

  output_otherwise : (old new : Desk) → DoesNothing old new ⊎ HasWrittenPart MakesAny one old new → DoesNothing old new ⊎ HasWrittenPart MakesAny other old new
  output_otherwise old new (inl nothing) = inl nothing
  output_otherwise old new (inr part) = inr (part_otherwise MakesAny old new part)

  fault_otherwise : (class : Class) (old new : Desk) (fault : PacFault) → DoesNot class one old new fault → DoesNot class other old new fault
  fault_otherwise no_memory old new fault h = record { told_as = h.told_as; count = h.count; output = output_otherwise old new h.output }
  fault_otherwise bad_words old new fault h = absurd h
  fault_otherwise (bad_read name) old new fault h = absurd h
  fault_otherwise bad_write old new fault h = record { rose = h.rose; output = part_otherwise MakesSome old new h.output }
  fault_otherwise (bad_bus done) old new fault h = record {
    count = h.count;
    plan = h.plan;
    decided = goes (does h.plan) h.decided;
    events = h.events;
    makes = h.makes;
    counted = h.counted;
    whole = h.whole;
  }
  fault_otherwise (long_file name limit) old new fault h = absurd h
  fault_otherwise bad_input old new fault h = record { nothing = h.nothing; cause = h.cause; decided = goes (refused h.cause) h.decided; shown = h.shown }

  pub does_otherwise : {T : Type 0} (old new : Desk) (result : Result T PacFault) → Does one old new result → Does other old new result
  does_otherwise old new (Ok value) h = record { count = h.count; plan = h.plan; decided = goes (does h.plan) h.decided; events = h.events; makes = h.makes; whole = h.whole }
  does_otherwise old new (Err fault) h = fault_otherwise (class_of fault) old new fault h

-- ---- commands over a description

-- the files of a description come to no rows
refused_by : (class : Class) (decides : Answer → Type 0) (source : SourceBytes) (now : Desk) (fault : PacFault) → ((why : Unresolved) → ComeTo source (stopped why) → decides (refused (unresolved why)))
    → ResolvesNot class source fault → DoesNot class decides now now fault
refused_by no_memory decides source now fault stops h = record { told_as = h; count = refl; output = inl (nothing_done now) }
refused_by bad_words decides source now fault stops h = absurd h
refused_by (bad_read name) decides source now fault stops h = absurd h
refused_by bad_write decides source now fault stops h = absurd h
refused_by (bad_bus done) decides source now fault stops h = absurd h
refused_by (long_file name limit) decides source now fault stops h = absurd h
refused_by bad_input decides source now fault stops h = record { nothing = nothing_done now; cause = unresolved h.0; decided = stops h.0 h.1; shown = h.2 }

pub stopped_by : (decides : Answer → Type 0) (source : SourceBytes) (now : Desk) (fault : PacFault) → ((why : Unresolved) → ComeTo source (stopped why) → decides (refused (unresolved why)))
    → ResolvesNot (class_of fault) source fault → DoesNot (class_of fault) decides now now fault
stopped_by decides source now fault stops h = refused_by (class_of fault) decides source now fault stops h

pub not_resolved : (made : Resolution → Answer) (source : SourceBytes) (now : Desk) (fault : PacFault) → ((why : Unresolved) → made (stopped why) ≡ refused (unresolved why))
    → ResolvesNot (class_of fault) source fault → DoesNot (class_of fault) (AnswersSource made source) now now fault
not_resolved made source now fault stops h =
    stopped_by (AnswersSource made source) source now fault (λ why comes. record { resolution = stopped why; comes = comes; answered = sym (stops why) }) h

-- a listing

pub lists_stopped : (why : Unresolved) → listed (stopped why) ≡ refused (unresolved why)
unfolding listed
lists_stopped why = refl

pub lists_rows : (source : SourceBytes) (rows : List (Row Step Key)) → ComeTo source (resolved rows) → AnswersSource listed source (does (prints (listing (table_of rows))))
unfolding listed
lists_rows source rows comes = record { resolution = resolved rows; comes = comes; answered = refl }

-- a crate text

pub generates_stopped : (why : Unresolved) → generated (stopped why) ≡ refused (unresolved why)
unfolding generated
generates_stopped why = refl

pub generates_rows : (source : SourceBytes) (rows : List (Row Step Key)) (krate : CrateTree) → ComeTo source (resolved rows) → HasForm rows krate
    → AnswersSource generated source (does (prints (printed krate)))
unfolding generated
generates_rows source rows krate comes form = record { resolution = resolved rows; comes = comes; answered = ap (λ (k : CrateTree). does (prints (printed k))) (one_has_form rows krate form) }

pub writes_text : (source : SourceBytes) (rows : List (Row Step Key)) (krate : CrateTree) (old new : Option (List ℕ)) → ComeTo source (resolved rows) → valid_crate krate ≡ true
    → HasForm rows krate → StandsFor rows krate → Appends old new (printed krate) → WritesTextFor source old new
writes_text source rows krate old new comes valid form stands grown = record {
  bytes = printed krate;
  text = record {
    rows = rows;
    comes = comes;
    krate = krate;
    valid = valid;
    printed_as = refl;
    parses = refl;
    only = λ other is parses. one_crate other krate is valid (sym (printed_words other is) ∙ (sym parses ∙ printed_words krate valid));
    form = form;
    stands = stands;
  };
  appended = grown;
}

pub has_text : (words : List (List ℕ)) (command : Command) (told : Option FileMap) (inputs : List (List ℕ)) (old new : Option (List ℕ)) → command_of words ≡ Some command
    → Gathered told (files_of command) (inputs_are inputs) → WritesText command inputs old new → WordsHaveText (command_of words) told old new
has_text words command told inputs old new asks gathered writes =
    subst (λ (asked : Option Command). WordsHaveText asked told old new) (sym asks) (record { inputs = inputs; gathered = gathered; writes = writes })

-- without a fault there was an answer
pub where_none : {T E P : Type 0} (result : Result T E) → result_err result ≡ None → IfOk result (λ _. P) → P
where_none (Ok value) none holds = holds
where_none (Err error) none holds = absurd (cc none)
