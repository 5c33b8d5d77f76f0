-- The whole answer: what the words, the lent buses and the inputs of their command decide, a refusal with its cause or what is done.
-- This project's own rule.
use Rattle.std.specs.Prelude.{ℕ, ◌≡◌, Bool, true, false, List, [], ◌∷◌, Option, Some, None, is_some}
use Rattle.frag_sem.specs.Presets.{Preset}
use Rattle.frag_sem.specs.ScriptTyping.{LineFault, script_fault}
use Rattle.frag_sem.specs.Surfaces.{Surface}
use Rattle.frag_sem.specs.TextMeaning.{text_meaning, text_presets}
use Rattle.frag_sem.specs.TextSurface.{text_surface}
use Rattle.frag_tree.specs.Crates.{printed}
use Rattle.frag_tree.specs.Trees.{CrateTree}
use Rattle.frag_tree.specs.declared.event.Event.{Event}
use Rattle.frag_tree.specs.declared.script.Script.{Script}
use Rattle.crate_form.specs.Crates.{emitted}
use Rattle.pac_bus.specs.EventTexts.{event_text}
use Rattle.overlap_check.specs.declared.fault.Policy.TheVariants.{Loose}
use Rattle.pac_sample.specs.Description.{sample_text}
use Rattle.pac_sample.specs.Script.{sample_script}
use Rattle.pac_sample.specs.Summary.{summary}
use Rattle.pac_sample.specs.Wanted.{numbers_given}
use Rattle.reg_table.specs.Listing.{listing}
use Rattle.reg_table.specs.Registers.{table_of}
use Rattle.svd_model.specs.Keys.{Key}
use Rattle.svd_model.specs.Steps.{Step}
use Rattle.svd_rows.specs.Rows.{Row}
use Rattle.table_sem.specs.TableMeaning.{table_presets, table_run}
use Rattle.table_sem.specs.TableSurface.{table_surface}
use Rattle.pac_words.specs.Commands.{command_of}
use Rattle.pac_words.specs.declared.command.BusKind.{BusKind}
use Rattle.pac_words.specs.declared.command.Command.{Command}
use Rattle.pac_words.specs.declared.command.Command.TheVariants.{Executing, Generating, Listing, Running, Sampling}
use Rattle.pac_words.specs.declared.command.Source.{Source}
use Rattle.pac_inputs.specs.Gathering.{FileMap, Gathering, inputs_are, is_too_long, Gathered}
use Rattle.pac_cli.specs.Buses.{bus_of, missing_kind}
use Rattle.pac_cli.specs.Inputs.{files_of}
use Rattle.pac_cli.specs.Resolving.{Unresolved, Resolution, stopped, resolved, SourceBytes, bytes_of, ComeTo}
use Rattle.pac_cli.specs.Scripts.{Untyped, CrateReading, untyped, typed, CrateReadAs, Unscripted, ScriptReading, unread, mistyped, spelled, ScriptReadAs}

-- why a command isn't done
pub data Cause : Type 0 where
  no_command : Cause
  bad_number : Cause
  no_bus : BusKind → Cause
  file_too_long : (name : List ℕ) → (limit : ℕ) → Cause
  unresolved : Unresolved → Cause
  no_crate_text : Untyped → Cause
  no_script : Unscripted → Cause

-- What a command does where it isn't refused: the presets of its bus, the events that it makes where the bus gives these answers to
-- its reads, the text that is written of the events that were made, and what is left of it where the bus fails behind them.
pub record Plan : Type 0 where
  pub presets : List Preset
  pub events : (answers : List ℕ) → List Event
  pub text : List Event → List ℕ
  pub left : List Event → List ℕ

-- a text that depends on no bus
abbrev pub prints : List ℕ → Plan
prints text = record { presets = []; events = λ answers. []; text = λ events. text; left = λ events. text }

-- a run, of which the lines of its events are written
abbrev pub runs : List Preset → (List ℕ → List Event) → Plan
runs presets events = record { presets = presets; events = events; text = event_text; left = event_text }

-- a run, of which a summary is written where it comes to its end
abbrev pub sums : ℕ → List Preset → (List ℕ → List Event) → Plan
sums count presets events = record { presets = presets; events = events; text = summary count; left = λ events. [] }

pub data Answer : Type 0 where
  refused : Cause → Answer
  does : Plan → Answer

-- ---- commands over a description

-- what listing a description answers, by what that comes to
unfoldable pub listed : Resolution → Answer
listed (stopped why) = refused (unresolved why)
listed (resolved rows) = does (prints (listing (table_of rows)))

-- what generating the crate text of a description answers, by what that comes to
unfoldable pub generated : Resolution → Answer
generated (stopped why) = refused (unresolved why)
generated (resolved rows) = does (prints (printed (emitted rows)))

-- the answer that is made of what the files of a description come to
pub record AnswersSource (made : Resolution → Answer) (source : SourceBytes) (answer : Answer) : Type 0 where
  pub resolution : Resolution
  pub comes : ComeTo source resolution
  pub answered : answer ≡ made resolution

-- ---- commands that run a script

-- what a script does against a crate text
abbrev pub text_plan : CrateTree → Script → Plan
text_plan krate script = runs (text_presets krate script) (text_meaning krate script)

-- what a script does against the register table of these rows
abbrev pub table_plan : List (Row Step Key) → Script → Plan
table_plan rows script = runs (table_presets (table_of rows) script) (table_run (table_of rows) script)

-- what is answered where a script has this fault, or none and this plan
abbrev pub unless_mistyped : Option LineFault → Plan → Answer
unless_mistyped (Some fault) plan = refused (no_script (mistyped fault))
unless_mistyped None plan = does plan

-- what running a script answers, by what that comes to, where it may call this and has this plan
unfoldable pub scripted : Surface → (Script → Plan) → ScriptReading → Answer
scripted surface plan (unread why) = refused (no_script why)
scripted surface plan (spelled script) = unless_mistyped (script_fault surface script) (plan script)

-- the answer that is made of what a script comes to
pub record AnswersScript (surface : Surface) (plan : Script → Plan) (script : List ℕ) (answer : Answer) : Type 0 where
  pub reading : ScriptReading
  pub comes : ScriptReadAs script reading
  pub answered : answer ≡ scripted surface plan reading

-- the answer to a script against what a crate text comes to
abbrev pub AnswersOnCrate : CrateReading → List ℕ → Answer → Type 0
AnswersOnCrate (untyped why) script answer = answer ≡ refused (no_crate_text why)
AnswersOnCrate (typed krate) script answer = AnswersScript (text_surface krate) (text_plan krate) script answer

-- the answer to a crate text and a script
pub record AnswersText (krate script : List ℕ) (answer : Answer) : Type 0 where
  pub reading : CrateReading
  pub comes : CrateReadAs krate reading
  pub answered : AnswersOnCrate reading script answer

-- the answer to a script against what a description comes to: its register table decides it, not a text
abbrev pub AnswersOnRows : Resolution → List ℕ → Answer → Type 0
AnswersOnRows (stopped why) script answer = answer ≡ refused (unresolved why)
AnswersOnRows (resolved rows) script answer = AnswersScript (table_surface rows) (table_plan rows) script answer

-- the answer to a description and a script
pub record AnswersRun (source : SourceBytes) (script : List ℕ) (answer : Answer) : Type 0 where
  pub resolution : Resolution
  pub comes : ComeTo source resolution
  pub answered : AnswersOnRows resolution script answer

-- ---- a sample

-- the description of a sample, which has no patch, and of which overlaps aren't asked
abbrev pub sample_bytes : ℕ → ℕ → SourceBytes
sample_bytes number count = record { svd = sample_text number count; patch = None; policy = Loose }

-- what a script does against a crate text of so many registers, summed up
abbrev pub text_sum : ℕ → CrateTree → Script → Plan
text_sum count krate script = sums count (text_presets krate script) (text_meaning krate script)

-- the same against the register table of these rows
abbrev pub table_sum : ℕ → List (Row Step Key) → Script → Plan
table_sum count rows script = sums count (table_presets (table_of rows) script) (table_run (table_of rows) script)

-- the answer to the sample's script against what its description comes to: the register table decides it
abbrev pub AnswersOnSample : ℕ → Resolution → Answer → Type 0
AnswersOnSample count (stopped why) answer = answer ≡ refused (unresolved why)
AnswersOnSample count (resolved rows) answer = AnswersScript (table_surface rows) (table_sum count rows) (sample_script count) answer

-- the answer to the sample of these numbers
pub record AnswersSample (number count : ℕ) (answer : Answer) : Type 0 where
  pub resolution : Resolution
  pub comes : ComeTo (sample_bytes number count) resolution
  pub answered : AnswersOnSample count resolution answer

-- ---- all commands

-- the same of the inputs of a command whose files are those of a description: a second one is its patch
abbrev pub DecidesSource : (Resolution → Answer) → Source → List (List ℕ) → Answer → Type 0
DecidesSource made source (svd ∷ []) answer = AnswersSource made (bytes_of source svd None) answer
DecidesSource made source (svd ∷ patch ∷ []) answer = AnswersSource made (bytes_of source svd (Some patch)) answer
DecidesSource made source _ answer = ⊥

-- the same of the inputs of a command whose files are a crate text and a script
abbrev pub DecidesText : List (List ℕ) → Answer → Type 0
DecidesText (krate ∷ script ∷ []) answer = AnswersText krate script answer
DecidesText _ answer = ⊥

-- the same of a description, its patch, and a script
abbrev pub DecidesRun : Source → List (List ℕ) → Answer → Type 0
DecidesRun source (svd ∷ script ∷ []) answer = AnswersRun (bytes_of source svd None) script answer
DecidesRun source (svd ∷ patch ∷ script ∷ []) answer = AnswersRun (bytes_of source svd (Some patch)) script answer
DecidesRun source _ answer = ⊥

-- the same of the numbers of a sample, which has no inputs
abbrev pub DecidesSample : Option (ℕ × ℕ) → List (List ℕ) → Answer → Type 0
DecidesSample (Some numbers) [] answer = AnswersSample numbers.0 numbers.1 answer
DecidesSample _ _ answer = ⊥

-- the answer to a command with these inputs
abbrev pub Decides : Command → List (List ℕ) → Answer → Type 0
Decides (Listing source) inputs answer = DecidesSource listed source inputs answer
Decides (Generating source) inputs answer = DecidesSource generated source inputs answer
Decides (Executing krate run) inputs answer = DecidesText inputs answer
Decides (Running source run) inputs answer = DecidesRun source inputs answer
Decides (Sampling number count) inputs answer = DecidesSample (numbers_given number count) inputs answer

-- the answer to a command by what reading its files came to
abbrev pub DecidesOn : Command → Gathering → Answer → Type 0
DecidesOn command (inputs_are inputs) answer = Decides command inputs answer
DecidesOn command (is_too_long file) answer = answer ≡ refused (file_too_long file.name file.limit)

-- the answer to a command where the files are told, or where they aren't, for some inputs within the limits
pub record AnswersCommand (command : Command) (told : Option FileMap) (answer : Answer) : Type 0 where
  pub gathering : Gathering
  pub gathered : Gathered told (files_of command) gathering
  pub decided : DecidesOn command gathering answer

-- the answer to a command for which a bus of this kind is missing, or none
abbrev pub AnswersWithout : Option BusKind → Command → Option FileMap → Answer → Type 0
AnswersWithout (Some kind) command told answer = answer ≡ refused (no_bus kind)
AnswersWithout None command told answer = AnswersCommand command told answer

-- the command has the numbers that it needs: `sample` has them where its words give them, and no other needs any
abbrev pub has_numbers : Command → Bool
has_numbers (Listing source) = true
has_numbers (Generating source) = true
has_numbers (Executing krate run) = true
has_numbers (Running source run) = true
has_numbers (Sampling number count) = is_some (numbers_given number count)

-- the answer to a command that has its numbers or hasn't, where buses of these kinds are lent
abbrev pub AnswersNumbered : Bool → Command → List BusKind → Option FileMap → Answer → Type 0
AnswersNumbered false command kinds told answer = answer ≡ refused bad_number
AnswersNumbered true command kinds told answer = AnswersWithout (missing_kind (bus_of command) kinds) command told answer

abbrev pub AnswersAsked : Option Command → List BusKind → Option FileMap → Answer → Type 0
AnswersAsked None kinds told answer = answer ≡ refused no_command
AnswersAsked (Some command) kinds told answer = AnswersNumbered (has_numbers command) command kinds told answer

-- the answer to these words where buses of these kinds are lent, and the files tell this of their content
abbrev pub IsAnswer : List (List ℕ) → List BusKind → Option FileMap → Answer → Type 0
IsAnswer words kinds told answer = AnswersAsked (command_of words) kinds told answer
