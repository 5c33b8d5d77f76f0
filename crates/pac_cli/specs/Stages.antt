-- What each stage of a command answers: its value, or a fault by its class. No stage speaks of one command alone.
use Rattle.std.specs.Prelude.{ℕ, ◌≡◌, ◌⊎◌, Bool, true, false, List, [], ◌∷◌, ◌++◌, length, map, Option, Some, None, Result, Ok, Err}
use Rattle.std.specs.Io.KnownBytes.{Appends}
use Rattle.frag_eval.specs.Prefixes.{IsAccess, acts_of, reads_in}
use Rattle.frag_eval.specs.Preparing.{set_by_all}
use Rattle.frag_eval.specs.Runs.{Broke}
use Rattle.frag_sem.specs.Presets.{Preset}
use Rattle.frag_sem.specs.ScriptTyping.{LineFault, script_fault}
use Rattle.frag_sem.specs.Surfaces.{Surface}
use Rattle.frag_tree.specs.Trees.{crate_tree}
use Rattle.frag_tree.specs.declared.event.Event.{Event}
use Rattle.frag_tree.specs.declared.krate.Crate.{Crate}
use Rattle.frag_tree.specs.declared.script.Script.{Script}
use Rattle.pac_bus.specs.Acts.{Act}
use Rattle.pac_bus.specs.Telling.{BusTold, Did}
use Rattle.pac_io.specs.Rose.{Rose}
use Rattle.pac_io.specs.Writing.{AppendsPrefix}
use Rattle.svd_model.specs.Keys.{Key}
use Rattle.svd_model.specs.Steps.{Step}
use Rattle.svd_rows.specs.Rows.{Row}
use Rattle.pac_words.specs.Commands.{command_of}
use Rattle.pac_words.specs.declared.command.BusKind.{BusKind}
use Rattle.pac_words.specs.declared.command.Command.{Command}
use Rattle.pac_fault.specs.Classes.{Class, no_memory, bad_words, bad_write, bad_bus, bad_input, class_of}
use Rattle.pac_fault.specs.declared.fault.PacFault.{PacFault}
use Rattle.pac_fault.specs.declared.fault.PacFault.TheVariants.{Memory, Words, Block, Command as BadCommand}
use Rattle.pac_fault.specs.declared.fault.WordsFault.TheVariants.{BadNumber, Clap, NoBus}
use Rattle.pac_cli.specs.Answers.{Cause, Plan, Answer, refused, does}
use Rattle.pac_cli.specs.Resolving.{Unresolved, Resolution, stopped, resolved, SourceBytes, ComeTo, IsPatch, by_patching}
use Rattle.patch_model.specs.Acts.{order_of}
use Rattle.patch_model.specs.Readings.{Reading as PatchReading, no_block, no_commands, commanded, IsReadAs}
use Rattle.patch_model.specs.declared.act.Command.{Command as PatchCommand}
use Rattle.pac_cli.specs.Scripts.{Untyped, untyped, typed, CrateReadAs, Unscripted, unread, mistyped, spelled, ScriptReadAs}
use Rattle.pac_cli.specs.Showing.{Shows, ShowsUnresolved, ShowsUnscripted, ShowsUntyped}
use Rattle.pac_cli.specs.Worlds.{Desk, DoesNothing}

-- ---- the words

abbrev pub AsksNot : Class → List (List ℕ) → PacFault → Type 0
AsksNot no_memory words fault = fault ≡ Memory
AsksNot bad_words words fault = (command_of words ≡ None) × (fault ≡ Words Clap)
AsksNot _ words fault = ⊥

-- the command that the words ask for
abbrev pub AsksFor : List (List ℕ) → Result Command PacFault → Type 0
AsksFor words (Ok command) = command_of words ≡ Some command
AsksFor words (Err fault) = AsksNot (class_of fault) words fault

-- the command has its numbers, or this fault says that it hasn't
abbrev pub Numbers : {T : Type 0} → Bool → Result T PacFault → Type 0
Numbers has (Ok value) = has ≡ true
Numbers has (Err fault) = (has ≡ false) × (fault ≡ Words BadNumber)

-- ---- a description

abbrev pub ResolvesNot : Class → SourceBytes → PacFault → Type 0
ResolvesNot no_memory source fault = fault ≡ Memory
ResolvesNot bad_input source fault = (why : Unresolved) × ComeTo source (stopped why) × ShowsUnresolved why fault
ResolvesNot _ source fault = ⊥

-- the rows to which the files of a description come, or why they come to none
abbrev pub Resolves : SourceBytes → Result (List (Row Step Key)) PacFault → Type 0
Resolves source (Ok rows) = ComeTo source (resolved rows)
Resolves source (Err fault) = ResolvesNot (class_of fault) source fault

-- ---- a patch

-- the fault tells why the bytes of a patch come to no commands
abbrev pub TellsUncommanded : PatchReading → PacFault → Type 0
TellsUncommanded (no_block found) fault = fault ≡ Block found
TellsUncommanded (no_commands found) fault = fault ≡ BadCommand found
TellsUncommanded (commanded orders) fault = ⊥

abbrev pub ReadsNot : Class → List ℕ → PacFault → Type 0
ReadsNot no_memory bytes fault = fault ≡ Memory
ReadsNot bad_input bytes fault = (reading : PatchReading) × IsReadAs bytes reading × TellsUncommanded reading fault
ReadsNot _ bytes fault = ⊥

-- the commands to which the bytes of a patch come, or why they come to none
abbrev pub ReadsPatch : List ℕ → Result (List PatchCommand) PacFault → Type 0
ReadsPatch bytes (Ok commands) = IsReadAs bytes (commanded (map order_of commands))
ReadsPatch bytes (Err fault) = ReadsNot (class_of fault) bytes fault

-- a patch, where there is one, makes of these rows what it comes to
pub record PatchComesTo (all : List (Row Step Key)) (bytes : Option (List ℕ)) (resolution : Resolution) : Type 0 where
  pub reading : Option PatchReading
  pub spelled : IsPatch bytes reading
  pub comes : by_patching reading all ≡ resolution

abbrev pub PatchesNot : Class → List (Row Step Key) → Option (List ℕ) → PacFault → Type 0
PatchesNot no_memory all bytes fault = fault ≡ Memory
PatchesNot bad_input all bytes fault = (why : Unresolved) × PatchComesTo all bytes (stopped why) × ShowsUnresolved why fault
PatchesNot _ all bytes fault = ⊥

-- the rows that a patch leaves of these, or why it leaves none
abbrev pub Patches : List (Row Step Key) → Option (List ℕ) → Result (List (Row Step Key)) PacFault → Type 0
Patches all bytes (Ok rows) = PatchComesTo all bytes (resolved rows)
Patches all bytes (Err fault) = PatchesNot (class_of fault) all bytes fault

-- ---- the bus

-- the bus that the command wants is lent, or this fault says that it isn't
abbrev pub Lends : {T : Type 0} → Option BusKind → Result T PacFault → Type 0
Lends missing (Ok value) = missing ≡ None
Lends missing (Err fault) = (kind : BusKind) × (missing ≡ Some kind) × (fault ≡ Words (NoBus kind))

-- ---- crate texts and scripts

abbrev pub TypesNot : Class → List ℕ → PacFault → Type 0
TypesNot no_memory bytes fault = fault ≡ Memory
TypesNot bad_input bytes fault = (why : Untyped) × CrateReadAs bytes (untyped why) × ShowsUntyped why fault
TypesNot _ bytes fault = ⊥

-- the crate to which a crate text comes, or why it comes to none that fits
abbrev pub Types : List ℕ → Result Crate PacFault → Type 0
Types bytes (Ok krate) = CrateReadAs bytes (typed (crate_tree krate))
Types bytes (Err fault) = TypesNot (class_of fault) bytes fault

-- the script to which its text comes, where it fits the surface
pub record IsScriptFor (surface : Surface) (bytes : List ℕ) (script : Script) : Type 0 where
  pub comes : ScriptReadAs bytes (spelled script)
  pub fits : script_fault surface script ≡ None

-- the script to which its text comes doesn't fit the surface
pub record Mistypes (surface : Surface) (bytes : List ℕ) (fault : LineFault) : Type 0 where
  pub script : Script
  pub comes : ScriptReadAs bytes (spelled script)
  pub found : script_fault surface script ≡ Some fault

-- why the script isn't run: its text comes to none, or to one that doesn't fit
abbrev pub IsUnfit : Surface → List ℕ → Unscripted → Type 0
IsUnfit surface bytes (mistyped fault) = Mistypes surface bytes fault
IsUnfit surface bytes why = ScriptReadAs bytes (unread why)

abbrev pub ScriptsNot : Class → Surface → List ℕ → PacFault → Type 0
ScriptsNot no_memory surface bytes fault = fault ≡ Memory
ScriptsNot bad_input surface bytes fault = (why : Unscripted) × IsUnfit surface bytes why × ShowsUnscripted why fault
ScriptsNot _ surface bytes fault = ⊥

abbrev pub ScriptsFor : Surface → List ℕ → Result Script PacFault → Type 0
ScriptsFor surface bytes (Ok script) = IsScriptFor surface bytes script
ScriptsFor surface bytes (Err fault) = ScriptsNot (class_of fault) surface bytes fault

-- ---- what is done

-- the bus did exactly these acts; where there is none, there were none
abbrev pub DidOn : Option BusTold → Option BusTold → List Act → Type 0
DidOn None None acts = acts ≡ []
DidOn (Some was) (Some now) acts = Did was now acts
DidOn _ _ acts = ⊥

-- the bus did exactly these acts, and then it failed
abbrev pub BrokeOn : Option BusTold → Option BusTold → List Act → Type 0
BrokeOn (Some was) (Some now) acts = Broke was now acts
BrokeOn _ _ acts = ⊥

-- what a plan does on a bus where it makes these events: its presets, and then the accesses among the events
abbrev pub acts_in : Plan → List Event → List Act
acts_in plan events = set_by_all plan.presets ++ acts_of events

-- all events of the plan were made, for the answers that the bus gave, and on the bus exactly what they do
pub record MakesAll (plan : Plan) (events : List Event) (old new : Option BusTold) : Type 0 where
  pub whole : events ≡ plan.events (reads_in events)
  pub acted : DidOn old new (acts_in plan events)

-- the bus failed at the access that comes behind these events
pub record MakesFirst (plan : Plan) (events : List Event) (old new : Option BusTold) : Type 0 where
  pub next : Event
  pub later : List Event
  pub first : plan.events (reads_in events) ≡ events ++ next ∷ later
  pub is_access : IsAccess next
  pub broke : BrokeOn old new (acts_in plan events)

-- nothing was run: of the presets the first were made, or none, or all
pub record MakesNone (plan : Plan) (events : List Event) (old new : Option BusTold) : Type 0 where
  pub none : events ≡ []
  pub made : List Preset
  pub later : List Preset
  pub first : plan.presets ≡ made ++ later
  pub acted : DidOn old new (set_by_all made)

-- events were made so, and a first part of their text was written
pub record HasWrittenPart (Makes : Plan → List Event → Option BusTold → Option BusTold → Type 0) (decides : Answer → Type 0) (old new : Desk) : Type 0 where
  pub plan : Plan
  pub decided : decides (does plan)
  pub events : List Event
  pub makes : Makes plan events old.bus new.bus
  pub part : AppendsPrefix old.paper.written new.paper.written (plan.text events)

-- a run came to its end, or the bus failed
abbrev pub MakesSome : Plan → List Event → Option BusTold → Option BusTold → Type 0
MakesSome plan events old new = MakesAll plan events old new ⊎ MakesFirst plan events old new

-- or nothing was run
abbrev pub MakesAny : Plan → List Event → Option BusTold → Option BusTold → Type 0
MakesAny plan events old new = MakesNone plan events old new ⊎ MakesSome plan events old new

-- all events were made, and their whole text was written
pub record HasDone (decides : Answer → Type 0) (old new : Desk) : Type 0 where
  pub count : new.paper.faults ≡ old.paper.faults
  pub plan : Plan
  pub decided : decides (does plan)
  pub events : List Event
  pub makes : MakesAll plan events old.bus new.bus
  pub whole : Appends old.paper.written new.paper.written (plan.text events)

-- memory was wanting: before anything was done, or in the middle
pub record LacksMemoryToDo (decides : Answer → Type 0) (old new : Desk) (fault : PacFault) : Type 0 where
  pub told_as : fault ≡ Memory
  pub count : new.paper.faults ≡ old.paper.faults
  pub output : DoesNothing old new ⊎ HasWrittenPart MakesAny decides old new

-- writing failed behind a first part of the text
pub record HasBrokenOff (decides : Answer → Type 0) (old new : Desk) : Type 0 where
  pub rose : Rose old.paper.faults new.paper.faults
  pub output : HasWrittenPart MakesSome decides old new

-- the bus failed behind so many events, and what is left of them then was written
pub record BusBrokeOff (decides : Answer → Type 0) (done : ℕ) (old new : Desk) : Type 0 where
  pub count : new.paper.faults ≡ old.paper.faults
  pub plan : Plan
  pub decided : decides (does plan)
  pub events : List Event
  pub makes : MakesFirst plan events old.bus new.bus
  pub counted : done ≡ length events
  pub whole : Appends old.paper.written new.paper.written (plan.left events)

-- the inputs are refused, for a cause that the fault shows
pub record IsRefused (decides : Answer → Type 0) (old new : Desk) (fault : PacFault) : Type 0 where
  pub nothing : DoesNothing old new
  pub cause : Cause
  pub decided : decides (refused cause)
  pub shown : Shows cause fault

abbrev pub DoesNot : Class → (Answer → Type 0) → Desk → Desk → PacFault → Type 0
DoesNot no_memory decides old new fault = LacksMemoryToDo decides old new fault
DoesNot bad_write decides old new fault = HasBrokenOff decides old new
DoesNot (bad_bus done) decides old new fault = BusBrokeOff decides done old new
DoesNot bad_input decides old new fault = IsRefused decides old new fault
DoesNot _ decides old new fault = ⊥

-- doing what the inputs decide
abbrev pub Does : {T : Type 0} → (Answer → Type 0) → Desk → Desk → Result T PacFault → Type 0
Does decides old new (Ok value) = HasDone decides old new
Does decides old new (Err fault) = DoesNot (class_of fault) decides old new fault
