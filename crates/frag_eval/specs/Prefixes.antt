-- The accesses among events, how far events come with so many of them, and which accesses a script asks for (this project's own rule).
use Rattle.std.specs.Prelude.{ℕ, ◌≡◌, ◌<◌, zero, suc, List, [], ◌∷◌, map, length, flat_map, Option, Some, None, option_and_then, ⊤}
use Rattle.pac_bus.specs.declared.access.BusAccess.{BusAccess}
use Rattle.pac_bus.specs.Acts.{Act}
use Rattle.pac_bus.specs.Acts.Act.{does}
use Rattle.pac_bus.specs.Answers.{a_read, a_write}
use Rattle.frag_tree.specs.declared.event.Event.{Event}
use Rattle.frag_tree.specs.declared.event.Event.TheVariants as event
use Rattle.frag_tree.specs.declared.script.Script.{Script}
use Rattle.frag_tree.specs.declared.script.ScriptLine.{ScriptLine}
use Rattle.frag_tree.specs.declared.statement.Statement.{Statement}
use Rattle.frag_tree.specs.declared.statement.Statement.TheVariants as statement
use Rattle.frag_tree.specs.Trees.{CrateTree}
use Rattle.frag_sem.specs.CallPlaces.{RegisterAt, register_at}
use Rattle.frag_sem.specs.Presets.{called}
use Rattle.frag_sem.specs.TextMeaning.{text_meaning}
use Rattle.frag_eval.specs.declared.role.Role.{Role}
use Rattle.frag_eval.specs.declared.role.Role.TheVariants as role

-- the accesses among events
abbrev pub accesses_in : List Event → List BusAccess
accesses_in [] = []
accesses_in (event.Read address width value ∷ events) = a_read address width value ∷ accesses_in events
accesses_in (event.Write address width value ∷ events) = a_write address width value ∷ accesses_in events
accesses_in (event.Say said ∷ events) = accesses_in events

-- the values of the reads among events
abbrev pub reads_in : List Event → List ℕ
reads_in [] = []
reads_in (event.Read address width value ∷ events) = value ∷ reads_in events
reads_in (event.Write address width value ∷ events) = reads_in events
reads_in (event.Say said ∷ events) = reads_in events

-- the longest prefix with at most so many accesses: it includes what is said behind the last of them
unfoldable pub up_to : List Event → ℕ → List Event
up_to [] count = []
up_to (event.Read address width value ∷ events) zero = []
up_to (event.Read address width value ∷ events) (suc count) = event.Read address width value ∷ up_to events count
up_to (event.Write address width value ∷ events) zero = []
up_to (event.Write address width value ∷ events) (suc count) = event.Write address width value ∷ up_to events count
up_to (event.Say said ∷ events) count = event.Say said ∷ up_to events count

-- an access
abbrev pub IsAccess : Event → Type 0
IsAccess (event.Read address width value) = ⊤
IsAccess (event.Write address width value) = ⊤
IsAccess (event.Say said) = ⊥

-- what is said, and nothing else
abbrev pub AreSaid : List Event → Type 0
AreSaid [] = ⊤
AreSaid (event.Read address width value ∷ events) = ⊥
AreSaid (event.Write address width value ∷ events) = ⊥
AreSaid (event.Say said ∷ events) = AreSaid events

-- what events do on a bus
abbrev pub acts_of : List Event → List Act
acts_of events = map does (accesses_in events)

-- ---- what a script asks for

-- an access that a script asks for: what it is, and the line of its statement
pub record Due : Type 0 where
  pub role : Role
  pub line : ℕ

-- the accesses of a statement
abbrev pub roles_of : Statement → List Role
roles_of (statement.Let name place) = role.Read ∷ []
roles_of (statement.Write place chain) = role.Write ∷ []
roles_of (statement.WriteWithZero place chain) = role.Write ∷ []
roles_of (statement.Modify place names_reader chain) = role.ModifyRead ∷ role.ModifyWrite ∷ []
roles_of (statement.Reset place) = role.Write ∷ []
roles_of (statement.Say value) = []

abbrev pub line_dues : ScriptLine → List Due
line_dues line = map (λ role. record { role = role; line = line.line }) (roles_of line.statement)

-- those of what isn't there are none
abbrev pub dues_at : Option RegisterAt → List Due → List Due
dues_at None dues = []
dues_at (Some found) dues = dues

abbrev pub dues_of : CrateTree → ScriptLine → List Due
dues_of krate line = dues_at (option_and_then (register_at krate) (called line.statement)) (line_dues line)

-- the accesses of a script against a crate, in their order
unfoldable pub dues : CrateTree → Script → List Due
dues krate script = flat_map (dues_of krate) script.lines

-- ---- a run that is under way

-- Events are what a script has made against a crate with the answers that it got: the longest prefix of all its events with as many accesses, of which there are more.
pub record IsUnderWay (krate : CrateTree) (script : Script) (events : List Event) : Type 0 where
  pub prefix : events ≡ up_to (text_meaning krate script (reads_in events)) (length (accesses_in events))
  pub more : length (accesses_in events) < length (accesses_in (text_meaning krate script (reads_in events)))

-- events are all that a script makes against a crate with the answers that it got
abbrev pub IsAll : CrateTree → Script → List Event → Type 0
IsAll krate script events = events ≡ text_meaning krate script (reads_in events)
