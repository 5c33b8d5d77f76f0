-- What the calls of a run do, case by case (this project's own rule).
use Rattle.std.specs.Prelude.{ℕ, ◌≡◌, ◌≤◌, List, [], ◌∷◌, ◌++◌, length}
use Rattle.pac_bus.specs.Acts.{Act}
use Rattle.pac_bus.specs.Answers.{Failed}
use Rattle.pac_bus.specs.Telling.{BusTold, Did}
use Rattle.frag_tree.specs.declared.event.Event.{Event}
use Rattle.frag_tree.specs.declared.script.Script.{Script}
use Rattle.frag_tree.specs.declared.krate.Crate.{Crate}
use Rattle.frag_tree.specs.Trees.{crate_tree}
use Rattle.frag_sem.specs.TextMeaning.{text_meaning}
use Rattle.frag_eval.specs.Prefixes.{AreSaid, IsAccess, IsAll, IsUnderWay, accesses_in, acts_of, reads_in}

-- a script that is ready to run against a crate
pub record Readied : Type 0 where
  pub krate : Crate
  pub script : Script

-- a run of a script against a crate, with the events that it made
pub record UnderWay : Type 0 where
  pub krate : Crate
  pub script : Script
  pub events : List Event

-- how far a run has come: more accesses are to come, or these are all events
pub data StageSeen : Type 0 where
  under_way : UnderWay → StageSeen
  done : List Event → StageSeen

-- there is room for each access that the script may make against the crate
abbrev pub HasSpare : BusTold → Readied → Type 0
HasSpare told ready = (answers : List ℕ) → length (accesses_in (text_meaning (crate_tree ready.krate) ready.script answers)) ≤ told.spare

-- ---- begin, step

-- a run that comes to these events: more accesses are to come, or these are all
abbrev pub StageIs : StageSeen → Crate → Script → List Event → Type 0
StageIs (under_way running) krate script events = (running ≡ record { krate = krate; script = script; events = events }) × IsUnderWay (crate_tree krate) script events
StageIs (done made) krate script events = (made ≡ events) × IsAll (crate_tree krate) script events

-- before any access something may be said
pub record Begins (ready : Readied) (stage : StageSeen) : Type 0 where
  pub said : List Event
  pub are_said : AreSaid said
  pub stage_is : StageIs stage ready.krate ready.script said

-- one access was made, and what is said behind it was said
pub record IsStepped (old now : BusTold) (running : UnderWay) (stage : StageSeen) : Type 0 where
  pub access : Event
  pub said : List Event
  pub is_access : IsAccess access
  pub are_said : AreSaid said
  pub acted : Did old now (acts_of (access ∷ []))
  pub stage_is : StageIs stage running.krate running.script (running.events ++ access ∷ said)

-- the bus failed, and the run is as it was
pub record IsHeld (old now : BusTold) (running back : UnderWay) : Type 0 where
  pub same : back ≡ running
  pub failed : Failed old now

-- ---- run

-- all events were made, and their accesses alone
pub record Ran (old now : BusTold) (krate : Crate) (script : Script) (events : List Event) : Type 0 where
  pub acted : Did old now (acts_of events)
  pub all : IsAll (crate_tree krate) script events

-- exactly these acts were done, and then the bus failed
pub record Broke (old now : BusTold) (acts : List Act) : Type 0 where
  pub between : BusTold
  pub acted : Did old between acts
  pub failed : Failed between now

-- the bus failed at the access that comes behind these events
pub record Stopped (old now : BusTold) (krate : Crate) (script : Script) (count : ℕ) (events : List Event) : Type 0 where
  pub count_is : count ≡ length events
  pub next : Event
  pub later : List Event
  pub first : text_meaning (crate_tree krate) script (reads_in events) ≡ events ++ next ∷ later
  pub is_access : IsAccess next
  pub broke : Broke old now (acts_of events)
