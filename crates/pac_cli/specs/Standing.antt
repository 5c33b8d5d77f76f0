-- What stands after the top call, by the class of its fault. This project's own rule: each status has its cause in the words, in the
-- buses that are lent, in the inputs that the reads gave, or in a count of faults that rose in this call.
use Rattle.std.specs.Prelude.{ℕ, ◌≡◌, ◌⊎◌, List, [], Option, Some, None, IfSome}
use Rattle.pac_bus.specs.Telling.{BusTold}
use Rattle.pac_io.specs.Rose.{Rose}
use Rattle.pac_words.specs.Commands.{command_of}
use Rattle.pac_fault.specs.Classes.{Class, no_memory, bad_words, bad_read, bad_write, bad_bus, long_file, bad_input, class_of}
use Rattle.pac_fault.specs.declared.fault.PacFault.{PacFault}
use Rattle.pac_fault.specs.declared.fault.PacFault.TheVariants.{Memory}
use Rattle.pac_cli.specs.Answers.{Answer, Cause, refused, does, IsAnswer}
use Rattle.pac_cli.specs.Buses.{kinds_of}
use Rattle.pac_inputs.specs.Shelves.{Asks, AsksSome, AsksUpTo}
use Rattle.pac_inputs.specs.declared.gathering.Wanted.{Wanted}
use Rattle.pac_cli.specs.Inputs.{wanted_by}
use Rattle.pac_cli.specs.Showing.{IsShown}
use Rattle.pac_cli.specs.Stages.{BusBrokeOff, HasBrokenOff, HasDone, IsRefused, LacksMemoryToDo}
use Rattle.pac_cli.specs.Worlds.{DoesNothing, World, desk_of}

-- the files of the command that the words ask for
abbrev pub wanted : List (List ℕ) → List Wanted
wanted words = wanted_by (command_of words)

-- the answer to the words, with these buses and files
abbrev pub Answered : List (List ℕ) → World → Answer → Type 0
Answered words now answer = IsAnswer words (kinds_of now.slots) now.shelf.files answer

-- all files were read
pub record ReadsAll (words : List (List ℕ)) (old new : World) : Type 0 where
  pub asks : Asks old.shelf new.shelf (wanted words)
  pub reads : new.shelf.faults ≡ old.shelf.faults

-- status 0: all files were read, all events were made, the whole output was written, and nothing failed
pub record Finishes (words : List (List ℕ)) (old new : World) : Type 0 where
  pub read : ReadsAll words old new
  pub done : HasDone (Answered words old) (desk_of words old) (desk_of words new)

-- Want of memory: first files of the command were asked for, nothing was done or what the answer does in part, and no count of faults
-- of files or output rose.
pub record RunsOutOfMemory (words : List (List ℕ)) (old new : World) (fault : PacFault) : Type 0 where
  pub asks : AsksSome (wanted words) old.shelf new.shelf
  pub reads : new.shelf.faults ≡ old.shelf.faults
  pub lacks : LacksMemoryToDo (Answered words old) (desk_of words old) (desk_of words new) fault

-- a read failed: that of the file asked for last, one of the command's, and the count of faults of the files rose
pub record FailsToRead (words : List (List ℕ)) (old new : World) (name : List ℕ) : Type 0 where
  pub file : Wanted
  pub named : file.name ≡ name
  pub asks : AsksUpTo file (wanted words) old.shelf new.shelf
  pub rose : Rose old.shelf.faults new.shelf.faults
  pub nothing : DoesNothing (desk_of words old) (desk_of words new)

-- it is refused: the answer is a refusal whose cause this fault shows, and nothing was done
pub record Refuses (words : List (List ℕ)) (old new : World) (fault : PacFault) : Type 0 where
  pub reads : new.shelf.faults ≡ old.shelf.faults
  pub refusal : IsRefused (Answered words old) (desk_of words old) (desk_of words new) fault

-- what stands after a fault of this class: no file was asked for where the words are refused, those up to the one that is too
-- long, and all where the inputs are refused, a write failed, or the bus
abbrev pub StandsIn : Class → List (List ℕ) → World → World → PacFault → Type 0
StandsIn no_memory words old new fault = RunsOutOfMemory words old new fault
StandsIn bad_words words old new fault = Asks old.shelf new.shelf [] × Refuses words old new fault
StandsIn (bad_read name) words old new fault = FailsToRead words old new name
StandsIn bad_write words old new fault = ReadsAll words old new × HasBrokenOff (Answered words old) (desk_of words old) (desk_of words new)
StandsIn (bad_bus done) words old new fault = ReadsAll words old new × BusBrokeOff (Answered words old) done (desk_of words old) (desk_of words new)
StandsIn (long_file name limit) words old new fault = AsksUpTo (record { name = name; limit = limit }) (wanted words) old.shelf new.shelf × Refuses words old new fault
StandsIn bad_input words old new fault = Asks old.shelf new.shelf (wanted words) × Refuses words old new fault

-- what stands after the call
abbrev pub Stands : List (List ℕ) → World → World → Option PacFault → Type 0
Stands words old new None = Finishes words old new
Stands words old new (Some fault) = StandsIn (class_of fault) words old new fault

-- the answer itself came, or want of memory did
abbrev pub Comes : Answer → Option PacFault → Type 0
Comes (refused cause) found = IsShown cause found ⊎ (found ≡ Some Memory)
Comes (does plan) found = (found ≡ None) ⊎ (found ≡ Some Memory)

-- the count of faults of a bus rose
abbrev pub RoseOn : Option BusTold → Option BusTold → Type 0
RoseOn (Some was) (Some now) = Rose was.faults now.faults
RoseOn _ _ = ⊥

-- no count of faults rose
pub record IsSpared (words : List (List ℕ)) (old new : World) : Type 0 where
  pub reads : Rose old.shelf.faults new.shelf.faults → ⊥
  pub writes : Rose old.paper.faults new.paper.faults → ⊥
  pub bus : RoseOn (desk_of words old).bus (desk_of words new).bus → ⊥

-- Where no count of faults rose, the one answer to the words, the lent buses and the told files comes, or want of memory; and where
-- they are refused in no way, the whole output was written, or memory was wanting.
pub record IsComplete (words : List (List ℕ)) (old new : World) (found : Option PacFault) : Type 0 where
  pub decided : IfSome old.shelf.files (λ files. (answer : Answer) → IsAnswer words (kinds_of old.slots) (Some files) answer → IsSpared words old new → Comes answer found)
  pub accepted : IfSome old.shelf.files (λ files. ((cause : Cause) → IsAnswer words (kinds_of old.slots) (Some files) (refused cause) → ⊥) → IsSpared words old new → (found ≡ None) ⊎ (found ≡ Some Memory))
