-- What reading one file answers, and reading one after the other: the bytes, or a fault by its class.
use Rattle.std.specs.Prelude.{ℕ, ◌≡◌, ◌⊎◌, ◌≤◌, ◌<◌, List, Option, Some, IfSome, IsSomeAnd, Result, Ok, Err, length}
use Rattle.pac_io.specs.Asking.{and_asked}
use Rattle.pac_io.specs.Rose.{Rose}
use Rattle.pac_fault.specs.Classes.{Class, no_memory, bad_words, bad_read, bad_write, long_file, bad_input, class_of}
use Rattle.pac_fault.specs.declared.fault.PacFault.{PacFault}
use Rattle.pac_fault.specs.declared.fault.PacFault.TheVariants.{Memory, Limit}
use Rattle.pac_fault.specs.declared.fault.LimitFault.TheVariants.{FileTooLong}
use Rattle.pac_inputs.specs.Gathering.{inputs_are, is_too_long, Gathered}
use Rattle.pac_inputs.specs.Shelves.{Shelf, Asks, AsksSome, AsksUpTo}
use Rattle.pac_inputs.specs.declared.gathering.Wanted.{Wanted}

-- ---- one file

-- the file was read: its bytes, within the limit
pub record HasRead (file : Wanted) (bytes : List ℕ) (old new : Shelf) : Type 0 where
  pub same_files : new.files ≡ old.files
  pub asked : new.asked ≡ and_asked old.asked file.name
  pub count : new.faults ≡ old.faults
  pub within : length bytes ≤ file.limit
  pub stands : IfSome old.files (λ files. files file.name ≡ Some bytes)

-- memory was wanting to read the file
pub record LacksMemoryToRead (file : Wanted) (old new : Shelf) (fault : PacFault) : Type 0 where
  pub told_as : fault ≡ Memory
  pub same_files : new.files ≡ old.files
  pub asked : (new.asked ≡ old.asked) ⊎ (new.asked ≡ and_asked old.asked file.name)
  pub count : new.faults ≡ old.faults

-- reading the file failed
pub record HasFailed (file : Wanted) (name : List ℕ) (old new : Shelf) : Type 0 where
  pub named : file.name ≡ name
  pub same_files : new.files ≡ old.files
  pub asked : new.asked ≡ and_asked old.asked file.name
  pub rose : Rose old.faults new.faults

-- the file is longer than it may be
pub record IsTooLong (file long : Wanted) (old new : Shelf) (fault : PacFault) : Type 0 where
  pub told_as : fault ≡ Limit (FileTooLong long.name long.limit)
  pub same_file : file ≡ long
  pub same_files : new.files ≡ old.files
  pub asked : new.asked ≡ and_asked old.asked file.name
  pub count : new.faults ≡ old.faults
  pub beyond : IfSome old.files (λ files. IsSomeAnd (files file.name) (λ bytes. file.limit < length bytes))

abbrev pub ReadsNot : Class → Wanted → Shelf → Shelf → PacFault → Type 0
ReadsNot no_memory file old new fault = LacksMemoryToRead file old new fault
ReadsNot (bad_read name) file old new fault = HasFailed file name old new
ReadsNot (long_file name limit) file old new fault = IsTooLong file (record { name = name; limit = limit }) old new fault
ReadsNot _ file old new fault = ⊥

-- reading a file
abbrev pub Reads : Wanted → Shelf → Shelf → Result (List ℕ) PacFault → Type 0
Reads file old new (Ok bytes) = HasRead file bytes old new
Reads file old new (Err fault) = ReadsNot (class_of fault) file old new fault

-- ---- all files

-- all files were read
pub record GathersAll (wanted : List Wanted) (inputs : List (List ℕ)) (old new : Shelf) : Type 0 where
  pub asks : Asks old new wanted
  pub count : new.faults ≡ old.faults
  pub gathered : Gathered old.files wanted (inputs_are inputs)

-- memory was wanting to read them
pub record LacksMemoryToGather (wanted : List Wanted) (old new : Shelf) (fault : PacFault) : Type 0 where
  pub told_as : fault ≡ Memory
  pub asks : AsksSome wanted old new
  pub count : new.faults ≡ old.faults

-- one of them couldn't be read
pub record FailsToGather (wanted : List Wanted) (name : List ℕ) (old new : Shelf) : Type 0 where
  pub file : Wanted
  pub named : file.name ≡ name
  pub asks : AsksUpTo file wanted old new
  pub rose : Rose old.faults new.faults

-- one of them is longer than it may be
pub record MeetsLongFile (wanted : List Wanted) (file : Wanted) (old new : Shelf) (fault : PacFault) : Type 0 where
  pub told_as : fault ≡ Limit (FileTooLong file.name file.limit)
  pub asks : AsksUpTo file wanted old new
  pub count : new.faults ≡ old.faults
  pub gathered : Gathered old.files wanted (is_too_long file)

abbrev pub GathersNot : Class → List Wanted → Shelf → Shelf → PacFault → Type 0
GathersNot no_memory wanted old new fault = LacksMemoryToGather wanted old new fault
GathersNot (bad_read name) wanted old new fault = FailsToGather wanted name old new
GathersNot (long_file name limit) wanted old new fault = MeetsLongFile wanted (record { name = name; limit = limit }) old new fault
GathersNot _ wanted old new fault = ⊥

-- reading these files, one after the other
abbrev pub Gathers : List Wanted → Shelf → Shelf → Result (List (List ℕ)) PacFault → Type 0
Gathers wanted old new (Ok inputs) = GathersAll wanted inputs old new
Gathers wanted old new (Err fault) = GathersNot (class_of fault) wanted old new fault
