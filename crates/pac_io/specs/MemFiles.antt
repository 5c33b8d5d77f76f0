-- Files in memory: a map from names to bytes, the names asked for, and the calls that are to fail.
use Rattle.std.specs.Prelude.{ℕ, ◌≡◌, ◌≢◌, List, [], ◌∷◌, ◌++◌, Option, Some, None, Result, Ok, Err, ⊤, Bool, true, false, ◌||◌, is_none}
use Rattle.std.specs.Option.{option_map}
use Rattle.std.specs.BTreeMap.{get_by_text}
use Rattle.pac_io.specs.declared.mem_files.MemFiles.{MemFiles}
use Rattle.pac_io.specs.declared.fault.FilesFault.{FilesFault}
use Rattle.pac_io.specs.declared.fault.FilesFault.TheVariants.{Failed, TooLong, Memory}
use Rattle.pac_io.specs.Calls.{listed, next_number, fails_next, IsFresh, SameCalls}

-- the bytes that stand at a name
abbrev pub file_at : MemFiles → List ℕ → Option (List ℕ)
file_at held name = option_map (λ bytes. bytes.items) (get_by_text held.files name)

-- the names of the reads so far, in order
abbrev pub names_asked : MemFiles → List (List ℕ)
names_asked held = held.asked.items

-- The next read, of this name, has to fail: it is listed, or the name isn't in the map.
abbrev pub has_to_fail : MemFiles → List ℕ → Bool
has_to_fail held name = fails_next held.calls || is_none (file_at held name)

-- which faults agree with it that the read has to fail
abbrev pub FaultWhere : Bool → FilesFault → Type 0
FaultWhere fails Failed = fails ≡ true
FaultWhere fails (TooLong kept) = fails ≡ false
FaultWhere fails Memory = ⊤

-- `Failed` comes exactly where the read has to fail, but for want of memory.
abbrev pub FailsWhere : {T : Type 0} → Bool → Result T FilesFault → Type 0
FailsWhere fails (Ok value) = fails ≡ false
FailsWhere fails (Err fault) = FaultWhere fails fault

-- a map without entries, no name asked, and no call made or listed
pub record HoldsNothing (held : MemFiles) : Type 0 where
  pub no_file : (name : List ℕ) → file_at held name ≡ None
  pub none_asked : names_asked held ≡ []
  pub fresh : IsFresh held.calls

-- all stays as it was
pub record SameFiles (old new : MemFiles) : Type 0 where
  pub same_files : (name : List ℕ) → file_at new name ≡ file_at old name
  pub same_asked : names_asked new ≡ names_asked old
  pub same_calls : SameCalls old.calls new.calls

-- the one entry of this name has these bytes, and nothing else changes
pub record SetsFile (old new : MemFiles) (name bytes : List ℕ) : Type 0 where
  pub set : file_at new name ≡ Some bytes
  pub others : (other : List ℕ) → other ≢ name → file_at new other ≡ file_at old other
  pub same_asked : names_asked new ≡ names_asked old
  pub same_calls : SameCalls old.calls new.calls

-- one more call is listed to fail, and nothing else changes
pub record ListsCall (old new : MemFiles) (call : ℕ) : Type 0 where
  pub one_more : listed new.calls ≡ listed old.calls ++ call ∷ []
  pub same_made : new.calls.made ≡ old.calls.made
  pub same_faults : new.calls.faults ≡ old.calls.faults
  pub same_files : (name : List ℕ) → file_at new name ≡ file_at old name
  pub same_asked : names_asked new ≡ names_asked old

-- a read counts as one call, whatever it answers, and changes neither the files nor the list of calls
pub record CountsCall (old new : MemFiles) : Type 0 where
  pub one_more : new.calls.made ≡ next_number old.calls.made
  pub same_listed : listed new.calls ≡ listed old.calls
  pub same_files : (name : List ℕ) → file_at new name ≡ file_at old name
