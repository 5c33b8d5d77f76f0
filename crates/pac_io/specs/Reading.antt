-- What a read of a file answers, case by case.
use Rattle.std.specs.Prelude.{ℕ, ◌≡◌, ◌≤◌, ◌<◌, List, length, Option, Some, IfSome, IsSomeAnd, Result, Ok, Err, ⊤}
use Rattle.pac_io.specs.declared.fault.FilesFault.{FilesFault}
use Rattle.pac_io.specs.declared.fault.FilesFault.TheVariants.{Failed, TooLong, Memory}
use Rattle.pac_io.specs.Rose.{Rose}

-- Ok gave the bytes of the file, which are at most `limit` long. Where the files are told, these are the bytes that stand at the name. This project's own rule.
pub record GivesFile (told : Option (List ℕ → Option (List ℕ))) (name : List ℕ) (limit : ℕ) (bytes : List ℕ) : Type 0 where
  pub within : length bytes ≤ limit
  pub same : IfSome told (λ files. files name ≡ Some bytes)

-- The file has more bytes than the limit, and the answer keeps that limit. Where the files are told, more than `limit` bytes stand at the name. This project's own rule.
pub record PassesLimit (told : Option (List ℕ → Option (List ℕ))) (name : List ℕ) (limit kept : ℕ) : Type 0 where
  pub kept_limit : kept ≡ limit
  pub longer : IfSome told (λ files. IsSomeAnd (files name) (λ bytes. limit < length bytes))

-- what a fault says of the file
abbrev pub RefusedBy : Option (List ℕ → Option (List ℕ)) → List ℕ → ℕ → FilesFault → Type 0
RefusedBy told name limit Failed = ⊤
RefusedBy told name limit (TooLong kept) = PassesLimit told name limit kept
RefusedBy told name limit Memory = ⊤

-- What a read says of the file: Ok gives its bytes, and `TooLong` comes exactly above the limit.
abbrev pub ReadsFile : Option (List ℕ → Option (List ℕ)) → List ℕ → ℕ → Result (List ℕ) FilesFault → Type 0
ReadsFile told name limit (Ok bytes) = GivesFile told name limit bytes
ReadsFile told name limit (Err fault) = RefusedBy told name limit fault

-- what a fault says of the count of faults, before and now
abbrev pub FaultCause : FilesFault → ℕ → ℕ → Type 0
FaultCause Failed before now = Rose before now
FaultCause (TooLong kept) before now = now ≡ before
FaultCause Memory before now = now ≡ before

-- `Failed` comes only where the count of faults rose, and each other answer leaves the count as it was.
abbrev pub FilesCause : {T : Type 0} → Result T FilesFault → ℕ → ℕ → Type 0
FilesCause (Ok value) before now = now ≡ before
FilesCause (Err fault) before now = FaultCause fault before now
