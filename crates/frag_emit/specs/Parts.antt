-- A crate text that is printed in parts, and what the printing of one answers (this project's own).
use Rattle.std.specs.Prelude.{ℕ, ◌≡◌, ◌+◌, ◌<◌, ◌^◌, Bool, true, false, List, [], ◌∷◌, map, Option, Some, None, Result, Ok, Err, unwrap_or, ⊤}
use Rattle.std.specs.Io.KnownBytes.{Appends}
use Rattle.std.specs.List.{list_all, slice_get}
use Rattle.frag_tree.specs.Crates.{parts_of}
use Rattle.frag_tree.specs.Trees.{CrateTree}
use Rattle.frag_tree.specs.Validity.{valid_block, valid_slot}
use Rattle.pac_io.specs.Writing.{AppendsPrefix}
use Rattle.pac_io.specs.declared.fault.SinkFault.{SinkFault}

-- the part of this number: 0 is the head, and then come the modules at the top
unfoldable pub part_at : CrateTree → ℕ → Option (List ℕ)
part_at krate number = slice_get (parts_of krate) number

-- of each part, whether its names and numbers have the forms that a crate text asks for
abbrev pub part_forms : CrateTree → List Bool
part_forms krate = list_all valid_slot krate.slots ∷ map (valid_block krate.version) krate.blocks

-- the part of this number was appended, and its names and numbers have their forms
pub record AppendsPart (krate : CrateTree) (number : ℕ) (old now : Option (List ℕ)) : Type 0 where
  pub bytes : List ℕ
  pub is : part_at krate number ≡ Some bytes
  pub valid : slice_get (part_forms krate) number ≡ Some true
  pub appended : Appends old now bytes

-- There is this part and it was appended; or there is none, and nothing was; or a fault kept a rest of it back.
abbrev pub PrintsPart : Result Bool SinkFault → CrateTree → ℕ → Option (List ℕ) → Option (List ℕ) → Type 0
PrintsPart (Ok true) krate number old now = AppendsPart krate number old now
PrintsPart (Ok false) krate number old now = (part_at krate number ≡ None) × (now ≡ old)
PrintsPart (Err fault) krate number old now = AppendsPrefix old now (unwrap_or (part_at krate number) [])

-- how many parts are done, before and now
abbrev pub Counts : Result Bool SinkFault → ℕ → ℕ → Type 0
Counts (Ok true) done more = more ≡ done + 1
Counts (Ok false) done more = more ≡ done
Counts (Err fault) done more = more ≡ done

-- the part behind those that are done was printed, and is counted
pub record PrintsNext (answer : Result Bool SinkFault) (krate : CrateTree) (done more : ℕ) (old now : Option (List ℕ)) : Type 0 where
  pub part : PrintsPart answer krate done old now
  pub count : Counts answer done more

-- no part has a number that can't be raised
abbrev pub IsFar : Result Bool SinkFault → ℕ → Type 0
IsFar (Ok true) number = number + 1 < 2 ^ 64
IsFar (Ok false) number = ⊤
IsFar (Err fault) number = ⊤
