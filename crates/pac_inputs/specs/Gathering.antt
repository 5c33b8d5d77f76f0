-- The files that a command reads, in order and each with its limit, and what they are to it. This project's own rule.
use Rattle.std.specs.Prelude.{ℕ, ◌≡◌, ◌≤◌, List, [], ◌∷◌, length, nat_le, Option, Some, None, IfSome, option_map, if◌then◌else◌}
use Rattle.pac_inputs.specs.declared.gathering.Wanted.{Wanted}

-- what stands at each name
abbrev pub FileMap : Type 0
FileMap = List ℕ → Option (List ℕ)

-- all inputs in order, or the first file that is longer than it may be
pub data Gathering : Type 0 where
  inputs_are : List (List ℕ) → Gathering
  is_too_long : Wanted → Gathering

-- this input, and the others behind it
abbrev pub and_then : List ℕ → Gathering → Gathering
and_then bytes (inputs_are inputs) = inputs_are (bytes ∷ inputs)
and_then bytes (is_too_long file) = is_too_long file

-- A file that isn't there decides nothing: reading it fails, and that is the outside's answer.
abbrev pub by_file : Wanted → Option (List ℕ) → Option Gathering → Option Gathering
by_file file None others = None
by_file file (Some bytes) others = if nat_le (length bytes) file.limit then option_map (and_then bytes) others else Some (is_too_long file)

-- what these files are where all files are told
abbrev pub gathered_from : FileMap → List Wanted → Option Gathering
gathered_from files [] = Some (inputs_are [])
gathered_from files (file ∷ others) = by_file file (files file.name) (gathered_from files others)

-- each input is within the limit of its file
abbrev pub FitLimits : List Wanted → List (List ℕ) → Type 0
FitLimits [] [] = Unit {0}
FitLimits (file ∷ files) (bytes ∷ inputs) = (length bytes ≤ file.limit) × FitLimits files inputs
FitLimits _ _ = ⊥

-- What reading these files comes to. Where no files are told, some inputs within the limits.
abbrev pub Gathered : Option FileMap → List Wanted → Gathering → Type 0
Gathered told wanted (inputs_are inputs) = FitLimits wanted inputs × IfSome told (λ files. gathered_from files wanted ≡ Some (inputs_are inputs))
Gathered told wanted (is_too_long file) = IfSome told (λ files. gathered_from files wanted ≡ Some (is_too_long file))
