-- What tells of the outside at one moment, part by part: the files (`Shelf`), an output, and the lent buses (`Slot`).
use Rattle.std.specs.Prelude.{ℕ, ◌≡◌, List, Option, None}
use Rattle.pac_bus.specs.Telling.{BusTold}
use Rattle.pac_inputs.specs.Shelves.{Shelf}
use Rattle.pac_words.specs.Commands.{command_of}
use Rattle.pac_cli.specs.Buses.{Slot, bus_asked, lent_for}

-- what an output tells
pub record Paper : Type 0 where
  pub written : Option (List ℕ)
  pub faults : ℕ

abbrev pub paper : Option (List ℕ) → ℕ → Paper
paper written faults = record { written = written; faults = faults }

-- what a command has before it: its output, and the bus that it runs its script over, where it runs one
pub record Desk : Type 0 where
  pub paper : Paper
  pub bus : Option BusTold

abbrev pub desk : Paper → Option BusTold → Desk
desk paper bus = record { paper = paper; bus = bus }

-- that of a command that runs no script
abbrev pub alone : Paper → Desk
alone paper = desk paper None

pub record World : Type 0 where
  pub shelf : Shelf
  pub paper : Paper
  pub slots : List Slot

abbrev pub world : Shelf → Paper → List Slot → World
world shelf paper slots = record { shelf = shelf; paper = paper; slots = slots }

-- what the command that the words ask for has before it
abbrev pub desk_of : List (List ℕ) → World → Desk
desk_of words now = desk now.paper (lent_for (bus_asked (command_of words)) now.slots)

-- nothing was written, no write failed, and the bus is as it was
pub record DoesNothing (old new : Desk) : Type 0 where
  pub same_text : new.paper.written ≡ old.paper.written
  pub same_faults : new.paper.faults ≡ old.paper.faults
  pub same_bus : new.bus ≡ old.bus
