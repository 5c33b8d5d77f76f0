-- The buses that are lent for a call, and which of them a command runs its script over. This project's own rule.
use Rattle.std.specs.Prelude.{ℕ, ◌≡◌, ◌⊎◌, Bool, true, false, List, length, map, nat_lt, Option, Some, None, option_and_then, option_map, slice_get, slice_set, if◌then◌else◌}
use Rattle.std.specs.List.{position_or_len}
use Rattle.pac_bus.specs.Telling.{BusTold}
use Rattle.pac_cli.specs.declared.slot.BusSlot.{BusSlot}
use Rattle.pac_words.specs.declared.command.BusKind.{BusKind}
use Rattle.pac_words.specs.declared.command.BusKind.TheVariants as bus
use Rattle.pac_words.specs.declared.command.Command.{Command}
use Rattle.pac_words.specs.declared.command.Command.TheVariants.{Executing, Generating, Listing, Running, Sampling}

-- a bus that is lent: of which kind it is, and what it tells
pub record Slot : Type 0 where
  pub kind : BusKind
  pub told : BusTold

-- what is told of lent buses
abbrev pub slots_of : {B : Type 0} → (B → BusTold) → List (BusSlot B) → List Slot
slots_of told lent = map (λ slot. record { kind = slot.kind; told = told slot.bus }) lent

abbrev pub kinds_of : List Slot → List BusKind
kinds_of slots = map (λ slot. slot.kind) slots

abbrev pub same_kind : BusKind → BusKind → Bool
same_kind bus.Zero bus.Zero = true
same_kind bus.Memory bus.Memory = true
same_kind bus.Device bus.Device = true
same_kind _ _ = false

-- the kind of bus that a command runs its script over; none where it runs no script
abbrev pub bus_of : Command → Option BusKind
bus_of (Listing source) = None
bus_of (Generating source) = None
bus_of (Executing krate run) = Some run.bus
bus_of (Running source run) = Some run.bus
bus_of (Sampling number count) = Some bus.Memory

-- that of the command that words ask for
abbrev pub bus_asked : Option Command → Option BusKind
bus_asked = option_and_then bus_of

-- the place of the first bus of this kind among lent ones; past the last where there is none
abbrev pub place_in : BusKind → List BusKind → ℕ
place_in kind kinds = position_or_len (λ lent. same_kind lent kind) kinds

-- a bus of this kind is lent
abbrev pub is_lent : BusKind → List BusKind → Bool
is_lent kind kinds = nat_lt (place_in kind kinds) (length kinds)

-- the kind that is wanted, where no bus of it is lent
abbrev pub missing_kind : Option BusKind → List BusKind → Option BusKind
missing_kind None kinds = None
missing_kind (Some kind) kinds = if is_lent kind kinds then None else Some kind

-- what the first lent bus of this kind tells
abbrev pub told_by : BusKind → List Slot → Option BusTold
told_by kind slots = option_map (λ slot. slot.told) (slice_get slots (place_in kind (kinds_of slots)))

-- what the bus of the wanted kind tells; none where none is wanted, or none is lent
abbrev pub lent_for : Option BusKind → List Slot → Option BusTold
lent_for wanted slots = option_and_then (λ kind. told_by kind slots) wanted

-- what the first lent bus of this kind tells changes, and nothing else of the lent buses
pub record OneChanges (kind : BusKind) (old new : List Slot) : Type 0 where
  pub told : BusTold
  pub changed : new ≡ slice_set old (place_in kind (kinds_of old)) (record { kind = kind; told = told })

-- no lent bus changes, but the one that is wanted may
abbrev pub OthersStay : Option BusKind → List Slot → List Slot → Type 0
OthersStay None old new = new ≡ old
OthersStay (Some kind) old new = (new ≡ old) ⊎ OneChanges kind old new
