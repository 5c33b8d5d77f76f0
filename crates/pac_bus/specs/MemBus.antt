-- A bus over bytes in memory.
use Rattle.std.specs.Prelude.{◌/◌, min}
use Rattle.pac_bus.specs.declared.mem_bus.MemBus.{MemBus}
use Rattle.pac_bus.specs.Acts.Gives.{Bytes}
use Rattle.pac_bus.specs.Journals.{History, told_by}
use Rattle.pac_bus.specs.Stores.{memory_of, room_of}
use Rattle.pac_bus.specs.Telling.{BusTold}

-- Its calls. There is room for an access where the log has room and eight bytes can be written.
abbrev pub history_of : MemBus → History
history_of bus = record { log = bus.journal.log; set = bus.journal.set; spare = min bus.journal.spare (room_of bus.store / 8) }

-- what it tells: no call of it fails
abbrev pub mem_told : MemBus → BusTold
mem_told bus = told_by (history_of bus) (Bytes (memory_of bus.store)) 0
