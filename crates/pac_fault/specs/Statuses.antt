-- The exit status of each fault. This project's own table.
use Rattle.std.specs.Prelude.{ℕ, Option, Some, None}
use Rattle.pac_fault.specs.declared.fault.PacFault.{PacFault}
use Rattle.pac_fault.specs.declared.fault.PacFault.TheVariants.{Memory, Words, Read, Write, Bus, Svd, Block, Command, Patch, Derive, Dim, Check, CrateText, Script, Limit}

abbrev pub status_at : PacFault → ℕ
status_at Memory = 1
status_at (Words fault) = 2
status_at (Read name) = 3
status_at Write = 4
status_at (Bus done) = 5
status_at (Svd fault) = 6
status_at (Block fault) = 7
status_at (Command fault) = 7
status_at (Patch fault) = 7
status_at (Derive fault) = 8
status_at (Dim fault) = 8
status_at (Check fault) = 8
status_at (CrateText fault) = 9
status_at (Script fault) = 10
status_at (Limit fault) = 11

-- 0 where there is no fault
abbrev pub status_of : Option PacFault → ℕ
status_of None = 0
status_of (Some fault) = status_at fault
