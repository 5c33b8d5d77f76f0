-- The classes of faults: those of one class leave the same behind them. This project's own rule.
use Rattle.std.specs.Prelude.{ℕ, List}
use Rattle.pac_fault.specs.declared.fault.PacFault.{PacFault}
use Rattle.pac_fault.specs.declared.fault.PacFault.TheVariants.{Memory, Words, Read, Write, Bus, Limit}
use Rattle.pac_fault.specs.declared.fault.LimitFault.TheVariants.{FileTooLong}

-- want of memory, words, a read that failed, a write that failed, a bus that failed behind so many events, a file past its limit, and what is wrong with the inputs
pub data Class : Type 0 where
  no_memory : Class
  bad_words : Class
  bad_read : (name : List ℕ) → Class
  bad_write : Class
  bad_bus : (done : ℕ) → Class
  long_file : (name : List ℕ) → (limit : ℕ) → Class
  bad_input : Class

abbrev pub class_of : PacFault → Class
class_of Memory = no_memory
class_of (Words fault) = bad_words
class_of (Read name) = bad_read name
class_of Write = bad_write
class_of (Bus done) = bad_bus done
class_of (Limit (FileTooLong name limit)) = long_file name limit
class_of _ = bad_input
