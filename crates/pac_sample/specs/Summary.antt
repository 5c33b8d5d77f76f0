-- What `sample` prints of a run: how many registers there are, how many reads and writes were made, and the sum of the values that were written. This project's own format.
use Rattle.std.specs.Prelude.{ℕ, ◌%◌, ◌^◌, Bool, true, false, List, ◌++◌, codes, decimal}
use Rattle.std.specs.List.{count_by, sum_by}
use Rattle.frag_tree.specs.declared.event.Event.{Event}
use Rattle.frag_tree.specs.declared.event.Event.TheVariants.{Read, Write, Say}

abbrev pub is_read : Event → Bool
is_read (Read address width value) = true
is_read (Write address width value) = false
is_read (Say said) = false

abbrev pub is_write : Event → Bool
is_write (Read address width value) = false
is_write (Write address width value) = true
is_write (Say said) = false

-- what a write wrote, and 0 for any other event
abbrev pub written_by : Event → ℕ
written_by (Read address width value) = 0
written_by (Write address width value) = value
written_by (Say said) = 0

-- the sum of the values that were written, modulo 2^64
abbrev pub written_sum : List Event → ℕ
written_sum events = sum_by written_by events % 2 ^ 64

-- a word and its number
unfoldable pub summary_line : List ℕ → ℕ → List ℕ
summary_line word number = word ++ (codes " " ++ (decimal number ++ codes "\n"))

-- the four lines
unfoldable pub summary : ℕ → List Event → List ℕ
summary count events =
    summary_line (codes "registers") count
    ++ (summary_line (codes "reads") (count_by is_read events)
    ++ (summary_line (codes "writes") (count_by is_write events) ++ summary_line (codes "sum") (written_sum events)))
