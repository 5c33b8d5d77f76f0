-- The word from which a write to a register of the table starts (this project's own rule, after svd2rust's documented API): bit by bit, with no operation on words.
use Rattle.std.specs.Prelude.{ℕ, ◌==◌}
use Rattle.std.specs.Int.{bit_at}
use Rattle.bits_word.specs.Start.{start_bit}
use Rattle.reg_table.specs.Masks.{number_of_bits}

-- the number of so many bits of which each is 1 where the bit is raised, else 0 where a written one acts on it, else as in the base word
unfoldable pub start_number : ℕ → ℕ → ℕ → ℕ → ℕ
start_number bits base one raised = number_of_bits (λ i. start_bit (bit_at raised i) (bit_at one i) (bit_at base i) == 1) bits
