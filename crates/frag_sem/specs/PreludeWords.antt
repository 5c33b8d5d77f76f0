-- What the prelude's calls do to words, in the prelude's own formulas (this project's own, after svd2rust's register API). N is the number of bits of the register's type `Ux`, and all words are modulo 2^N.
use Rattle.std.specs.Prelude.{ℕ, ◌-◌, ◌*◌, ◌/◌, ◌%◌, ◌^◌, Bool, true, false, not, ◌==◌, bit_and, bit_or}

-- `!x`
abbrev pub complement : ℕ → ℕ → ℕ
complement N x = 2 ^ N - 1 - x

-- `x << o`
abbrev pub shifted_up : ℕ → ℕ → ℕ → ℕ
shifted_up N x o = x * 2 ^ o % 2 ^ N

-- `x >> o`
abbrev pub shifted_down : ℕ → ℕ → ℕ
shifted_down x o = x / 2 ^ o

-- n ones
abbrev pub ones : ℕ → ℕ
ones n = 2 ^ n - 1

-- `(b & !one) | raised`, where the masks are `ONE_TO_MODIFY` and `ZERO_TO_MODIFY`: the word from which `write` and `modify` start
unfoldable pub start_word : ℕ → ℕ → ℕ → ℕ → ℕ
start_word N b one raised = bit_or (bit_and b (complement N one)) raised

-- `(w & !(m << o)) | ((v & m) << o)`, where m is n ones: what a writer of n bits at o makes of a word
unfoldable pub written : ℕ → ℕ → ℕ → ℕ → ℕ → ℕ
written N w o n v = bit_or (bit_and w (complement N (shifted_up N (ones n) o))) (shifted_up N (bit_and v (ones n)) o)

-- `(w >> o) & m`: what a reader takes out of a word
unfoldable pub taken : ℕ → ℕ → ℕ → ℕ
taken w o m = bit_and (shifted_down w o) m

-- `x as T`, where T has N bits
abbrev pub as_bits : ℕ → ℕ → ℕ
as_bits N x = x % 2 ^ N

-- a truth as a number of one bit
abbrev pub bit_of : Bool → ℕ
bit_of true = 1
bit_of false = 0

-- a bit as a truth: `x != 0x0`
abbrev pub is_set : ℕ → Bool
is_set x = not (x == 0)

-- `a == b` of truths
abbrev pub same_truth : Bool → Bool → Bool
same_truth true other = other
same_truth false other = not other
