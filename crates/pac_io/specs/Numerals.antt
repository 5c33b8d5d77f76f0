-- The texts of numbers.
use Rattle.std.specs.Prelude.{ℕ, ◌-◌, false, List, ◌++◌, length, replicate}
use Rattle.std.specs.Fmt.{digits}

-- The text of a number in lower-case hexadecimal, the digit of the least place last, with zeros in front of it up to `least` digits. `digits 16` is what std's `{:x}` writes: the remainders by 16, without a leading zero.
abbrev pub hexadecimal : ℕ → ℕ → List ℕ
hexadecimal least number = replicate (least - length (digits 16 false number)) 48 ++ digits 16 false number
