-- The numbers that texts give, as functions of the texts (CMSIS-SVD 1.3, scaledNonNegativeInteger without its scale letters): none where the
-- text is no number or its value is 2^64 or more.
use Rattle.std.specs.Prelude.{ℕ, List, Option}
use Rattle.svd_values.specs.declared.numeral.Digits.TheVariants.{Binary, BinaryOrAny}
use Rattle.svd_values.specs.Readers.{bounded, read_number}

-- the value of a whole number
unfoldable pub number_given : List ℕ → Option ℕ
number_given text = bounded (read_number Binary text)

-- the value of a number in whose binary digits `x` and `X` count as 0
unfoldable pub bits_given : List ℕ → Option ℕ
bits_given text = bounded (read_number BinaryOrAny text)
