-- Places of bits as a description writes them (CMSIS-SVD 1.3, bitRangeType).
use Rattle.std.specs.Prelude.{◌≡◌, ℕ, ◌+◌, ◌-◌, ◌<◌, ◌≤◌, ◌^◌, List, ◌++◌, Some, codes}
use Rattle.svd_values.specs.declared.numeral.Digits.TheVariants.{Decimal}
use Rattle.svd_values.specs.declared.place.Place.{Place}
use Rattle.svd_values.specs.Numbers.{IsWritten}

-- the bits from the lowest to the highest, both among them
abbrev pub place_between : ℕ → ℕ → Place
place_between msb lsb = record { offset = Some lsb; width = Some (msb - lsb + 1) }

-- the text is `[msb:lsb]`, with decimal digits below 2^64
pub record IsBitRange (text : List ℕ) (msb lsb : ℕ) : Type 0 where
  pub high : List ℕ
  pub low : List ℕ
  pub whole : text ≡ codes "[" ++ (high ++ (codes ":" ++ (low ++ codes "]")))
  pub msb_written : IsWritten Decimal high msb
  pub lsb_written : IsWritten Decimal low lsb
  pub below : msb < 2 ^ 64
  pub rises : lsb ≤ msb

-- the text is a range of bits at that place
pub record IsPlace (text : List ℕ) (place : Place) : Type 0 where
  pub msb : ℕ
  pub lsb : ℕ
  pub range : IsBitRange text msb lsb
  pub is : place ≡ place_between msb lsb
