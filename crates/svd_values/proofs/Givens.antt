-- A text gives a number exactly where it is written so.
use Rattle.std.proofs.Common.{◌≡◌, ◌↔◌, ℕ, ◌^◌, ◌<◌, List, refl, Some}
use Rattle.svd_values.specs.declared.numeral.Digits.TheVariants.{Binary, BinaryOrAny}
use Rattle.svd_values.specs.Given.{number_given, bits_given}
use Rattle.svd_values.specs.Numbers.{IsWholeNumber, IsValueBits}
use Rattle.svd_values.proofs.Spelling.{number_exactly}

pub number_given-exactly : (text : List ℕ) (value : ℕ) → (number_given text ≡ Some value) ↔ (IsWholeNumber text value × (value < 2 ^ 64))
unfolding number_given
number_given-exactly text = number_exactly Binary text (number_given text) refl

pub bits_given-exactly : (text : List ℕ) (value : ℕ) → (bits_given text ≡ Some value) ↔ (IsValueBits text value × (value < 2 ^ 64))
unfolding bits_given
bits_given-exactly text = number_exactly BinaryOrAny text (bits_given text) refl
