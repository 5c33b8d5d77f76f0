-- How the texts are read from the first byte on: what the crate's own readers give. What the texts
-- mean stands in `Numbers`, `Places` and `Indexes`; the public calls are proved against those.
use Rattle.std.specs.Prelude.{Bool, ℕ, ◌+◌, ◌*◌, ◌^◌, List, [], ◌∷◌, nat_lt, ◌==◌, ◌&&◌, ◌||◌, if◌then◌else◌, Option, Some, None, take, drop, nat_le}
use Rattle.std.specs.List.{prefix_len}
use Rattle.std.specs.Char.{is_ascii_uppercase, is_ascii_lowercase}
use Rattle.std.specs.Option.{option_map}
use Rattle.svd_values.specs.declared.numeral.Digits.{Digits}
use Rattle.svd_values.specs.declared.numeral.Digits.TheVariants.{Decimal, Hexadecimal}
use Rattle.std.specs.Prelude.{option_and_then}
use Rattle.svd_values.specs.declared.place.Place.{Place}
use Rattle.svd_values.specs.Places.{place_between}
use Rattle.svd_values.specs.Indexes.{is_white}
use Rattle.svd_values.specs.Numbers.{base_of, digit_of, is_digit}

-- the value of digits behind a value that stands before them
unfoldable pub read_on : Digits → ℕ → List ℕ → Option ℕ
read_on digits value [] = Some value
read_on digits value (byte ∷ rest) = if is_digit digits byte then read_on digits (value * base_of digits + digit_of digits byte) rest else None

-- the value, where it is below 2^64
unfoldable pub bounded : Option ℕ → Option ℕ
bounded None = None
bounded (Some value) = if nat_lt value (2 ^ 64) then Some value else None

-- the value of one or more digits
unfoldable pub read_digits : Digits → List ℕ → Option ℕ
read_digits digits [] = None
read_digits digits (byte ∷ rest) = read_on digits 0 (byte ∷ rest)

-- which digits a number without sign has, and where they begin
unfoldable pub split_mark : Digits → List ℕ → Digits × List ℕ
split_mark bits [] = (Decimal, [])
split_mark bits (first ∷ []) = if first == 35 then (bits, []) else (Decimal, first ∷ [])
split_mark bits (first ∷ (second ∷ rest)) =
    if first == 35 then (bits, second ∷ rest)
    else (if first == 48 && (second == 120 || second == 88) then (Hexadecimal, rest)
    else (if first == 48 && (second == 98 || second == 66) then (bits, rest) else (Decimal, first ∷ (second ∷ rest))))

-- the text behind a `+` at its front
unfoldable pub without_plus : List ℕ → List ℕ
without_plus [] = []
without_plus (first ∷ rest) = if first == 43 then rest else first ∷ rest

-- the value of a number without sign
unfoldable pub read_unsigned : Digits → List ℕ → Option ℕ
read_unsigned bits text = read_digits (split_mark bits text).0 (split_mark bits text).1

-- the value of a number
unfoldable pub read_number : Digits → List ℕ → Option ℕ
read_number bits text = read_unsigned bits (without_plus text)

-- the value of the digits, and what stands behind the mark, where the mark comes first
unfoldable pub value_before : ℕ → List ℕ → List ℕ → Option (ℕ × List ℕ)
value_before mark digits [] = None
value_before mark digits (first ∷ rest) = if first == mark then option_map (λ value. (value, rest)) (bounded (read_digits Decimal digits)) else None

-- the decimal digits at the front up to a mark, and what stands behind it
unfoldable pub read_until : ℕ → List ℕ → Option (ℕ × List ℕ)
read_until mark text = value_before mark (take (prefix_len (is_digit Decimal) text) text) (drop (prefix_len (is_digit Decimal) text) text)

-- the text behind its first byte, where that is the mark
unfoldable pub behind : ℕ → List ℕ → Option (List ℕ)
behind mark [] = None
behind mark (first ∷ rest) = if first == mark then Some rest else None

-- the place from the lowest bit to the highest, where nothing stands behind it
unfoldable pub place_at_end : ℕ → ℕ → List ℕ → Option Place
place_at_end msb lsb [] = if nat_le lsb msb then Some (place_between msb lsb) else None
place_at_end msb lsb (first ∷ rest) = None

-- the place that a range of bits gives
unfoldable pub read_place : List ℕ → Option Place
read_place text =
    option_and_then (λ inner.
    option_and_then (λ (high : ℕ × List ℕ).
    option_and_then (λ (low : ℕ × List ℕ). place_at_end high.0 low.0 low.1) (read_until 93 high.1)) (read_until 58 inner)) (behind 91 text)

-- the range from the first number to the last, where it doesn't fall
unfoldable pub rising : ℕ → Option ℕ → Option (ℕ × ℕ)
rising first None = None
rising first (Some last) = if nat_le first last then Some (first, last) else None

-- the range of two decimal numbers
unfoldable pub read_numbers : List ℕ → Option (ℕ × ℕ)
read_numbers text = option_and_then (λ (first : ℕ × List ℕ). rising first.0 (bounded (read_digits Decimal first.1))) (read_until 45 text)

-- two letters of one case that don't fall
abbrev pub letters_rise : ℕ → ℕ → Bool
letters_rise first last = nat_le first last && ((is_ascii_uppercase first && is_ascii_uppercase last) || (is_ascii_lowercase first && is_ascii_lowercase last))

-- the range of two letters
unfoldable pub read_letters : List ℕ → Option (ℕ × ℕ)
read_letters [] = None
read_letters (first ∷ []) = None
read_letters (first ∷ (dash ∷ [])) = None
read_letters (first ∷ (dash ∷ (last ∷ []))) = if dash == 45 && letters_rise first last then Some (first, last) else None
read_letters (first ∷ (dash ∷ (last ∷ (more ∷ rest)))) = None

-- the text from the first byte on that is no white space
unfoldable pub skip_white : List ℕ → List ℕ
skip_white text = drop (prefix_len is_white text) text
