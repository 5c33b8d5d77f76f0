-- How a text splits into words (this project's own rule, after the tokens of Rust).
use Rattle.std.specs.Prelude.{ℕ, List, [], ◌∷◌, Bool, false, ◌||◌, ◌&&◌, ◌==◌, not, take, if◌then◌else◌, zero, suc}
use Rattle.std.specs.List.{prefix_len}
use Rattle.pac_base.specs.Names.{is_word_byte}

-- a word is its bytes
abbrev pub Word : Type 0
Word = List ℕ

-- space, tab, LF and CR
abbrev pub is_blank : ℕ → Bool
is_blank byte = (byte == 32) || (byte == 9) || (byte == 10) || (byte == 13)

-- a text begins with this byte
abbrev pub begins : ℕ → List ℕ → Bool
begins byte [] = false
begins byte (first ∷ others) = first == byte

-- two bytes that are one word: `::`, `->`, `>>`, `!=`, `==`
abbrev pub pairs : ℕ → ℕ → Bool
pairs first second =
    (first == 58 && second == 58) || (first == 45 && second == 62) || (first == 62 && second == 62) || (first == 33 && second == 61) || (first == 61 && second == 61)

-- a byte is one word with the byte behind it
abbrev pub is_pair : ℕ → List ℕ → Bool
is_pair first [] = false
is_pair first (second ∷ others) = pairs first second

-- What stands at a byte: a gap, or a word; and how many bytes behind that one belong to it.
pub data Front : Type 0 where
  gap : ℕ → Front
  word : ℕ → Front

-- White space is a gap, and so is a comment, from `//` to the byte before LF or to the end. A word is a longest run of letters, digits and `_`, or `'` with such a run, or a pair, or one other byte.
abbrev pub front_at : ℕ → List ℕ → Front
front_at first others =
    if is_blank first then gap 0
    else (if first == 47 && begins 47 others then gap (prefix_len (λ byte. not (byte == 10)) others)
    else (if is_word_byte first || first == 39 then word (prefix_len is_word_byte others)
    else (if is_pair first others then word 1 else word 0)))

-- the word at the front, where there is one, and then those of the text behind the front
abbrev pub led_by : Front → ℕ → List ℕ → (ℕ → List Word) → List Word
led_by (gap n) first others words = words n
led_by (word n) first others words = (first ∷ take n others) ∷ words n

-- the words of what stands behind the first so many bytes
unfoldable pub words_behind : List ℕ → ℕ → List Word
words_behind [] n = []
words_behind (first ∷ others) (suc n) = words_behind others n
words_behind (first ∷ others) zero = led_by (front_at first others) first others (words_behind others)

-- the words of a text
abbrev pub words_in : List ℕ → List Word
words_in text = words_behind text 0
