-- The indexes of a dimension as a description writes them (CMSIS-SVD 1.3, dimIndexType): a range of
-- numbers, a range of letters, or a list of words.
use Rattle.std.specs.Prelude.{◌≡◌, ◌≢◌, ◌⊎◌, ℕ, ◌<◌, ◌≤◌, ◌^◌, List, [], ◌∷◌, ◌++◌, Bool, IsTrue, ◌==◌, ◌||◌, codes}
use Rattle.std.specs.List.{list_all}
use Rattle.std.specs.Char.{is_ascii_uppercase, is_ascii_lowercase}
use Rattle.pac_base.specs.Names.{IsWord}
use Rattle.svd_values.specs.declared.numeral.Digits.TheVariants.{Decimal}
use Rattle.svd_values.specs.declared.index.DimIndex.{DimIndex}
use Rattle.svd_values.specs.declared.index.DimIndex.TheVariants.{Numbers, Letters, Words}
use Rattle.svd_values.specs.Numbers.{IsWritten}

-- the text is `first-last`, in decimal digits below 2^64, and the range doesn't fall
pub record IsNumberRange (text : List ℕ) (first last : ℕ) : Type 0 where
  pub before : List ℕ
  pub behind : List ℕ
  pub whole : text ≡ before ++ (codes "-" ++ behind)
  pub starts : IsWritten Decimal before first
  pub ends : IsWritten Decimal behind last
  pub below : last < 2 ^ 64
  pub rises : first ≤ last

-- the text is `first-last`, two letters of one case, and the range doesn't fall
pub record IsLetterRange (text : List ℕ) (first last : ℕ) : Type 0 where
  pub whole : text ≡ first ∷ (codes "-" ++ last ∷ [])
  pub one_case : (IsTrue (is_ascii_uppercase first) × IsTrue (is_ascii_uppercase last)) ⊎ (IsTrue (is_ascii_lowercase first) × IsTrue (is_ascii_lowercase last))
  pub rises : first ≤ last

-- white space: space, tab, carriage return and line feed
abbrev pub is_white : ℕ → Bool
is_white byte = byte == 32 || byte == 9 || byte == 13 || byte == 10

-- a word of at least one byte
pub record IsFullWord (word : List ℕ) : Type 0 where
  pub some : word ≢ []
  pub letters : IsWord word

-- a word, a comma, white space or none, and the rest
pub record IsWordBefore (text word rest : List ℕ) : Type 0 where
  pub gap : List ℕ
  pub whole : text ≡ word ++ (codes "," ++ (gap ++ rest))
  pub full : IsFullWord word
  pub white : IsTrue (list_all is_white gap)

-- one or more words parted by commas, with white space behind a comma or none
abbrev pub IsWordList : List ℕ → List (List ℕ) → Type 0
IsWordList text [] = ⊥
IsWordList text (word ∷ []) = (text ≡ word) × IsFullWord word
IsWordList text (word ∷ (next ∷ words)) = (rest : List ℕ) × IsWordBefore text word rest × IsWordList rest (next ∷ words)

-- the text gives the index
abbrev pub IsIndex : List ℕ → DimIndex → Type 0
IsIndex text (Numbers first last) = IsNumberRange text first last
IsIndex text (Letters first last) = IsLetterRange text first last
IsIndex text (Words words) = IsWordList text words
