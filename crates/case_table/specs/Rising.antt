-- Words in rising order of their bytes: each is below the next, so no word stands twice.
use Rattle.std.specs.Prelude.{ℕ, ◌-◌, ◌<◌, List, [], ◌∷◌, length, Bool, true, ◌&&◌, IsTrue, slice_index_or}
use Rattle.std.specs.List.{AllAdjacentBelow}
use Rattle.std.specs.Ordering.{nat_cmp, is_lt}
use Rattle.std.specs.Cmp.Lexicographic.{slice_cmp}

-- the first word is below the second: the first byte that differs decides, else the length
abbrev pub is_below : List ℕ → List ℕ → Bool
is_below word next = is_lt (slice_cmp nat_cmp word next)

abbrev pub IsBelow : List ℕ → List ℕ → Type 0
IsBelow word next = IsTrue (is_below word next)

-- each word is below the one after it
abbrev pub rises : List (List ℕ) → Bool
rises [] = true
rises (word ∷ []) = true
rises (word ∷ (next ∷ words)) = is_below word next && rises (next ∷ words)

-- the word at `at` is the first that isn't above the one before it
pub record IsFirstFall (words : List (List ℕ)) (at : ℕ) : Type 0 where
  pub after_first : 0 < at
  pub within : at < length words
  pub rises_before : AllAdjacentBelow IsBelow words at
  pub falls : ¬ IsBelow (slice_index_or words (at - 1) []) (slice_index_or words at [])
