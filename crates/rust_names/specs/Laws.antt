-- What the laws of this crate say, each as one statement.
use Rattle.std.specs.Prelude.{ℕ, ◌≡◌, List, [], ◌∷◌, ◌++◌, Bool, false, codes}
use Rattle.std.specs.List.{list_any}
use Rattle.std.specs.Str.{bytes_eq}
use Rattle.rust_names.specs.Keywords.{is_keyword}
use Rattle.rust_names.specs.PreludeNames.{first_names, is_prelude_name}

-- No keyword and no name of the prelude ends in `_`.
abbrev pub NoneEndsLow : Type 0
NoneEndsLow = (front : List ℕ) → (is_keyword (front ++ 95 ∷ []) ≡ false) × (is_prelude_name (front ++ 95 ∷ []) ≡ false)

-- No keyword ends in `F`, as markers do.
abbrev pub NoKeywordIsMarker : Type 0
NoKeywordIsMarker = (front : List ℕ) → is_keyword (front ++ 70 ∷ []) ≡ false

-- None begins with `_reserved`, as the names of gaps do.
abbrev pub NoneIsReserved : Type 0
NoneIsReserved = (back : List ℕ) → (is_keyword (codes "_reserved" ++ back) ≡ false) × (is_prelude_name (codes "_reserved" ++ back) ≡ false)

-- What is free of the names of version 2 is free of those of version 1.
abbrev pub FreeOfBoth : Type 0
FreeOfBoth = (word : List ℕ) → is_prelude_name word ≡ false → list_any (bytes_eq word) first_names ≡ false
