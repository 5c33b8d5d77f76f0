-- What a text holds, how it begins and how it ends, and what stands behind all that counts in a line.
use Rattle.std.specs.Prelude.{◌≡◌, ◌⊎◌, ℕ, List, ◌++◌, codes}
use Rattle.text_scan.specs.Fronts.{Passes}
use Rattle.yaml_block.specs.Spaces.{is_space}

-- the part stands somewhere in the text
abbrev pub Holds : List ℕ → List ℕ → Type 0
Holds part text = (before : List ℕ) × (after : List ℕ) × (text ≡ before ++ (part ++ after))

abbrev pub BeginsWith : List ℕ → List ℕ → Type 0
BeginsWith part text = (after : List ℕ) × (text ≡ part ++ after)

abbrev pub EndsWith : List ℕ → List ℕ → Type 0
EndsWith part text = (before : List ℕ) × (text ≡ before ++ part)

abbrev pub AreSpaces : List ℕ → Type 0
AreSpaces text = Passes is_space text

-- a comment: a space and `#`, and then any bytes to the end of the line
abbrev pub IsComment : List ℕ → Type 0
IsComment text = BeginsWith (codes " #") text

-- nothing that counts: spaces, and behind them nothing or a comment
abbrev pub IsEnd : List ℕ → Type 0
IsEnd text = AreSpaces text ⊎ ((gap : List ℕ) × (comment : List ℕ) × AreSpaces gap × IsComment comment × (text ≡ gap ++ comment))
