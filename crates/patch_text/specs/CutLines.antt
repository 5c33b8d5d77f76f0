-- The lines of a text: between them stand line feeds, each with a carriage return before it or none.
use Rattle.std.specs.Prelude.{◌≡◌, ◌⊎◌, ℕ, List, [], ◌∷◌, ◌++◌, codes}
use Rattle.patch_text.specs.Parts.{EndsWith, Holds}

-- the text is the line, what ends it, and then the rest: a carriage return before the line feed is no part of the line
abbrev pub EndsLine : List ℕ → List ℕ → List ℕ → Type 0
EndsLine line text rest = (text ≡ line ++ (codes "\r\n" ++ rest)) ⊎ ((text ≡ line ++ (codes "\n" ++ rest)) × (¬ EndsWith (codes "\r") line))

-- the text is the lines, none of which holds a line feed, each but the last with what ends it
abbrev pub AreLines : List (List ℕ) → List ℕ → Type 0
AreLines [] text = ⊥
AreLines (line ∷ []) text = (¬ Holds (codes "\n") line) × (text ≡ line)
AreLines (line ∷ next ∷ lines) text = (¬ Holds (codes "\n") line) × (rest : List ℕ) × EndsLine line text rest × AreLines (next ∷ lines) rest
