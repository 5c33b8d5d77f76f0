-- Spaces and comments within a line (YAML: a comment begins with `#` behind a space).
use Rattle.std.specs.Prelude.{ℕ, Bool, true, false, ◌&&◌, ◌||◌, List, [], ◌∷◌, length, reverse, ◌==◌}
use Rattle.text_scan.specs.Fronts.{rest_of}

abbrev pub is_space : ℕ → Bool
is_space byte = byte == 32

-- whether the text begins with the byte
unfoldable pub starts : ℕ → List ℕ → Bool
starts byte [] = false
starts byte (first ∷ text) = first == byte

-- whether the text is empty or begins with a space
unfoldable pub is_parted : List ℕ → Bool
is_parted [] = true
is_parted (first ∷ text) = first == 32

-- the text without the spaces at its end
unfoldable pub trimmed : List ℕ → List ℕ
trimmed text = reverse (rest_of is_space (reverse text))

-- whether nothing counts in the text: spaces alone, or behind a space a comment
unfoldable pub ends : List ℕ → Bool
ends text = (length (rest_of is_space text) == 0) || (starts 32 text && starts 35 (rest_of is_space text))
