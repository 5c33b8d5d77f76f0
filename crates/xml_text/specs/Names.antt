-- Names of elements and attributes (XML 1.0, in ASCII alone), and names that are all different.
use Rattle.std.specs.Prelude.{◌≢◌, ℕ, Bool, false, ◌&&◌, List, [], ◌∷◌, AllPairs}
use Rattle.std.specs.List.{list_all}
use Rattle.xml_text.specs.declared.run.Run.TheVariants.{Name}
use Rattle.xml_text.specs.Bytes.{is_name_start, is_in}

-- whether the text begins with the first byte of a name
unfoldable pub begins_name : List ℕ → Bool
begins_name [] = false
begins_name (first ∷ others) = is_name_start first

-- a letter or `_`, and then letters, digits, `_`, `.`, `:` and `-`
unfoldable pub is_name : List ℕ → Bool
is_name name = begins_name name && list_all (is_in Name) name

-- no two names are the same
abbrev pub AreDistinct : List (List ℕ) → Type 0
AreDistinct names = AllPairs (λ one other. one ≢ other) names
