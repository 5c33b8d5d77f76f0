-- An element of a description's text (XML 1.0, an element without attributes): its start tag, what it holds, its end tag.
use Rattle.std.specs.Prelude.{ℕ, List, ◌++◌, codes}

-- the start tag
unfoldable pub start_tag : List ℕ → List ℕ
start_tag tag = codes "<" ++ (tag ++ codes ">")

-- the end tag
unfoldable pub end_tag : List ℕ → List ℕ
end_tag tag = codes "</" ++ (tag ++ codes ">")

-- an element
abbrev pub element : List ℕ → List ℕ → List ℕ
element tag inside = start_tag tag ++ (inside ++ end_tag tag)
