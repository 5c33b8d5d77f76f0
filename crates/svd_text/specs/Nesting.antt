-- How deep the elements of a text nest. The device is at depth 1, and 64 is the deepest that is read (this project's own rule).
use Rattle.std.specs.Prelude.{ℕ, ◌+◌, ◌-◌, List, [], ◌∷◌, ◌++◌, length, Option, Some, None, nat_lt, if◌then◌else◌}
use Rattle.svd_text.specs.ElementText.{Outline, Contents, nothing, says, refers, comments, holds, Text}

-- where the name of an element stands in its start tag: its first byte and the byte after its last
abbrev pub name_span : ℕ → Outline → (ℕ × ℕ)
name_span total outline = (total - length outline.from + 1, total - length outline.from + 1 + length outline.tag.name)

-- all start tags in their order, by depth and name: the elements among the contents are at this depth
unfoldable pub tags_in : ℕ → ℕ → Contents → List (ℕ × (ℕ × ℕ))
tags_in total depth nothing = []
tags_in total depth (says said behind others) = tags_in total depth others
tags_in total depth (refers scalar behind others) = tags_in total depth others
tags_in total depth (comments behind others) = tags_in total depth others
tags_in total depth (holds outline inside others) =
    (depth, name_span total outline) ∷ (tags_in total (depth + 1) inside ++ tags_in total depth others)

-- the deepest that is read
abbrev pub depth_limit : ℕ
depth_limit = 64

-- the first tag that is deeper
unfoldable pub first_deeper : List (ℕ × (ℕ × ℕ)) → Option (ℕ × ℕ)
first_deeper [] = None
first_deeper (tag ∷ others) = if nat_lt depth_limit tag.0 then Some tag.1 else first_deeper others

-- the name's place in the first start tag of the text that nests too deep
unfoldable pub first_too_deep : Text → Option (ℕ × ℕ)
first_too_deep text = first_deeper (tags_in text.total 1 text.contents)
