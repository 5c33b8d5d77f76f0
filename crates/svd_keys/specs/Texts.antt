-- The text of a key without the white space at both ends, and where it stands. Places are bytes from the beginning of the description, up to
-- 2^32 - 1, which is behind the end of every description that is read.
use Rattle.std.specs.Prelude.{ℕ, ◌+◌, ◌-◌, min, List, [], length, reverse, if◌then◌else◌, nat_eq}
use Rattle.pac_base.specs.declared.span.Span.{Span}
use Rattle.text_scan.specs.declared.class.Class.TheVariants.{Blank}
use Rattle.text_scan.specs.Classes.{has}
use Rattle.text_scan.specs.Fronts.{rest_of}
use Rattle.svd_text.specs.Tree.{Head}

-- the text without the white space in front
abbrev pub after_blanks : List ℕ → List ℕ
after_blanks text = rest_of (has Blank) text

-- the text without the white space at its end
unfoldable pub before_blanks : List ℕ → List ℕ
before_blanks text = reverse (rest_of (has Blank) (reverse text))

-- the text without the white space at both ends
unfoldable pub trimmed : List ℕ → List ℕ
trimmed text = before_blanks (after_blanks text)

-- the place so many bytes on
abbrev pub place_after : ℕ → ℕ → ℕ
place_after at count = min (at + count) 4294967295

-- the bytes of a text that begins at the place
unfoldable pub span_at : ℕ → List ℕ → Span
span_at at text = record { start = at; end = place_after at (length text) }

-- the bytes of a text that begins at the place, without the white space at both ends; where nothing is left, none at that place
unfoldable pub trimmed_span : ℕ → List ℕ → Span
trimmed_span at text =
    if nat_eq (length (trimmed text)) 0 then span_at at [] else span_at (place_after at (length text - length (after_blanks text))) (trimmed text)

-- what a key says
unfoldable pub value_text : Head → List ℕ
value_text head = trimmed head.said

-- where its value is written
unfoldable pub value_span : Head → Span
value_span head = trimmed_span head.inside_at head.inside

-- where the name in its start tag stands
unfoldable pub name_span : Head → Span
name_span head = span_at head.name_at head.name
