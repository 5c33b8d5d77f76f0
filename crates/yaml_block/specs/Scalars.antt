-- The scalars of block text (YAML's plain, single-quoted and double-quoted scalars, narrowed): what stands at the front of a text, and what follows it.
use Rattle.std.specs.Prelude.{ℕ, Bool, true, false, not, ◌&&◌, ◌||◌, List, [], ◌∷◌, length, Option, Some, None, codes, ◌==◌, if◌then◌else◌, slice_index}
use Rattle.std.specs.List.{list_any}
use Rattle.std.specs.Str.{is_utf8}
use Rattle.text_scan.specs.Fronts.{stripped_of}
use Rattle.text_scan.specs.Lists.{items_at}
use Rattle.text_scan.specs.Steps.{◌>>=◌}
use Rattle.yaml_block.specs.declared.scalar.Place.{Place}
use Rattle.yaml_block.specs.declared.scalar.Place.TheVariants.{Line, Flow}
use Rattle.yaml_block.specs.declared.quoted.Quote.{Quote}
use Rattle.yaml_block.specs.declared.quoted.Quote.TheVariants.{Single, Double}
use Rattle.yaml_block.specs.Spaces.{starts, is_parted, trimmed}

-- bytes that are a text in UTF-8
unfoldable pub text_of : List ℕ → Option (List ℕ)
text_of bytes = if is_utf8 bytes then Some bytes else None

-- `,`, `[`, `]`, `{` and `}`
abbrev pub is_flow_mark : ℕ → Bool
is_flow_mark byte = (byte == 44) || (byte == 91) || (byte == 93) || (byte == 123) || (byte == 125)

-- the bytes that no plain scalar begins with
abbrev pub indicators : List ℕ
indicators = codes "-?:,[]{}#&*!|>'\"%@`"

abbrev pub is_indicator : ℕ → Bool
is_indicator byte = list_any (λ (mark : ℕ). byte == mark) indicators

abbrev pub is_in_flow : Place → Bool
is_in_flow Line = false
is_in_flow Flow = true

-- Where a plain scalar ends: at the end, at a tab, at a colon that a space or the end follows, at a space that `#` follows,
-- and within a flow collection at one of its marks.
unfoldable pub stops : Place → List ℕ → Bool
stops place [] = true
stops place (byte ∷ text) = (byte == 9) || ((byte == 58) && is_parted text) || ((byte == 32) && starts 35 text) || (is_in_flow place && is_flow_mark byte)

-- the text up to there, and from there on
unfoldable pub plain_front : Place → List ℕ → List ℕ
plain_front place [] = []
plain_front place (byte ∷ text) = if stops place (byte ∷ text) then [] else byte ∷ plain_front place text

unfoldable pub plain_rest : Place → List ℕ → List ℕ
plain_rest place [] = []
plain_rest place (byte ∷ text) = if stops place (byte ∷ text) then byte ∷ text else plain_rest place text

-- not empty, with no indicator at its front and no colon at its end
unfoldable pub is_plain : List ℕ → Bool
is_plain [] = false
is_plain (first ∷ others) = not (is_indicator first) && not (slice_index (first ∷ others) (length others) == 58)

-- a plain scalar, without the spaces behind it
unfoldable pub plain_at : Place → List ℕ → Option (List ℕ × List ℕ)
plain_at place text =
    if is_plain (trimmed (plain_front place text)) then (text_of (trimmed (plain_front place text)) >>= λ spelled. Some (spelled, plain_rest place text)) else None

-- the byte that opens and closes the quotes
unfoldable pub mark_of : Quote → List ℕ
mark_of Single = codes "'"
mark_of Double = codes "\""

-- whether the quotes close here: `''` doesn't close single quotes
unfoldable pub closes : Quote → List ℕ → Bool
closes quote [] = false
closes Single (byte ∷ text) = (byte == 39) && not (starts 39 text)
closes Double (byte ∷ text) = byte == 34

-- what follows a backslash: `\\`, `\"`, `\n` and `\t` alone
unfoldable pub escaped : ℕ → Option ℕ
escaped byte = if byte == 92 then Some 92 else if byte == 34 then Some 34 else if byte == 110 then Some 10 else if byte == 116 then Some 9 else None

unfoldable pub escape_at : List ℕ → Option (ℕ × List ℕ)
escape_at [] = None
escape_at (byte ∷ text) = escaped byte >>= λ meant. Some (meant, text)

-- one byte within quotes, where they don't close
unfoldable pub byte_at : Quote → List ℕ → Option (ℕ × List ℕ)
byte_at quote [] = None
byte_at Single (byte ∷ text) = if byte == 39 then (stripped_of (codes "'") text >>= λ rest. Some (39, rest)) else Some (byte, text)
byte_at Double (byte ∷ text) = if byte == 34 then None else if byte == 92 then escape_at text else Some (byte, text)

abbrev pub goes_on : Quote → List ℕ → Bool
goes_on quote text = not (closes quote text)

abbrev pub bytes_at : Quote → List ℕ → Option (List ℕ × List ℕ)
bytes_at quote text = items_at (goes_on quote) (byte_at quote) text

-- what the quotes hold, behind the opening one
unfoldable pub quoted_at : Quote → List ℕ → Option (List ℕ × List ℕ)
quoted_at quote text = do
  bytes ← bytes_at quote text
  rest ← stripped_of (mark_of quote) bytes.1
  spelled ← text_of bytes.0
  Some (spelled, rest)

abbrev pub double_or_plain : Option (List ℕ) → Place → List ℕ → Option (List ℕ × List ℕ)
double_or_plain (Some inside) place text = quoted_at Double inside
double_or_plain None place text = plain_at place text

abbrev pub single_or_other : Option (List ℕ) → Place → List ℕ → Option (List ℕ × List ℕ)
single_or_other (Some inside) place text = quoted_at Single inside
single_or_other None place text = double_or_plain (stripped_of (codes "\"") text) place text

unfoldable pub scalar_at : Place → List ℕ → Option (List ℕ × List ℕ)
scalar_at place text = single_or_other (stripped_of (codes "'") text) place text
