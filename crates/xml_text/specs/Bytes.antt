-- Which bytes stand in names, in text, in the values of attributes and in references (XML 1.0, names in ASCII alone).
use Rattle.std.specs.Prelude.{ℕ, Bool, not, ◌&&◌, ◌||◌, ◌==◌, List, [], ◌∷◌}
use Rattle.text_scan.specs.Classes.{is_between}
use Rattle.xml_text.specs.declared.quote.Quote.{Quote}
use Rattle.xml_text.specs.declared.quote.Quote.TheVariants.{Double, Single}
use Rattle.xml_text.specs.declared.run.Run.{Run}
use Rattle.xml_text.specs.declared.run.Run.TheVariants.{Name, Text, Value, Reference}

-- a letter or `_`
abbrev pub is_name_start : ℕ → Bool
is_name_start byte = is_between 65 90 byte || is_between 97 122 byte || (byte == 95)

-- that, a digit, `.`, `:` or `-`
abbrev pub is_name_byte : ℕ → Bool
is_name_byte byte = is_name_start byte || is_between 48 57 byte || (byte == 46) || (byte == 58) || (byte == 45)

-- `"` or `'`
abbrev pub quote_byte : Quote → ℕ
quote_byte Double = 34
quote_byte Single = 39

-- that byte as a text
unfoldable pub mark_of : Quote → List ℕ
mark_of Double = 34 ∷ []
mark_of Single = 39 ∷ []

-- The bytes of a run. Text has neither `<` nor `&`; a value has neither `<` nor its own quote; a reference ends at its `;`.
unfoldable pub is_in : Run → ℕ → Bool
is_in Name byte = is_name_byte byte
is_in Text byte = not (byte == 60) && not (byte == 38)
is_in (Value quote) byte = not (byte == 60) && not (byte == quote_byte quote)
is_in Reference byte = not (byte == 59)
