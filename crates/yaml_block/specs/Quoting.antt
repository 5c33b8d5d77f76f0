-- Scalars within quotes, as they are spelled (YAML's single-quoted and double-quoted scalars with four escapes). The reader of quotes is held to this.
use Rattle.std.specs.Prelude.{◌≡◌, ◌≢◌, ◌⊎◌, ℕ, true, List, [], ◌∷◌, ◌++◌, Some, ◌==◌, if◌then◌else◌}
use Rattle.std.specs.Str.{is_utf8}
use Rattle.text_scan.specs.Lists.{ReadsAll}
use Rattle.yaml_block.specs.declared.quoted.Quote.{Quote}
use Rattle.yaml_block.specs.declared.quoted.Quote.TheVariants.{Single, Double}
use Rattle.yaml_block.specs.Scalars.{mark_of, closes, escaped}

-- How a byte is spelled: in single quotes as itself, but the quote twice; in double quotes as itself unless it is the quote or a backslash,
-- or by a backslash and a letter.
abbrev pub StandsFor : Quote → ℕ → List ℕ → Type 0
StandsFor Single byte spelled = spelled ≡ (if byte == 39 then 39 ∷ 39 ∷ [] else byte ∷ [])
StandsFor Double byte spelled = ((byte ≢ 34) × (byte ≢ 92) × (spelled ≡ byte ∷ [])) ⊎ ((letter : ℕ) × (escaped letter ≡ Some byte) × (spelled ≡ 92 ∷ letter ∷ []))

-- the text begins with a spelled byte
abbrev pub IsByte : Quote → ℕ → List ℕ → List ℕ → Type 0
IsByte quote byte text rest = (spelled : List ℕ) × StandsFor quote byte spelled × (text ≡ spelled ++ rest)

-- behind an opening quote: the bytes of a text as they are spelled, the closing quote, and the rest
pub record IsQuoted (quote : Quote) (bytes text rest : List ℕ) : Type 0 where
  pub inside : List ℕ
  pub spells : ReadsAll (IsByte quote) bytes text inside
  pub shuts : inside ≡ mark_of quote ++ rest
  pub closing : closes quote inside ≡ true
  pub utf8 : is_utf8 bytes ≡ true
