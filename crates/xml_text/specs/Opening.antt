-- What may stand before the parts of a description: a byte order mark, and behind white space a declaration (XML 1.0), each of them once or not at all.
use Rattle.std.specs.Prelude.{◌≡◌, ◌≢◌, ◌⊎◌, ℕ, List, [], ◌∷◌, ◌++◌, codes}
use Rattle.text_scan.specs.Follows.{Follows}
use Rattle.xml_text.specs.Marks.{EndsAtFirst}

-- the mark, in UTF-8
unfoldable pub byte_order_mark : List ℕ
byte_order_mark = 239 ∷ 187 ∷ 191 ∷ []

abbrev pub IsUnmarked : List ℕ → List ℕ → Type 0
IsUnmarked text rest = (text ≡ byte_order_mark ++ rest) ⊎ ((text ≡ rest) × ((behind : List ℕ) → text ≢ byte_order_mark ++ behind))

pub record IsDeclaration (text rest : List ℕ) : Type 0 where
  pub inside : List ℕ
  pub opens : Follows (codes "<?xml") text inside
  pub closes : EndsAtFirst (codes "?>") inside rest

abbrev pub IsUndeclared : List ℕ → List ℕ → Type 0
IsUndeclared text rest = IsDeclaration text rest ⊎ ((text ≡ rest) × ((inside : List ℕ) → Follows (codes "<?xml") text inside → ⊥))

-- `IsOpening text rest`: the rest is what the parts of the text begin with
pub record IsOpening (text rest : List ℕ) : Type 0 where
  pub behind : List ℕ
  pub mark : IsUnmarked text behind
  pub declaration : IsUndeclared behind rest
