-- Flow collections: `[a, b]` and `{a: b, c: d}` of scalars, `[]` and `{}` (YAML's flow sequences and mappings, not nested).
use Rattle.std.specs.Prelude.{◌≡◌, ℕ, List, [], ◌∷◌, ◌++◌, codes}
use Rattle.text_scan.specs.Lists.{ReadsAll}
use Rattle.yaml_block.specs.declared.scalar.Place.TheVariants.{Flow}
use Rattle.patch_text.specs.Parts.{AreSpaces}
use Rattle.patch_text.specs.Scalars.{IsScalar}

-- the text is spaces, the scalar, spaces, and then the rest
pub record IsMember (scalar text rest : List ℕ) : Type 0 where
  pub before : List ℕ
  pub inside : List ℕ
  pub behind : List ℕ
  pub before_spaces : AreSpaces before
  pub behind_spaces : AreSpaces behind
  pub opens : text ≡ before ++ inside
  pub scalar_there : IsScalar Flow scalar inside (behind ++ rest)

-- the text is a key, `: `, its value, and then the rest
abbrev pub IsPair : List ℕ × List ℕ → List ℕ → List ℕ → Type 0
IsPair pair text rest = (middle : List ℕ) × IsMember pair.0 text (codes ": " ++ middle) × IsMember pair.1 middle rest

-- the text is a comma, the member, and then the rest
abbrev pub IsNext : {X : Type 0} → (X → List ℕ → List ℕ → Type 0) → X → List ℕ → List ℕ → Type 0
IsNext Is x text rest = (inside : List ℕ) × (text ≡ codes "," ++ inside) × Is x inside rest

-- the text is spaces, or members with commas between them, and then the rest
abbrev pub AreMembers : {X : Type 0} → (X → List ℕ → List ℕ → Type 0) → List X → List ℕ → List ℕ → Type 0
AreMembers Is [] text rest = (gap : List ℕ) × AreSpaces gap × (text ≡ gap ++ rest)
AreMembers Is (first ∷ others) text rest = (middle : List ℕ) × Is first text middle × ReadsAll (IsNext Is) others middle rest

-- behind `[`: the scalars, `]`, and then the rest
abbrev pub IsFlowList : List (List ℕ) → List ℕ → List ℕ → Type 0
IsFlowList scalars text rest = AreMembers IsMember scalars text (codes "]" ++ rest)

-- behind `{`: the keys with their values, `}`, and then the rest
abbrev pub IsFlowMapping : List (List ℕ × List ℕ) → List ℕ → List ℕ → Type 0
IsFlowMapping pairs text rest = AreMembers IsPair pairs text (codes "}" ++ rest)
