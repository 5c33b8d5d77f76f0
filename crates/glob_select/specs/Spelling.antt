-- Which texts are patterns, and what they say (the patterns of patches: this project's own rule, after the shell's).
use Rattle.std.specs.Prelude.{◌≡◌, ◌≢◌, ℕ, ◌<◌, true, List, [], ◌∷◌, ◌++◌}
use Rattle.text_scan.specs.Lists.{ReadsAll}
use Rattle.glob_select.specs.declared.member.Member.{Member}
use Rattle.glob_select.specs.declared.member.Member.TheVariants.{Alone, Between}
use Rattle.glob_select.specs.Bytes.{is_name_byte, AreSpaces}
use Rattle.glob_select.specs.Items.{Item}
use Rattle.glob_select.specs.Items.Item.{Exactly, Mark, Star, AnyByte, OneOf}

abbrev pub IsNameByte : ℕ → Type 0
IsNameByte byte = is_name_byte byte ≡ true

-- the three bytes behind the bracket of `[%s]`
abbrev pub mark_inside : List ℕ
mark_inside = 37 ∷ 115 ∷ 93 ∷ []

-- the text is the member, and then the rest: a name byte, or two of them, the second greater, with `-` between
abbrev pub SpellsMember : Member → List ℕ → List ℕ → Type 0
SpellsMember (Alone byte) text rest = IsNameByte byte × (text ≡ byte ∷ rest)
SpellsMember (Between first last) text rest = IsNameByte first × IsNameByte last × (first < last) × (text ≡ first ∷ 45 ∷ last ∷ rest)

-- The text is `[`, the members, `]`, and then the rest. At least one member stands there, and `[%s]` is no class.
pub record SpellsClass (members : List Member) (text rest : List ℕ) : Type 0 where
  pub inside : List ℕ
  pub opens : text ≡ 91 ∷ inside
  pub spelled : ReadsAll SpellsMember members inside (93 ∷ rest)
  pub some : members ≢ []
  pub no_mark : (other : List ℕ) → inside ≢ mark_inside ++ other

-- the text is the item, and then the rest
abbrev pub SpellsItem : Item → List ℕ → List ℕ → Type 0
SpellsItem (Exactly byte) text rest = IsNameByte byte × (text ≡ byte ∷ rest)
SpellsItem Mark text rest = text ≡ 91 ∷ (mark_inside ++ rest)
SpellsItem Star text rest = text ≡ 42 ∷ rest
SpellsItem AnyByte text rest = text ≡ 63 ∷ rest
SpellsItem (OneOf members) text rest = SpellsClass members text rest

-- the text is spaces, at least one item, spaces, and then the rest
pub record SpellsAlternative (items : List Item) (text rest : List ℕ) : Type 0 where
  pub before : List ℕ
  pub after : List ℕ
  pub middle : List ℕ
  pub before_spaces : AreSpaces before
  pub after_spaces : AreSpaces after
  pub opens : text ≡ before ++ middle
  pub spelled : ReadsAll SpellsItem items middle (after ++ rest)
  pub some : items ≢ []

-- the text is the alternative, a comma, and then the rest
abbrev pub SpellsLed : List Item → List ℕ → List ℕ → Type 0
SpellsLed items text rest = SpellsAlternative items text (44 ∷ rest)

-- the text is the alternatives, with commas between them
pub record SpellsPattern (alternatives : List (List Item)) (text : List ℕ) : Type 0 where
  pub led : List (List Item)
  pub last : List Item
  pub rest : List ℕ
  pub whole : alternatives ≡ led ++ (last ∷ [])
  pub leading : ReadsAll SpellsLed led text rest
  pub closing : SpellsAlternative last rest []
