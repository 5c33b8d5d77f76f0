-- What a line says: nothing, the mark `---`, or its content at its indent.
use Rattle.std.specs.Prelude.{◌≡◌, ◌⊎◌, ℕ, Bool, true, List, ◌++◌, length, codes}
use Rattle.std.specs.Str.{is_utf8}
use Rattle.yaml_block.specs.declared.line.Line.{Line}
use Rattle.yaml_block.specs.declared.line.Said.{Said}
use Rattle.yaml_block.specs.declared.line.Said.TheVariants.{Nothing, Mark, Told}
use Rattle.patch_text.specs.Parts.{AreSpaces, BeginsWith, IsEnd}
use Rattle.patch_text.specs.Contents.{IsContent}

-- the line is spaces, or `#` and any bytes behind spaces
abbrev pub SaysNothing : List ℕ → Type 0
SaysNothing raw = AreSpaces raw ⊎ ((gap : List ℕ) × (rest : List ℕ) × AreSpaces gap × BeginsWith (codes "#") rest × (raw ≡ gap ++ rest))

-- the line is `---`, and then nothing that counts
abbrev pub SaysMark : List ℕ → Type 0
SaysMark raw = (rest : List ℕ) × (raw ≡ codes "---" ++ rest) × IsEnd rest

-- the line is spaces, as many as its indent, and then its content
pub record SaysContent (number : ℕ) (raw : List ℕ) (line : Line) : Type 0 where
  pub gap : List ℕ
  pub text : List ℕ
  pub spaces : AreSpaces gap
  pub whole : raw ≡ gap ++ text
  pub numbered : line.number ≡ number
  pub indented : line.indent ≡ length gap
  pub content_there : IsContent line.content text

-- a line in UTF-8 says this, where `first` tells that no line before it said anything
abbrev pub Says : Bool → ℕ → List ℕ → Said → Type 0
Says first number raw Nothing = (is_utf8 raw ≡ true) × SaysNothing raw
Says first number raw Mark = (is_utf8 raw ≡ true) × (first ≡ true) × SaysMark raw
Says first number raw (Told line) = (is_utf8 raw ≡ true) × SaysContent number raw line
