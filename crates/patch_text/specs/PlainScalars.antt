-- Which texts are plain scalars, and where a plain scalar ends (YAML's plain scalars, narrowed to one line).
use Rattle.std.specs.Prelude.{◌≡◌, ◌≢◌, ◌⊎◌, ℕ, true, List, [], ◌∷◌, ◌++◌, codes}
use Rattle.std.specs.Str.{is_utf8}
use Rattle.yaml_block.specs.declared.scalar.Place.{Place}
use Rattle.yaml_block.specs.declared.scalar.Place.TheVariants.{Line, Flow}
use Rattle.patch_text.specs.Parts.{Holds, BeginsWith, EndsWith, AreSpaces, IsComment}

-- no plain scalar begins with one of these
abbrev pub indicators : List ℕ
indicators = codes "-?:,[]{}#&*!|>'\"%@`"

-- a plain scalar in a flow collection holds none of these
abbrev pub flow_marks : List ℕ
flow_marks = codes ",[]{}"

abbrev pub IsAmong : List ℕ → ℕ → Type 0
IsAmong bytes byte = Holds (byte ∷ []) bytes

abbrev pub HoldsNoMark : Place → List ℕ → Type 0
HoldsNoMark Line text = Unit {0}
HoldsNoMark Flow text = (byte : ℕ) → IsAmong flow_marks byte → ¬ Holds (byte ∷ []) text

-- The text isn't empty, doesn't begin with an indicator, holds no `: ` and no ` #`, and doesn't end in `:`; in a flow collection it holds no
-- mark. A tab outside quotes and comments is refused, spaces round a scalar are no part of it, and the bytes are UTF-8.
pub record IsPlain (place : Place) (text : List ℕ) : Type 0 where
  pub some : text ≢ []
  pub front : (byte : ℕ) → IsAmong indicators byte → ¬ BeginsWith (byte ∷ []) text
  pub no_entry : ¬ Holds (codes ": ") text
  pub no_comment : ¬ Holds (codes " #") text
  pub no_key : ¬ EndsWith (codes ":") text
  pub no_tab : ¬ Holds (codes "\t") text
  pub no_space_before : ¬ BeginsWith (codes " ") text
  pub no_space_behind : ¬ EndsWith (codes " ") text
  pub no_mark : HoldsNoMark place text
  pub utf8 : is_utf8 text ≡ true

-- the text begins with a mark of flow collections, where the scalar stands in one
abbrev pub BeginsWithMark : Place → List ℕ → Type 0
BeginsWithMark Line text = ⊥
BeginsWithMark Flow text = (byte : ℕ) × IsAmong flow_marks byte × BeginsWith (byte ∷ []) text

-- where a plain scalar doesn't go on: at the end, at `: `, at a colon that ends the text, at a comment, at a mark, at a tab, which fits nowhere
abbrev pub StopsPlain : Place → List ℕ → Type 0
StopsPlain place text =
    (text ≡ []) ⊎ (BeginsWith (codes ": ") text ⊎ ((text ≡ codes ":") ⊎ (IsComment text
    ⊎ (BeginsWithMark place text ⊎ BeginsWith (codes "\t") text))))

-- the text is spaces, the plain scalar, spaces, and then the rest, which the scalar doesn't go on into
pub record BeginsWithPlain (place : Place) (scalar text rest : List ℕ) : Type 0 where
  pub before : List ℕ
  pub behind : List ℕ
  pub before_spaces : AreSpaces before
  pub behind_spaces : AreSpaces behind
  pub whole : text ≡ before ++ (scalar ++ (behind ++ rest))
  pub plain : IsPlain place scalar
  pub stops : StopsPlain place rest
