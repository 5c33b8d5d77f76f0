-- What a text gives: a name, a pattern, the name of an array.
use Rattle.std.specs.Prelude.{◌≡◌, ℕ, Bool, false, ◌||◌, List, [], ◌∷◌, Option, Some, None, is_some}
use Rattle.text_scan.specs.Fronts.{stripped_of}
use Rattle.glob_select.specs.Items.{Item}
use Rattle.glob_select.specs.Refusals.{IsPattern}
use Rattle.glob_select.specs.Reading.{alternatives_of}
use Rattle.pac_base.specs.Names.{IsName, list_mark}
use Rattle.patch_form.specs.Forms.{NamesArray, array_name, first_alternative}

-- whether `%s` begins at some byte of the text
unfoldable pub has_mark : List ℕ → Bool
has_mark [] = false
has_mark (byte ∷ text) = is_some (stripped_of list_mark (byte ∷ text)) || has_mark text

abbrev pub IsNameOf : List ℕ → Option (List ℕ) → Type 0
IsNameOf text None = ¬ (IsName text)
IsNameOf text (Some name) = (name ≡ text) × IsName text

abbrev pub IsPatternOf : List ℕ → Option (List (List Item)) → Type 0
IsPatternOf text None = ¬ (IsPattern text)
IsPatternOf text (Some pattern) = (pattern ≡ alternatives_of text) × IsPattern text

abbrev pub IsArrayNameOf : List ℕ → Option (List ℕ) → Type 0
IsArrayNameOf text None = ¬ (NamesArray text)
IsArrayNameOf text (Some name) = (name ≡ array_name (first_alternative (alternatives_of text))) × NamesArray text
