-- A block of a text behind white space. `Follows block text rest`: the text is white space, then the block, and then the rest.
use Rattle.std.specs.Prelude.{◌≡◌, ℕ, List, ◌++◌, Option}
use Rattle.text_scan.specs.declared.class.Class.TheVariants.{Blank}
use Rattle.text_scan.specs.Classes.{has}
use Rattle.text_scan.specs.Fronts.{Passes, rest_of, stripped_of}

pub record Follows (block text rest : List ℕ) : Type 0 where
  pub gap : List ℕ
  pub white : Passes (has Blank) gap
  pub whole : text ≡ gap ++ (block ++ rest)

-- what follows the block, where it stands behind white space at the front of the text
unfoldable pub after_block : List ℕ → List ℕ → Option (List ℕ)
after_block block text = stripped_of block (rest_of (has Blank) text)
