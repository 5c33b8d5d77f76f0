-- What a description's bytes are answered with: that they spell no description, that elements nest too deep, the fault of least place, that
-- there are too many elements, or the rows (this project's own order).
use Rattle.std.specs.Prelude.{◌≡◌, ℕ, nat_le, List, Option, Some, None, if◌then◌else◌}
use Rattle.svd_schema.specs.declared.container.Container.TheVariants.{Device}
use Rattle.svd_text.specs.ElementText.{Text, Spells}
use Rattle.svd_text.specs.Nesting.{first_too_deep}
use Rattle.svd_text.specs.TextElements.{elements_of}
use Rattle.svd_model.specs.Facts.{element_limit, is_counted}
use Rattle.svd_model.specs.Keys.{Key}
use Rattle.svd_model.specs.Steps.{Step}
use Rattle.svd_rows.specs.Elements.{count}
use Rattle.svd_rows.specs.Rows.{Row, rows}
use Rattle.svd_keys.specs.declared.fault.Fault.{Fault}
use Rattle.svd_keys.specs.declared.fault.PlacedFault.{PlacedFault}
use Rattle.svd_keys.specs.Children.{Tree}
use Rattle.svd_keys.specs.Earliest.{least}
use Rattle.svd_reader.specs.DescribedTree.{RowTree, described_tree}
use Rattle.svd_reader.specs.Faults.{faults_of}

pub data Answer : Type 0 where
  no_text : Answer
  too_deep : (name : ℕ × ℕ) → Answer
  at_fault : (fault : Fault) → Answer
  too_many : (elements : ℕ) → Answer
  described : (rows : List (Row Step Key)) → Answer

-- the rows, where there aren't too many elements
unfoldable pub counted : RowTree → Answer
counted tree = if nat_le (count is_counted tree.below) element_limit then described (rows tree) else too_many (count is_counted tree.below)

abbrev pub unless_fault : Option PlacedFault → Answer → Answer
unless_fault (Some fault) answer = at_fault fault.fault
unless_fault None answer = answer

abbrev pub unless_deep : Option (ℕ × ℕ) → Answer → Answer
unless_deep (Some name) answer = too_deep name
unless_deep None answer = answer

-- the answer to a device that doesn't nest too deep
unfoldable pub answer_in : Tree → Answer
answer_in tree = unless_fault (least (faults_of Device tree)) (counted (described_tree tree))

-- the answer to a text
unfoldable pub answer_of : Text → Answer
answer_of text = unless_deep (first_too_deep text) (answer_in (elements_of text))

-- `HasAnswer bytes answer`: this is the answer to the bytes
abbrev pub HasAnswer : List ℕ → Answer → Type 0
HasAnswer bytes no_text = (text : Text) → Spells bytes text → ⊥
HasAnswer bytes answer = (text : Text) × Spells bytes text × (answer_of text ≡ answer)
