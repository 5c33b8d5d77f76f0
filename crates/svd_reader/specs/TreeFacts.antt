-- What holds of the tree of a description in which nothing is at fault, apart from how many elements it has.
use Rattle.svd_model.specs.Facts.{IsElement, IsPlacedOrDerived}
use Rattle.svd_model.specs.Steps.{same_key}
use Rattle.svd_rows.specs.Elements.{IsDistinct, Every}
use Rattle.svd_reader.specs.DescribedTree.{RowTree}

-- siblings are told apart by their names, and each element has its form
pub record HasFacts (tree : RowTree) : Type 0 where
  pub distinct : IsDistinct same_key tree.below
  pub elements : Every (IsElement IsPlacedOrDerived) tree.below
