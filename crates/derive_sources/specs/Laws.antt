-- What holds of the numbers of elements.
use Rattle.derive_sources.specs.Numbers.{AreNumbered, items_of}
use Rattle.svd_model.specs.Keys.{Key}
use Rattle.svd_model.specs.Steps.{Step, same_step}
use Rattle.svd_rows.specs.Elements.{IsDistinct}
use Rattle.svd_rows.specs.Forest.{Tree}
use Rattle.svd_rows.specs.Rows.{rows}

-- the elements of a tree, as a walk meets them, have the numbers of their paths in document order, and no path stands
-- twice
abbrev pub TreesAreNumbered : Type 0
TreesAreNumbered = (tree : Tree Step Key) → IsDistinct same_step tree.below → AreNumbered (rows tree) (items_of tree)
