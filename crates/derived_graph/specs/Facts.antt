-- What holds of the graph of a described device that isn't refused: it unfolds to the tree of a derived one.
use Rattle.std.specs.Prelude.{◌≡◌, ℕ, ◌<◌, List, length, Option, None}
use Rattle.derived_graph.specs.Graphs.{Child, IsGraph, TellsSources, NeedsSources, unfolded}
use Rattle.derived_graph.specs.Nesting.{IsNested}
use Rattle.derived_rows.specs.Deriving.{derived_rows}
use Rattle.derived_rows.specs.Faults.{IsFaultless, step_limit}
use Rattle.need_order.specs.Needs.{IsOrder}
use Rattle.svd_model.specs.Facts.{IsFolded, IsPlaced, IsPlacedOrDerived}
use Rattle.svd_model.specs.Keys.{Key}
use Rattle.svd_model.specs.Stating.{paths_of}
use Rattle.svd_model.specs.Steps.{Step}
use Rattle.svd_rows.specs.Forest.{Tree}
use Rattle.svd_rows.specs.Rows.{rows}

-- the rows are the derived ones, siblings are told apart, each field has an offset, and there aren't too many elements
abbrev pub GraphIsDerived : Type 0
GraphIsDerived =
    (tree : Tree Step Key) (found : List (Option ℕ)) (needs : ℕ → List ℕ) (order : List ℕ) (keys : ℕ → List Key) (children : ℕ → List Child)
    → IsFolded IsPlacedOrDerived tree → IsNested None tree.below → IsFaultless (rows tree)
    → TellsSources (rows tree) found → NeedsSources found needs → IsOrder needs (length (paths_of (rows tree))) order → IsGraph (rows tree) found keys children
    → (levels : ℕ) → step_limit < levels
    → (rows (unfolded keys children levels 0) ≡ derived_rows (rows tree)) × IsFolded IsPlaced (unfolded keys children levels 0)
