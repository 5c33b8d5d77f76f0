-- What the graph of derived elements comes to.
use Rattle.std.specs.Prelude.{◌≡◌, ℕ, ◌<◌, List, [], map, length, Option, None}
use Rattle.std.specs.List.{IsDistinct}
use Rattle.derived_rows.specs.Dependence.{HasNoCircle}
use Rattle.derived_rows.specs.Deriving.{derived_rows}
use Rattle.derived_rows.specs.Faults.{first_deep, step_limit}
use Rattle.derived_graph.specs.Graphs.{Rows, Child, path_at, IsGraph, TellsSources, NeedsSources, unfolded}
use Rattle.need_order.specs.Needs.{IsOrder}
use Rattle.svd_model.specs.Keys.{Key}
use Rattle.svd_model.specs.Stating.{paths_of}
use Rattle.svd_model.specs.Steps.{same_step}
use Rattle.svd_rows.specs.Rows.{rows}

-- the children of each element have different steps
abbrev pub AreApart : ℕ → (ℕ → List Child) → Type 0
AreApart n children = (e : ℕ) → e < n → IsDistinct same_step (map (λ child. child.0) (children e))

-- Where no circle and no peripheral below which elements nest too deep stand, the derived rows of a description are the
-- rows of its graph, unfolded one level more than paths may have steps.
abbrev pub GraphUnfolds : Type 0
GraphUnfolds =
    (all : Rows) (found : List (Option ℕ)) (needs : ℕ → List ℕ) (order : List ℕ) (keys : ℕ → List Key) (children : ℕ → List Child)
    → HasNoCircle all → TellsSources all found → NeedsSources found needs → IsOrder needs (length (paths_of all)) order
    → IsGraph all found keys children → AreApart (length (paths_of all)) children
    → path_at all 0 ≡ [] → 0 < length (paths_of all) → first_deep all ≡ None
    → (levels : ℕ) → step_limit < levels → rows (unfolded keys children levels 0) ≡ derived_rows all
