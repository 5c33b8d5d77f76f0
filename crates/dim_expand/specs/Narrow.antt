-- Siblings that are few after unfolding, so that the numbers that tell those of one name apart have 32 bits.
use Rattle.std.specs.Prelude.{◌^◌, ◌<◌, length, ⊤}
use Rattle.dim_expand.specs.Walks.{capped, unfolded_list}
use Rattle.svd_model.specs.Keys.{Key}
use Rattle.svd_model.specs.Steps.{Step, Kind, peripheral, cluster, register, field, set, value}
use Rattle.svd_rows.specs.Forest.{Forest, Tree, leaf, node}

-- these siblings are few
abbrev pub AreFew : Forest Step Key → Type 0
AreFew forest = length (unfolded_list capped forest) < 2 ^ 32

-- those below an element of this kind are, and so is all below them
abbrev pub NarrowBy : Kind → Forest Step Key → Type 0 → Type 0
NarrowBy peripheral children below = AreFew children × below
NarrowBy cluster children below = AreFew children × below
NarrowBy register children below = AreFew children
NarrowBy field children below = ⊤
NarrowBy set children below = ⊤
NarrowBy value children below = ⊤

-- below each of these siblings
unfoldable pub AreNarrow : Forest Step Key → Type 0
AreNarrow leaf = ⊤
AreNarrow (node step keys children others) = NarrowBy step.kind children (AreNarrow children) × AreNarrow others

-- below an element of this kind
abbrev pub IsNarrow : (Kind × Tree Step Key) → Type 0
IsNarrow element = NarrowBy element.0 element.1.below (AreNarrow element.1.below)

-- siblings, and all below them
abbrev pub IsNarrowForest : Forest Step Key → Type 0
IsNarrowForest forest = AreFew forest × AreNarrow forest
