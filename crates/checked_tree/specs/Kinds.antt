-- Which elements stand below which (CMSIS-SVD 1.3): a register has fields, a field sets of values, and a set values.
use Rattle.std.specs.Prelude.{◌≡◌, List, [], ◌∷◌, ⊤}
use Rattle.svd_model.specs.Keys.{Key}
use Rattle.svd_model.specs.Steps.{Step, Kind, field, set, value}
use Rattle.svd_rows.specs.Forest.{Forest, leaf, node}

-- the siblings are of the first kind, what is below them of the next one, and so on; nothing is below the last
unfoldable pub AreOf : List Kind → Forest Step Key → Type 0
AreOf [] siblings = siblings ≡ leaf
AreOf (kind ∷ below) leaf = ⊤
AreOf (kind ∷ below) (node step keys children others) = (step.kind ≡ kind) × AreOf below children × AreOf (kind ∷ below) others

-- fields, with nothing but values below them
abbrev pub AreFields : Forest Step Key → Type 0
AreFields siblings = AreOf (field ∷ set ∷ value ∷ []) siblings
