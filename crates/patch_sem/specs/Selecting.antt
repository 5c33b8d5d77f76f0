-- Which children of an element a pattern or a name of a patch selects (svdtools' patch commands, narrowed). The rows
-- are those of the element, seen from it.
use Rattle.std.specs.Prelude.{ℕ, Bool, true, false, ◌&&◌, List, [], ◌∷◌, filter, Option, None, Some}
use Rattle.std.specs.Str.{bytes_eq}
use Rattle.glob_select.specs.Matching.{matches}
use Rattle.patch_model.specs.Acts.{PatternItems}
use Rattle.svd_model.specs.Keys.{Key}
use Rattle.svd_model.specs.Steps.{Step, Kind, peripheral, cluster, register, field, set, value}
use Rattle.svd_rows.specs.LookUps.{children_of}
use Rattle.svd_rows.specs.Rows.{Row}

abbrev pub Rows : Type 0
Rows = List (Row Step Key)

-- is it an element that patches know? Sets of enumerated values, and the values, are none
abbrev pub is_patched : Kind → Bool
is_patched peripheral = true
is_patched cluster = true
is_patched register = true
is_patched field = true
is_patched set = false
is_patched value = false

-- is it a child that the pattern matches?
unfoldable pub selects : PatternItems → Step → Bool
selects pattern step = is_patched step.kind && matches pattern step.name

-- is it a child of this written name?
unfoldable pub is_named : List ℕ → Step → Bool
is_named name step = is_patched step.kind && bytes_eq name step.name

-- the children that the pattern matches, in document order
abbrev pub selected : PatternItems → Rows → List Step
selected pattern all = filter (selects pattern) (children_of all)

-- the kind of the last step, or this one where there is none
unfoldable pub last_kind : Option Kind → List Step → Option Kind
last_kind kind [] = kind
last_kind kind (step ∷ below) = last_kind (Some step.kind) below

-- the kind of the element of a path; the device has none
abbrev pub kind_at : List Step → Option Kind
kind_at path = last_kind None path
