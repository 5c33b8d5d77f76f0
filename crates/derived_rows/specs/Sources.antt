-- From which element another is derived (CMSIS-SVD 1.3, `derivedFrom`). That names are followed from each element round
-- it, the nearest first, and that a set may be named in another field, are this project's own rules.
use Rattle.std.specs.Prelude.{Bool, true, ◌&&◌, not, List, [], ◌∷◌, ◌++◌, map, reverse, drop, Option, None, Some, option_and_then, if◌then◌else◌}
use Rattle.std.specs.List.{find}
use Rattle.std.specs.Option.{option_or}
use Rattle.std.specs.Str.{bytes_eq}
use Rattle.pac_base.specs.declared.path.Step.{Step as Written}
use Rattle.svd_model.specs.Keys.{Key, derived_from}
use Rattle.svd_model.specs.Properties.{nearest}
use Rattle.svd_model.specs.Stating.{value_of, keys_at, paths_of, ways_down, is_of}
use Rattle.svd_model.specs.Steps.{Step, Kind, set, same_kind, same_step}
use Rattle.svd_rows.specs.LookUps.{inside, children_of, ends_with}
use Rattle.svd_rows.specs.Paths.{exactly, fits}
use Rattle.svd_rows.specs.Rows.{Row}

-- the names that a key gives of a source
abbrev pub stated_source : Key → Option (List Written)
stated_source (derived_from path) = Some path
stated_source _ = None

-- the names that the element of a path gives of its source
abbrev pub source_names : List (Row Step Key) → List Step → Option (List Written)
source_names all path = value_of stated_source (keys_at all path)

-- ---- names that are followed

-- the step has this written name; a set without a name has the empty one, by which it can't be named
unfoldable pub has_name : Written → Step → Bool
has_name name step = not (bytes_eq step.name []) && bytes_eq name.name step.name

-- the steps of the children of the element of a path
abbrev pub children_at : List (Row Step Key) → List Step → List Step
children_at all path = children_of (inside same_step path all)

-- the paths of the children of the element of a path, in document order
unfoldable pub child_paths : List (Row Step Key) → List Step → List (List Step)
child_paths all path = map (λ child. path ++ child ∷ []) (children_at all path)

-- the path of the first child of this name
unfoldable pub named_child : List (Row Step Key) → Written → List Step → Option (List Step)
named_child all name path = find (fits (exactly same_step path ++ has_name name ∷ [])) (paths_of all)

-- where these names lead to from a path
unfoldable pub followed : List (Row Step Key) → List Written → List Step → Option (List Step)
followed all [] path = Some path
followed all (name ∷ names) path = option_and_then (followed all names) (named_child all name path)

-- the path, where it ends at an element of this kind
unfoldable pub of_kind : Kind → List Step → Option (List Step)
of_kind kind path = if ends_with (is_of kind) path then Some path else None

-- the element of this kind to which names lead from a path; no names lead nowhere
unfoldable pub reached : List (Row Step Key) → Kind → List Written → List Step → Option (List Step)
reached all kind [] path = None
reached all kind (name ∷ names) path = option_and_then (of_kind kind) (followed all (name ∷ names) path)

-- ---- sources

-- the elements round that of a path, from its parent out to the device
abbrev pub ancestors : List Step → List (List Step)
ancestors path = drop 1 (reverse (ways_down path))

-- the step is that of a set of this name
abbrev pub is_set_named : Written → Step → Bool
is_set_named name step = same_kind set step.kind && has_name name step

-- a set with one name is sought among all sets of its register too, in document order
unfoldable pub second_try : List (Row Step Key) → Kind → List Written → List (List Step) → Option (List Step)
second_try all set (name ∷ []) (parent ∷ outer ∷ others) =
    find (fits (exactly same_step outer ++ (λ step. true) ∷ is_set_named name ∷ [])) (paths_of all)
second_try all kind names around = None

-- the first element of this kind that names reach from those round an element
unfoldable pub source_among : List (Row Step Key) → Kind → List Written → List (List Step) → Option (List Step)
source_among all kind names around =
    option_or (nearest (map (reached all kind names) around)) (second_try all kind names around)

-- the kind of the element of a path; the device has none
unfoldable pub kind_at : List Step → Option Kind
kind_at [] = None
kind_at (step ∷ []) = Some step.kind
kind_at (step ∷ next ∷ path) = kind_at (next ∷ path)

-- the element of this kind that the names of an element reach, where there are a kind and names
abbrev pub sought_from : List (Row Step Key) → List Step → Option Kind → Option (List Written) → Option (List Step)
sought_from all path None names = None
sought_from all path (Some kind) None = None
sought_from all path (Some kind) (Some names) = source_among all kind names (ancestors path)

-- the element from which that of a path is derived
unfoldable pub source_of : List (Row Step Key) → List Step → Option (List Step)
source_of all path = sought_from all path (kind_at path) (source_names all path)
