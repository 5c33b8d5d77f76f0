-- Which elements another depends on when it is derived, and circles of that (this project's own rule).
use Rattle.std.specs.Prelude.{◌≡◌, Bool, true, List, [], ◌∷◌, ◌++◌, Option, None, Some, is_some, filter}
use Rattle.std.specs.List.{AllByRecursion}
use Rattle.std.specs.Set.{is_member}
use Rattle.derived_rows.specs.Sources.{child_paths, source_names, source_of}
use Rattle.svd_model.specs.Keys.{Key}
use Rattle.svd_model.specs.Stating.{paths_of}
use Rattle.svd_model.specs.Steps.{Step, same_step}
use Rattle.svd_rows.specs.Paths.{exactly, fits}
use Rattle.svd_rows.specs.Rows.{Row}

-- the two paths are equal
unfoldable pub same_path : List Step → List Step → Bool
same_path path other = fits (exactly same_step path) other

-- the path is one of these
abbrev pub IsAmong : List (List Step) → List Step → Type 0
IsAmong paths path = is_member same_path paths path ≡ true

abbrev pub listed : {A : Type 0} → Option A → List A
listed None = []
listed (Some x) = x ∷ []

-- an element depends on its source and on its children
unfoldable pub dependences : List (Row Step Key) → List Step → List (List Step)
dependences all path = listed (source_of all path) ++ child_paths all path

-- the first depends on the first of these, each of them on the next, and the last of them on the other end
unfoldable pub IsChain : List (Row Step Key) → List Step → List (List Step) → List Step → Type 0
IsChain all from [] to = IsAmong (dependences all from) to
IsChain all from (over ∷ others) to = IsAmong (dependences all from) over × IsChain all over others to

-- an element on a circle: it depends on itself, by way of others or at once
abbrev pub IsOnCircle : List (Row Step Key) → List Step → Type 0
IsOnCircle all path = (others : List (List Step)) × IsChain all path others path

-- no element is on a circle
abbrev pub HasNoCircle : List (Row Step Key) → Type 0
HasNoCircle all = (path : List Step) → IsAmong (paths_of all) path → IsOnCircle all path → ⊥

-- the elements that state a source, in document order
unfoldable pub deriving_paths : List (Row Step Key) → List (List Step)
deriving_paths all = filter (λ path. is_some (source_names all path)) (paths_of all)

-- the first element on a circle that states a source
pub record IsFirstOnCircle (all : List (Row Step Key)) (path : List Step) : Type 0 where
  pub before : List (List Step)
  pub after : List (List Step)
  pub stands : deriving_paths all ≡ before ++ (path ∷ after)
  pub circle : IsOnCircle all path
  pub first : AllByRecursion (λ other. IsOnCircle all other → ⊥) before
