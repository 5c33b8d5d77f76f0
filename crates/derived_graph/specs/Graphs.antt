-- The graph of derived elements: for each element of a description, by its number, its keys after deriving and its
-- children, each a whole element of the description under a step. No children of children are ever merged, so that the
-- derived tree is this graph, unfolded.
use Rattle.std.specs.Prelude.{◌≡◌, ℕ, ◌+◌, ◌<◌, true, cond, List, [], ◌∷◌, map, length, get_or, Option, None, Some, option_map}
use Rattle.derived_rows.specs.Merging.{is_marked_at, taken, children_by}
use Rattle.derived_rows.specs.Sources.{kind_at, source_of}
use Rattle.need_order.specs.Levels.{by_levels}
use Rattle.need_order.specs.Needs.{among}
use Rattle.svd_model.specs.Keys.{Key}
use Rattle.svd_model.specs.Stating.{keys_at, paths_of}
use Rattle.svd_model.specs.Steps.{Step, Kind, same_step}
use Rattle.svd_rows.specs.Forest.{Tree, leaf, siblings}
use Rattle.svd_rows.specs.Rows.{Row}

-- flat rows of a description
abbrev pub Rows : Type 0
Rows = List (Row Step Key)

-- the path of the element of a number, in document order; the device is 0
abbrev pub path_at : Rows → ℕ → List Step
path_at all e = get_or (paths_of all) e []

-- ---- own children

-- the last step of a path that is one step longer than another, and begins as that one
unfoldable pub step_below : List Step → List Step → Option Step
step_below [] [] = None
step_below [] (step ∷ []) = Some step
step_below [] (step ∷ next ∷ path) = None
step_below (step ∷ path) [] = None
step_below (step ∷ path) (other ∷ below) = cond (same_step step other) (step_below path below) None

-- a child: its step, and the number of its element
abbrev pub Child : Type 0
Child = Step × ℕ

abbrev pub with_child : Option Step → ℕ → List Child → List Child
with_child None n others = others
with_child (Some step) n others = (step, n) ∷ others

-- the children of the element of a path, where these are the paths from this number on
unfoldable pub children_among : List Step → ℕ → List (List Step) → List Child
children_among path n [] = []
children_among path n (other ∷ paths) = with_child (step_below path other) n (children_among path (n + 1) paths)

-- the children that an element has of its own, in document order
abbrev pub own_children : Rows → ℕ → List Child
own_children all e = children_among (path_at all e) 0 (paths_of all)

-- ---- the graph

-- the number of the source of an element, where these are those of all
abbrev pub source_at : List (Option ℕ) → ℕ → Option ℕ
source_at found e = get_or found e None

-- the keys of an element, where these are its own and those of its source, if it has one
abbrev pub keys_from : List Step → List Key → Option (List Key) → List Key
keys_from path own None = own
keys_from path own (Some source) = taken (is_marked_at path) own source

-- its children, where these are its own and those of its source, if it has one
abbrev pub children_from : Option Kind → List Child → Option (List Child) → List Child
children_from kind own None = own
children_from kind own (Some source) = children_by kind source own

-- these are the keys and the children of each element, where these are the sources of all
pub record IsGraph (all : Rows) (found : List (Option ℕ)) (keys : ℕ → List Key) (children : ℕ → List Child) : Type 0 where
  pub keys_are : (e : ℕ) → e < length (paths_of all) → keys e ≡ keys_from (path_at all e) (keys_at all (path_at all e)) (option_map keys (source_at found e))
  pub children_are : (e : ℕ) → e < length (paths_of all) → children e ≡ children_from (kind_at (path_at all e)) (own_children all e) (option_map children (source_at found e))

-- these are the numbers of the sources of all elements, in document order
abbrev pub TellsSources : Rows → List (Option ℕ) → Type 0
TellsSources all found = map (option_map (path_at all)) found ≡ map (source_of all) (paths_of all)

-- each element needs its source
abbrev pub NeedsSources : List (Option ℕ) → (ℕ → List ℕ) → Type 0
NeedsSources found needs = (e s : ℕ) → source_at found e ≡ Some s → among s (needs e) ≡ true

-- ---- the tree

-- an element with these children, each as it is told
abbrev pub grown : (ℕ → List Key) → (ℕ → List Child) → (ℕ → Tree Step Key) → ℕ → Tree Step Key
grown keys children below e = record { keys = keys e; below = siblings (map (λ child. (child.0, below child.1)) (children e)) }

abbrev pub nothing : Tree Step Key
nothing = record { keys = []; below = leaf }

-- the tree of an element, so many levels down
abbrev pub unfolded : (ℕ → List Key) → (ℕ → List Child) → ℕ → ℕ → Tree Step Key
unfolded keys children = by_levels (grown keys children) nothing
