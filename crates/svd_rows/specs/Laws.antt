-- What the laws of this crate say, each as one statement over all trees whose elements have steps of the
-- type S and keys of the type K.
use Rattle.std.specs.Prelude.{◌≡◌, ℕ, ◌+◌, ◌<◌, Bool, cond, not, List, [], ◌∷◌, ◌++◌, map, filter, flat_map, length, set, Option, Some, None}
use Rattle.svd_rows.specs.Edits.{within, in_children, planted, replaced, renamed, without_children, with_renamed, with_children, with_replaced, with_keys}
use Rattle.svd_rows.specs.Elements.{found, child_at, element_at, IsDistinct, count}
use Rattle.svd_rows.specs.Forest.{Forest, Tree, leaf, join, siblings, steps}
use Rattle.svd_rows.specs.LookUps.{inside, keys_of, children_of, element_paths, is_element_of}
use Rattle.svd_rows.specs.Paths.{IsSame, exactly, is_within}
use Rattle.svd_rows.specs.Ranks.{IsRanked, IsPlaced, stated, set_key}
use Rattle.svd_rows.specs.Reading.{tree_of}
use Rattle.svd_rows.specs.RowEdits.{without, renamed_path, moved, added, exchanged, with_key}
use Rattle.svd_rows.specs.Rows.{forest_rows, rows, under, under_path}
use Rattle.svd_rows.specs.Standing.{Stands}

-- ---- a tree and its rows

-- the rows of siblings are those of the first ones, then those of the others
abbrev pub RowsOfSiblings : (S K : Type 0) → Type 0
RowsOfSiblings S K = (first others : Forest S K) → forest_rows (join first others) ≡ forest_rows first ++ forest_rows others

-- the rows of an element with later siblings are its own under its step, then theirs
abbrev pub RowsOfElement : (S K : Type 0) → Type 0
RowsOfElement S K =
    (step : S) (tree : Tree S K) (siblings : Forest S K) → forest_rows (planted step tree siblings) ≡ map (under step) (rows tree) ++ forest_rows siblings

-- the rows of a tree spell it
abbrev pub RowsSpellTree : (S K : Type 0) → Type 0
RowsSpellTree S K = (tree : Tree S K) → tree_of (rows tree) ≡ tree

-- two trees with equal rows are equal
abbrev pub EqualRowsEqualTrees : (S K : Type 0) → Type 0
EqualRowsEqualTrees S K = (tree other : Tree S K) → rows tree ≡ rows other → tree ≡ other

-- each element has one row that says that it is there
abbrev pub CountIsElementRows : (S K : Type 0) → Type 0
CountIsElementRows S K =
    (test : S → Bool) (tree : Tree S K) → length (filter (is_element_of test) (rows tree)) ≡ count test tree.below

-- ---- what the rows tell

-- the rows at and below the elements to which tests lead are the rows of these elements
abbrev pub RowsOfFound : (S K : Type 0) → Type 0
RowsOfFound S K =
    (tests : List (S → Bool)) (tree : Tree S K) → filter (is_within tests) (rows tree) ≡ flat_map (λ part. map (under_path part.0) (rows part.1)) (found tests tree)

-- the rows tell the paths of these elements, in document order
abbrev pub PathsOfFound : (S K : Type 0) → Type 0
PathsOfFound S K = (tests : List (S → Bool)) (tree : Tree S K) → element_paths tests (rows tree) ≡ map (λ part. part.0) (found tests tree)

-- the rows of an element tell its keys
abbrev pub KeysOfRows : (S K : Type 0) → Type 0
KeysOfRows S K = (tree : Tree S K) → keys_of (rows tree) ≡ tree.keys

-- the rows of an element tell its children
abbrev pub ChildrenOfRows : (S K : Type 0) → Type 0
ChildrenOfRows S K = (tree : Tree S K) → children_of (rows tree) ≡ steps tree.below

-- ---- edits wherever tests lead

-- taking children away is leaving out the rows at and below them
abbrev pub DeletionIsFilter : (S K : Type 0) → Type 0
DeletionIsFilter S K =
    (tests : List (S → Bool)) (test : S → Bool) (tree : Tree S K) → rows (within tests (without_children test) tree) ≡ without (tests ++ test ∷ []) (rows tree)

-- renaming children is changing one step in the paths of the rows at and below them
abbrev pub RenamingIsMap : (S K : Type 0) → Type 0
RenamingIsMap S K =
    (tests : List (S → Bool)) (new : S → S) (tree : Tree S K) → rows (within tests (with_renamed new) tree) ≡ map (moved (renamed_path tests new)) (rows tree)

-- ---- one element, where no two siblings have one step

-- a path names one element, whose rows stand together, and whose edit changes them alone
abbrev pub PathNamesOne : (S K : Type 0) → Type 0
PathNamesOne S K =
    (same : S → S → Bool) → IsSame same → (path : List S) (tree part : Tree S K) → IsDistinct same tree.below → element_at (exactly same path) tree ≡ Some part → Stands same path tree part

-- the rows at and below a path are those of the element there
abbrev pub RowsInside : (S K : Type 0) → Type 0
RowsInside S K =
    (same : S → S → Bool) → IsSame same → (path : List S) (tree part : Tree S K) → IsDistinct same tree.below → element_at (exactly same path) tree ≡ Some part → inside same path (rows tree) ≡ rows part

-- where no element is, there is no row
abbrev pub NoneInside : (S K : Type 0) → Type 0
NoneInside S K =
    (same : S → S → Bool) → IsSame same → (path : List S) (tree : Tree S K) → IsDistinct same tree.below → element_at (exactly same path) tree ≡ None → inside same path (rows tree) ≡ []

-- new children stand after all rows of their parent
abbrev pub AdditionIsBehind : (S K : Type 0) → Type 0
AdditionIsBehind S K =
    (same : S → S → Bool) → IsSame same → (path : List S) (more : Forest S K) (tree part : Tree S K) → Stands same path tree part → rows (within (exactly same path) (with_children more) tree) ≡ added (is_within (exactly same path)) (map (under_path path) (forest_rows more)) (rows tree)

-- elements that replace a child stand where its rows stood
abbrev pub ReplacementIsExchange : (S K : Type 0) → Type 0
ReplacementIsExchange S K =
    (same : S → S → Bool) → IsSame same → (path : List S) (step : S) (made : S → Tree S K → Forest S K) (tree part child : Tree S K) → Stands same path tree part → IsDistinct same part.below → child_at (same step) part.below ≡ Some child → rows (within (exactly same path) (with_replaced (same step) made) tree) ≡ exchanged (is_within (exactly same path ++ same step ∷ [])) (map (under_path path) (forest_rows (made step child))) (rows tree)

-- setting a key replaces its row, or adds one after the element's rows of lower rank
abbrev pub SettingIsReplacement : (S K : Type 0) → Type 0
SettingIsReplacement S K =
    (same : S → S → Bool) → IsSame same → (rank : K → ℕ) (path : List S) (key : K) (tree part : Tree S K) → Stands same path tree part → IsRanked rank part.keys → rows (within (exactly same path) (with_keys (set_key rank key)) tree) ≡ with_key same rank path key (rows tree)

-- ---- keys by rank

-- keys that stand in places, one for each rank, stand by rising rank
abbrev pub PlacedIsRanked : (K : Type 0) → Type 0
PlacedIsRanked K = (rank : K → ℕ) (first : ℕ) (places : List (Option K)) → IsPlaced rank first places → IsRanked rank (stated places)

-- putting a key into its place is setting it by its rank
abbrev pub PuttingIsSetting : (K : Type 0) → Type 0
PuttingIsSetting K =
    (rank : K → ℕ) (first : ℕ) (new : K) (places : List (Option K)) (n : ℕ) → IsPlaced rank first places → n < length places → rank new ≡ first + n → stated (set places n (Some new)) ≡ set_key rank new (stated places)

-- ---- siblings in a list

-- an edit of the children that pass a test is one of each element of the list
abbrev pub EditOfEach : (S K : Type 0) → Type 0
EditOfEach S K =
    (test : S → Bool) (edit : Tree S K → Tree S K) (list : List (S × Tree S K)) → in_children test edit (siblings list) ≡ siblings (map (λ x. (x.0, cond (test x.0) (edit x.1) x.1)) list)

-- children that are taken away are taken out of the list
abbrev pub DeletionOfEach : (S K : Type 0) → Type 0
DeletionOfEach S K =
    (test : S → Bool) (list : List (S × Tree S K)) → replaced test (λ step child. leaf) (siblings list) ≡ siblings (filter (λ x. not (test x.0)) list)

-- children that are replaced by others are so in the list
abbrev pub ReplacementOfEach : (S K : Type 0) → Type 0
ReplacementOfEach S K =
    (test : S → Bool) (made : S → Tree S K → List (S × Tree S K)) (list : List (S × Tree S K)) → replaced test (λ step child. siblings (made step child)) (siblings list) ≡ siblings (flat_map (λ x. cond (test x.0) (made x.0 x.1) (x ∷ [])) list)

-- children under other steps are so in the list
abbrev pub RenamingOfEach : (S K : Type 0) → Type 0
RenamingOfEach S K =
    (new : S → S) (list : List (S × Tree S K)) → renamed new (siblings list) ≡ siblings (map (λ x. (new x.0, x.1)) list)

-- children that are added stand at the end of the list
abbrev pub AdditionOfEach : (S K : Type 0) → Type 0
AdditionOfEach S K = (list more : List (S × Tree S K)) → siblings (list ++ more) ≡ join (siblings list) (siblings more)
