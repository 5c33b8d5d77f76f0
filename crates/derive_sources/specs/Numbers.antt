-- The elements of a description by numbers, in document order; the device is 0.
use Rattle.std.specs.Prelude.{◌≡◌, ℕ, ◌+◌, ◌<◌, Bool, true, false, ◌&&◌, not, nat_eq, List, [], ◌∷◌, ◌++◌, map, length, get_or, Option, None, Some, option_and_then, ⊤}
use Rattle.std.specs.List.{IsDistinct, position_from}
use Rattle.std.specs.Str.{bytes_eq}
use Rattle.derived_rows.specs.Dependence.{same_path}
use Rattle.derived_rows.specs.Sources.{stated_source, source_names}
use Rattle.pac_base.specs.declared.path.Step.{Step as Written}
use Rattle.svd_model.specs.Keys.{Key}
use Rattle.svd_model.specs.Stating.{value_of, paths_of}
use Rattle.svd_model.specs.Steps.{Step, Kind, set, same_kind}
use Rattle.svd_rows.specs.Forest.{Forest, Tree, leaf, node}
use Rattle.svd_rows.specs.Rows.{Row}

-- flat rows of a description
abbrev pub Rows : Type 0
Rows = List (Row Step Key)

-- an element: the number of its parent, its kind, its written name, and the names that it gives of its source; the
-- device has no parent, no kind and the empty name
pub record Item : Type 0 where
  pub parent : Option ℕ
  pub kind : Option Kind
  pub name : List ℕ
  pub names : Option (List Written)

abbrev pub item_of : ℕ → Step → List Key → Item
item_of parent step keys =
    record { parent = Some parent; kind = Some step.kind; name = step.name; names = value_of stated_source keys }

abbrev pub top_item : List Key → Item
top_item keys = record { parent = None; kind = None; name = []; names = value_of stated_source keys }

-- what stands for an element that isn't there
abbrev pub no_item : Item
no_item = record { parent = None; kind = None; name = []; names = None }

-- siblings and all below them, the first of which has this number
unfoldable pub items_in : ℕ → ℕ → Forest Step Key → List Item
items_in parent n leaf = []
items_in parent n (node step keys children siblings) =
    item_of parent step keys ∷ (items_in n (n + 1) children ++ items_in parent ((n + 1) + length (items_in n (n + 1) children)) siblings)

-- all elements of a tree
unfoldable pub items_of : Tree Step Key → List Item
items_of tree = top_item tree.keys ∷ items_in 0 1 tree.below

-- ---- numbers and paths

-- the path of the element of a number
abbrev pub path_at : List (Row Step Key) → ℕ → List Step
path_at all e = get_or (paths_of all) e []

-- the element of a number
abbrev pub item_at : List Item → ℕ → Item
item_at items e = get_or items e no_item

-- a path that is one step below that of an element before
pub record IsBelow (before : List (List Step)) (parent : ℕ) (path : List Step) (item : Item) : Type 0 where
  pub step : Step
  pub earlier : parent < length before
  pub is : path ≡ get_or before parent [] ++ step ∷ []
  pub kind : item.kind ≡ Some step.kind
  pub name : item.name ≡ step.name

abbrev pub IsTop : List Step → Item → Type 0
IsTop path item = (path ≡ []) × (item.kind ≡ None) × (item.name ≡ [])

abbrev pub Stands : List (List Step) → List Step → Item → Option ℕ → Type 0
Stands before path item None = IsTop path item
Stands before path item (Some parent) = IsBelow before parent path item

-- the path of each element is that of its parent, which stands before it, and its own step; the device has the empty one
unfoldable pub Follow : List (List Step) → List (List Step) → List Item → Type 0
Follow before [] [] = ⊤
Follow before (path ∷ paths) (item ∷ items) = Stands before path item item.parent × Follow (before ++ path ∷ []) paths items
Follow before [] (item ∷ items) = ⊥
Follow before (path ∷ paths) [] = ⊥

-- the elements of flat rows have these numbers
pub record AreNumbered (all : List (Row Step Key)) (items : List Item) : Type 0 where
  pub follow : Follow [] (paths_of all) items
  pub names : map (λ item. item.names) items ≡ map (source_names all) (paths_of all)
  pub distinct : IsDistinct same_path (paths_of all)

-- ---- look-ups

abbrev pub is_number : ℕ → Option ℕ → Bool
is_number n None = false
is_number n (Some m) = nat_eq n m

abbrev pub is_set : Option Kind → Bool
is_set None = false
is_set (Some kind) = same_kind set kind

-- there is a kind, and it is this one
abbrev pub is_of_kind : Kind → Option Kind → Bool
is_of_kind kind None = false
is_of_kind kind (Some other) = same_kind kind other

-- the number of the parent of an item's parent
abbrev pub outer_of : List Item → Item → Option ℕ
outer_of items item = option_and_then (λ parent. (item_at items parent).parent) item.parent

abbrev pub set_owner : List Item → Bool → Item → Option ℕ
set_owner items true item = outer_of items item
set_owner items false item = None

-- the number of the element below which an item is sought by its name: its parent; or, where sets are sought in all
-- fields of a register, the parent of that, and none for any other item
abbrev pub owner_of : List Item → Bool → Item → Option ℕ
owner_of items true item = set_owner items (is_set item.kind) item
owner_of items false item = item.parent

-- there is a name, and it is this one
abbrev pub is_name : List ℕ → List ℕ → Bool
is_name text name = not (bytes_eq name []) && bytes_eq text name

-- the item is sought by this name below the element of a number
abbrev pub is_owned : List Item → Bool → ℕ → List ℕ → Item → Bool
is_owned items sets owner text item = is_number owner (owner_of items sets item) && is_name text item.name

-- the first item that is
unfoldable pub first_owned : List Item → Bool → ℕ → List ℕ → Option ℕ
first_owned items sets owner text = position_from (is_owned items sets owner text) 0 items
