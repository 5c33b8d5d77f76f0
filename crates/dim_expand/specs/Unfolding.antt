-- What unfolding makes of the flat rows of a description (CMSIS-SVD 1.3, `dimElementGroup`): the rows at and below each
-- list are replaced by one group for each member, in the place of the list. An array stays one element.
use Rattle.std.specs.Prelude.{ℕ, zero, suc, ◌+◌, ◌*◌, Bool, true, false, not, cond, List, [], ◌∷◌, ◌++◌, map, filter, length, Option, None, Some, unwrap_or}
use Rattle.std.specs.List.{flat_map}
use Rattle.std.specs.Str.{bytes_eq}
use Rattle.dim_expand.specs.Causes.{stated_index}
use Rattle.dim_expand.specs.Indexes.{index_of}
use Rattle.dim_expand.specs.Marks.{has_dimension, is_list, indexed}
use Rattle.svd_model.specs.Keys.{Key, dim_count, dim_increment, dim_index, base_address, at_offset}
use Rattle.svd_model.specs.Stating.{value_of, stated_dim, stated_increment, indexes_of}
use Rattle.svd_model.specs.Steps.{Step, same_step}
use Rattle.svd_rows.specs.LookUps.{inside, keys_of, children_of}
use Rattle.svd_rows.specs.Rows.{Row, own, under}

-- ---- the groups of an element

-- the groups that stand in the place of an element: one for each member of a list, each by its place. Any other element
-- is its own one group
unfoldable pub groups_of : Step → List Key → List (Option ℕ)
groups_of step keys = indexes_of (cond (is_list step) (Some (unwrap_or (value_of stated_dim keys) 0)) None)

-- the step of a group: the index stands in the place of the mark
unfoldable pub group_step : Step → List Key → Option ℕ → Step
group_step step keys None = step
group_step step keys (Some k) =
    record { kind = step.kind; name = indexed step.name (index_of (value_of stated_index keys) k); number = step.number }

-- the key is one of the three of dimensions
abbrev pub is_dimension : Key → Bool
is_dimension (dim_count n) = true
is_dimension (dim_increment n) = true
is_dimension (dim_index index) = true
is_dimension _ = false

-- the key of an element that stands this much further behind
abbrev pub moved_key : ℕ → Key → Key
moved_key distance (base_address n) = base_address (n + distance)
moved_key distance (at_offset n) = at_offset (n + distance)
moved_key distance key = key

-- how far the member of this place stands behind the first
abbrev pub distance_of : List Key → ℕ → ℕ
distance_of keys k = k * unwrap_or (value_of stated_increment keys) 0

-- the keys of a group: without those of the dimension, and so much further behind as its place asks for
unfoldable pub group_keys : List Key → Option ℕ → List Key
group_keys keys None = keys
group_keys keys (Some k) = map (moved_key (distance_of keys k)) (filter (λ key. not (is_dimension key)) keys)

-- ---- rows

-- the row speaks of the element itself from which the rows are seen
abbrev pub is_own : Row Step Key → Bool
is_own row = at row.path
  where
    at : List Step → Bool
    at [] = true
    at (step ∷ path) = false

-- how many siblings of a name are among those of these names
abbrev pub count_behind : List (List ℕ) → List ℕ → ℕ
count_behind [] name = 0
count_behind (other ∷ before) name = cond (bytes_eq name other) 1 0 + count_behind before name

-- the step of a sibling behind those of these names: its number is the count of those of its own name, but that sets and
-- values keep theirs, which is their place
unfoldable pub numbered_behind : List (List ℕ) → Step → Step
numbered_behind before step =
    record { kind = step.kind; name = step.name; number = cond (has_dimension step.kind) (count_behind before step.name) step.number }

-- the rows of siblings, each under its step, behind siblings of these names
unfoldable pub sibling_rows : List (List ℕ) → List (Step × List (Row Step Key)) → List (Row Step Key)
sibling_rows before [] = []
sibling_rows before (group ∷ groups) =
    map (under (numbered_behind before group.0)) group.1 ++ sibling_rows (before ++ group.0.name ∷ []) groups

-- the groups of a child of these rows, where `below` are the rows below it after unfolding
abbrev pub child_groups : Step → List Key → List (Row Step Key) → List (Step × List (Row Step Key))
child_groups step keys below =
    map (λ group. (group_step step keys group, own (group_keys keys group) ++ below)) (groups_of step keys)

-- the rows below an element after unfolding, where these are its rows before, seen from itself, and there are so many
-- levels below it at most: its children's groups, one child after the other
unfoldable pub unfolded_below : ℕ → List (Row Step Key) → List (Row Step Key)
unfolded_below zero all = []
unfolded_below (suc levels) all =
    sibling_rows [] (flat_map (λ child. child_groups child (keys_of (inside same_step (child ∷ []) all)) (unfolded_below levels (inside same_step (child ∷ []) all))) (children_of all))

-- the rows of a description after unfolding: there are no more levels than rows
unfoldable pub unfolded_rows : List (Row Step Key) → List (Row Step Key)
unfolded_rows all = filter is_own all ++ unfolded_below (length all) all
