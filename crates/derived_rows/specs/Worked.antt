-- Small descriptions with what deriving makes of their rows, by computation.
use Rattle.std.specs.Prelude.{◌≡◌, ℕ, List, [], ◌∷◌, ◌++◌, map, codes, None, Some, refl}
use Rattle.derived_rows.specs.Dependence.{same_path, dependences, IsChain, deriving_paths}
use Rattle.derived_rows.specs.Faults.{IsFault, first_missing, derive_cycle}
use Rattle.derived_rows.specs.Deriving.{derived_rows, derived_by, element_rows}
use Rattle.derived_rows.specs.Merging.{is_marked_at, is_stated, with_taken, taken, has_named, replaced_by, kept, added, merged, renumbered}
use Rattle.derived_rows.specs.Sources.{has_name, child_paths, named_child, followed, of_kind, reached, second_try, source_among, kind_at, source_of}
use Rattle.need_order.specs.Levels.{by_levels}
use Rattle.svd_model.specs.Keys.{Key, rank, derived_from, dim_count, dim_increment, base_address, at_offset, bit_width, reset_value, enumerated_value}
use Rattle.svd_model.specs.Stating.{value_of, paths_of, ways_down}
use Rattle.svd_model.specs.Steps.{Step, Kind, peripheral, cluster, register, field, set, value, same_step}
use Rattle.svd_rows.specs.LookUps.{inside, keys_of, children_of, top_key, child_step, ends_with}
use Rattle.svd_rows.specs.Paths.{begins, fits}
use Rattle.svd_rows.specs.Ranks.{set_key}
use Rattle.svd_rows.specs.Rows.{Row, element, states, own, under, is_element}

abbrev step : Kind → List ℕ → ℕ → Step
step kind name number = record { kind = kind; name = name; number = number }

abbrev from : List ℕ → Key
from name = derived_from (record { name = name; index = None } ∷ [])

-- the first row of the element of a path, and one for each key
abbrev rows_at : List Step → List Key → List (Row Step Key)
rows_at path keys = record { path = path; said = element } ∷ map (λ key. record { path = path; said = states key }) keys

-- ---- a chain: C is derived from B, and B from A

abbrev a : Step
a = step peripheral (codes "A") 0

abbrev b : Step
b = step peripheral (codes "B") 0

abbrev c : Step
c = step peripheral (codes "C") 0

abbrev r : Step
r = step register (codes "R") 0

-- A with its register R
abbrev chain_rows : List (Row Step Key) → List (Row Step Key) → List (Row Step Key)
chain_rows below_b rows_c =
    rows_at [] []
    ++ (rows_at (a ∷ []) (base_address 4096 ∷ reset_value 1 ∷ [])
    ++ (rows_at (a ∷ r ∷ []) (at_offset 0 ∷ [])
    ++ (rows_at (b ∷ []) (from (codes "A") ∷ base_address 8192 ∷ reset_value 2 ∷ []) ++ (below_b ++ rows_c))))

-- B keeps its own reset value, and C takes that of B, and the register of A through B
pub derived_chain : derived_rows (chain_rows [] (rows_at (c ∷ []) (from (codes "B") ∷ base_address 12288 ∷ []))) ≡ chain_rows (rows_at (b ∷ r ∷ []) (at_offset 0 ∷ [])) (rows_at (c ∷ []) (from (codes "B") ∷ base_address 12288 ∷ reset_value 2 ∷ []) ++ rows_at (c ∷ r ∷ []) (at_offset 0 ∷ []))
unfolding derived_rows derived_by by_levels element_rows source_of source_among kind_at second_try reached of_kind followed child_paths named_child has_name is_marked_at is_stated with_taken taken has_named replaced_by kept added merged renumbered rank value_of paths_of ways_down same_step inside keys_of children_of top_key child_step ends_with begins fits set_key own under is_element
derived_chain = refl

-- ---- values shared by fields: the set of G is derived from the set E of F, by the second try, and has a value X of its own

abbrev f : Step
f = step field (codes "F") 0

abbrev g : Step
g = step field (codes "G") 0

abbrev e : Step
e = step set (codes "E") 0

abbrev unnamed : Step
unnamed = step set [] 0

abbrev value_rows : List Step → List ℕ → ℕ → ℕ → List (Row Step Key)
value_rows path name number n = rows_at (path ++ step value name number ∷ []) (enumerated_value n ∷ [])

abbrev set_rows : List (Row Step Key) → List (Row Step Key)
set_rows values =
    rows_at [] []
    ++ (rows_at (a ∷ []) []
    ++ (rows_at (a ∷ r ∷ []) []
    ++ (rows_at (a ∷ r ∷ f ∷ []) []
    ++ (rows_at (a ∷ r ∷ f ∷ e ∷ []) []
    ++ (value_rows (a ∷ r ∷ f ∷ e ∷ []) (codes "X") 0 0
    ++ (value_rows (a ∷ r ∷ f ∷ e ∷ []) (codes "Y") 1 1
    ++ (rows_at (a ∷ r ∷ g ∷ []) [] ++ (rows_at (a ∷ r ∷ g ∷ unnamed ∷ []) (from (codes "E") ∷ []) ++ values))))))))

pub own_value_of_a_set : derived_rows (set_rows (value_rows (a ∷ r ∷ g ∷ unnamed ∷ []) (codes "X") 0 3)) ≡ set_rows (value_rows (a ∷ r ∷ g ∷ unnamed ∷ []) (codes "X") 0 3 ++ value_rows (a ∷ r ∷ g ∷ unnamed ∷ []) (codes "Y") 1 1)
unfolding derived_rows derived_by by_levels element_rows source_of source_among kind_at second_try reached of_kind followed child_paths named_child has_name is_marked_at is_stated with_taken taken has_named replaced_by kept added merged renumbered rank value_of paths_of ways_down same_step inside keys_of children_of top_key child_step ends_with begins fits set_key own under is_element
own_value_of_a_set = refl

-- ---- registers

abbrev s : Step
s = step register (codes "S") 0

-- a device with the peripheral A, and rows below A
abbrev in_a : List (Row Step Key) → List (Row Step Key)
in_a below = rows_at [] [] ++ (rows_at (a ∷ []) [] ++ below)

-- R with its fields F and G
abbrev r_rows : List (Row Step Key)
r_rows =
    rows_at (a ∷ r ∷ []) (at_offset 0 ∷ reset_value 5 ∷ [])
    ++ (rows_at (a ∷ r ∷ f ∷ []) (at_offset 0 ∷ bit_width 4 ∷ []) ++ rows_at (a ∷ r ∷ g ∷ []) (at_offset 4 ∷ []))

abbrev s_rows : List Key → List (Row Step Key) → List (Row Step Key)
s_rows keys below = rows_at (a ∷ s ∷ []) (from (codes "R") ∷ at_offset 8 ∷ keys) ++ below

-- S is derived from R: its own field F stands in the place of that of R, whole, without the width of the other
pub own_field_of_a_register : derived_rows (in_a (r_rows ++ s_rows [] (rows_at (a ∷ s ∷ f ∷ []) (at_offset 2 ∷ [])))) ≡ in_a (r_rows ++ s_rows (reset_value 5 ∷ []) (rows_at (a ∷ s ∷ f ∷ []) (at_offset 2 ∷ []) ++ rows_at (a ∷ s ∷ g ∷ []) (at_offset 4 ∷ [])))
unfolding derived_rows derived_by by_levels element_rows source_of source_among kind_at second_try reached of_kind followed child_paths named_child has_name is_marked_at is_stated with_taken taken has_named replaced_by kept added merged renumbered rank value_of paths_of ways_down same_step inside keys_of children_of top_key child_step ends_with begins fits set_key own under is_element
own_field_of_a_register = refl

-- G is derived from F: it has a place of its own, and the width of F
pub own_place_of_a_field : derived_rows (in_a (rows_at (a ∷ r ∷ []) [] ++ (rows_at (a ∷ r ∷ f ∷ []) (at_offset 0 ∷ bit_width 4 ∷ []) ++ rows_at (a ∷ r ∷ g ∷ []) (from (codes "F") ∷ at_offset 8 ∷ [])))) ≡ in_a (rows_at (a ∷ r ∷ []) [] ++ (rows_at (a ∷ r ∷ f ∷ []) (at_offset 0 ∷ bit_width 4 ∷ []) ++ rows_at (a ∷ r ∷ g ∷ []) (from (codes "F") ∷ at_offset 8 ∷ bit_width 4 ∷ [])))
unfolding derived_rows derived_by by_levels element_rows source_of source_among kind_at second_try reached of_kind followed child_paths named_child has_name is_marked_at is_stated with_taken taken has_named replaced_by kept added merged renumbered rank value_of paths_of ways_down same_step inside keys_of children_of top_key child_step ends_with begins fits set_key own under is_element
own_place_of_a_field = refl

-- ---- dimensions

abbrev channels : Step
channels = step register (codes "CH%s") 0

abbrev others : Step
others = step register (codes "E%s") 0

abbrev dim_rows : List Key → List Key → List (Row Step Key)
dim_rows plain marked =
    in_a (rows_at (a ∷ channels ∷ []) (dim_count 2 ∷ dim_increment 4 ∷ at_offset 0 ∷ [])
    ++ (rows_at (a ∷ s ∷ []) (from (codes "CH%s") ∷ plain) ++ rows_at (a ∷ others ∷ []) (from (codes "CH%s") ∷ marked)))

-- the dimension is taken over only where the own name holds the mark, and there the step that is stated stays
pub dimension_taken_by_the_mark : derived_rows (dim_rows (at_offset 16 ∷ []) (dim_increment 8 ∷ at_offset 32 ∷ [])) ≡ dim_rows (at_offset 16 ∷ []) (dim_count 2 ∷ dim_increment 8 ∷ at_offset 32 ∷ [])
unfolding derived_rows derived_by by_levels element_rows source_of source_among kind_at second_try reached of_kind followed child_paths named_child has_name is_marked_at is_stated with_taken taken has_named replaced_by kept added merged renumbered rank value_of paths_of ways_down same_step inside keys_of children_of top_key child_step ends_with begins fits set_key own under is_element
dimension_taken_by_the_mark = refl

-- ---- clusters

abbrev r_cluster : Step
r_cluster = step cluster (codes "R") 0

abbrev x : Step
x = step register (codes "X") 0

abbrev replacing_rows : List (Row Step Key)
replacing_rows =
    in_a (rows_at (a ∷ r ∷ []) (at_offset 0 ∷ [])
    ++ (rows_at (b ∷ []) (from (codes "A") ∷ []) ++ (rows_at (b ∷ r_cluster ∷ []) (at_offset 4 ∷ []) ++ rows_at (b ∷ r_cluster ∷ x ∷ []) (at_offset 0 ∷ []))))

-- B is derived from A, and its cluster R stands in the place of the register R of A: nothing is added
pub cluster_replaces_a_register : derived_rows replacing_rows ≡ replacing_rows
unfolding derived_rows derived_by by_levels element_rows source_of source_among kind_at second_try reached of_kind followed child_paths named_child has_name is_marked_at is_stated with_taken taken has_named replaced_by kept added merged renumbered rank value_of paths_of ways_down same_step inside keys_of children_of top_key child_step ends_with begins fits set_key own under is_element
cluster_replaces_a_register = refl

abbrev k : Step
k = step cluster (codes "K") 0

abbrev from_path : Key
from_path = derived_from (record { name = codes "A"; index = None } ∷ record { name = codes "K"; index = None } ∷ record { name = codes "R"; index = None } ∷ [])

abbrev nested_rows : List Key → List Key → List (Row Step Key)
nested_rows inner outer =
    in_a (rows_at (a ∷ r ∷ []) (reset_value 1 ∷ [])
    ++ (rows_at (a ∷ k ∷ []) []
    ++ (rows_at (a ∷ k ∷ r ∷ []) (reset_value 2 ∷ [])
    ++ (rows_at (a ∷ k ∷ s ∷ []) (from (codes "R") ∷ inner) ++ (rows_at (b ∷ []) [] ++ rows_at (b ∷ x ∷ []) (from_path ∷ outer))))))

-- S in the cluster K is derived from the R beside it, and not from that of A; X in B names its source from the device
pub nearer_before_farther : derived_rows (nested_rows [] []) ≡ nested_rows (reset_value 2 ∷ []) (reset_value 2 ∷ [])
unfolding derived_rows derived_by by_levels element_rows source_of source_among kind_at second_try reached of_kind followed child_paths named_child has_name is_marked_at is_stated with_taken taken has_named replaced_by kept added merged renumbered rank value_of paths_of ways_down same_step inside keys_of children_of top_key child_step ends_with begins fits set_key own under is_element
nearer_before_farther = refl

-- ---- faults

-- A is derived from X, which isn't there
pub missing_source : first_missing (rows_at [] [] ++ rows_at (a ∷ []) (from (codes "X") ∷ [])) ≡ Some (a ∷ [])
unfolding first_missing deriving_paths source_of source_among kind_at second_try reached of_kind followed named_child has_name value_of paths_of ways_down same_step inside keys_of top_key ends_with begins fits is_element
missing_source = refl

abbrev circle_rows : List (Row Step Key)
circle_rows = rows_at [] [] ++ (rows_at (a ∷ []) (from (codes "B") ∷ []) ++ rows_at (b ∷ []) (from (codes "A") ∷ []))

-- A is derived from B and B from A: A is the first on the circle
pub sources_in_a_circle : IsFault circle_rows (derive_cycle (a ∷ []))
unfolding first_missing deriving_paths IsChain dependences same_path source_of source_among kind_at second_try reached of_kind followed child_paths named_child has_name value_of paths_of ways_down same_step inside keys_of children_of top_key child_step ends_with begins fits is_element
sources_in_a_circle = (refl, record { before = []; after = (b ∷ []) ∷ []; stands = refl; circle = ((b ∷ []) ∷ [], (refl, refl)); first = tt })

-- one that names itself is a circle too
pub own_source : IsFault (rows_at [] [] ++ rows_at (a ∷ []) (from (codes "A") ∷ [])) (derive_cycle (a ∷ []))
unfolding first_missing deriving_paths IsChain dependences same_path source_of source_among kind_at second_try reached of_kind followed child_paths named_child has_name value_of paths_of ways_down same_step inside keys_of children_of top_key child_step ends_with begins fits is_element
own_source = (refl, record { before = []; after = []; stands = refl; circle = ([], refl); first = tt })
