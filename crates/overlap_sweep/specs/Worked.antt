-- Worked overlaps: the first that the flat rows of a description have.
use Rattle.std.specs.Prelude.{◌≡◌, ℕ, List, [], ◌∷◌, codes, Option, None, Some, refl}
use Rattle.pac_base.specs.declared.path.Step.{Step as Written}
use Rattle.overlap_sweep.specs.declared.overlap.Shared.{Shared}
use Rattle.overlap_sweep.specs.declared.overlap.Shared.TheVariants.{Fields, Registers}
use Rattle.overlap_sweep.specs.Fields.{field_meets, field_pairs, field_spot, field_spots}
use Rattle.overlap_sweep.specs.Overlaps.{field_overlaps, first_register_overlap, first_shared, is_alternate_cluster, is_register_overlap, last_name, register_members, register_overlaps, stands_apart, told_steps}
use Rattle.reg_table.specs.Calls.{parts}
use Rattle.reg_table.specs.Registers.{array_paths, members_in_order}
use Rattle.svd_model.specs.Checking.{pairs_behind}
use Rattle.svd_model.specs.Keys.{Key, alternate_of, base_address, at_offset, bit_width, dim_count, dim_increment, register_access}
use Rattle.svd_model.specs.Stating.{value_of, paths_of, ways_down, keys_down, properties_of, address_of}
use Rattle.svd_model.specs.Steps.{Step, Kind, peripheral, cluster, register, field, same_key, same_step}
use Rattle.svd_rows.specs.Forest.{Forest, leaf, node}
use Rattle.svd_rows.specs.LookUps.{inside, top_key, child_step, keys_of, children_of, ends_with}
use Rattle.svd_rows.specs.Paths.{begins}
use Rattle.svd_rows.specs.RowEdits.{exchanged}
use Rattle.svd_rows.specs.Rows.{Row, own, under, forest_rows, rows, is_element}

abbrev step : Kind → List ℕ → Step
step kind name = record { kind = kind; name = name; number = 0 }

-- the peripheral T at 0x40000000, with these registers and clusters
abbrev in_t : Forest Step Key → List (Row Step Key)
in_t children = rows (record { keys = []; below = node (step peripheral (codes "T")) (base_address 0x40000000 ∷ []) children leaf })

-- a register of these keys and fields
abbrev of_register : List ℕ → List Key → Forest Step Key → Forest Step Key → Forest Step Key
of_register name keys fields others = node (step register name) keys fields others

-- a step as it is told
abbrev to : List ℕ → Option ℕ → Written
to name index = record { name = name; index = index }

-- so many members of an element, this far apart, from this offset on
abbrev array : ℕ → ℕ → ℕ → List Key
array count increment offset = dim_count count ∷ dim_increment increment ∷ at_offset offset ∷ []

-- `LV[%s]`: four fields of two bits, each this many bits behind the one before
abbrev levels : ℕ → List (Row Step Key)
levels increment =
    in_t (of_register (codes "R") (at_offset 0 ∷ []) (node (step field (codes "LV[%s]")) (dim_count 4 ∷ dim_increment increment ∷ at_offset 0 ∷ bit_width 2 ∷ []) leaf leaf) leaf)

-- one bit apart they share one
pub levels_too_near : first_shared (levels 1) ≡ Some (Fields (record { first = to (codes "T") None ∷ to (codes "R") None ∷ to (codes "LV[%s]") (Some 0) ∷ []; second = to (codes "T") None ∷ to (codes "R") None ∷ to (codes "LV[%s]") (Some 1) ∷ [] }))
unfolding first_shared field_overlaps field_pairs field_spots field_spot field_meets first_register_overlap register_overlaps is_register_overlap register_members stands_apart is_alternate_cluster last_name told_steps pairs_behind parts members_in_order array_paths value_of paths_of ways_down keys_down properties_of address_of same_key same_step inside top_key child_step keys_of children_of ends_with begins exchanged own under forest_rows rows is_element
levels_too_near = refl

-- two bits apart they share none
pub levels_apart : first_shared (levels 2) ≡ None
unfolding first_shared field_overlaps field_pairs field_spots field_spot field_meets first_register_overlap register_overlaps is_register_overlap register_members stands_apart is_alternate_cluster last_name told_steps pairs_behind parts members_in_order array_paths value_of paths_of ways_down keys_down properties_of address_of same_key same_step inside top_key child_step keys_of children_of ends_with begins exchanged own under forest_rows rows is_element
levels_apart = refl

-- a register, and one in a cluster that states `alternateCluster`, may share their bytes
pub beside_a_cluster : first_shared (in_t (of_register (codes "A") (at_offset 0 ∷ []) leaf (node (step cluster (codes "C")) (at_offset 0 ∷ alternate_of (codes "D") ∷ []) (of_register (codes "B") (at_offset 0 ∷ []) leaf leaf) leaf))) ≡ None
unfolding first_shared field_overlaps field_pairs field_spots field_spot field_meets first_register_overlap register_overlaps is_register_overlap register_members stands_apart is_alternate_cluster last_name told_steps pairs_behind parts members_in_order array_paths value_of paths_of ways_down keys_down properties_of address_of same_key same_step inside top_key child_step keys_of children_of ends_with begins exchanged own under forest_rows rows is_element
beside_a_cluster = refl

-- two members of such a cluster may not
pub members_of_a_cluster : first_shared (in_t (node (step cluster (codes "C[%s]")) (dim_count 2 ∷ at_offset 0 ∷ alternate_of (codes "D") ∷ []) (of_register (codes "B") (at_offset 0 ∷ []) leaf leaf) leaf)) ≡ Some (Registers (record { first = to (codes "T") None ∷ to (codes "C[%s]") (Some 0) ∷ to (codes "B") None ∷ []; second = to (codes "T") None ∷ to (codes "C[%s]") (Some 1) ∷ to (codes "B") None ∷ [] }))
unfolding first_shared field_overlaps field_pairs field_spots field_spot field_meets first_register_overlap register_overlaps is_register_overlap register_members stands_apart is_alternate_cluster last_name told_steps pairs_behind parts members_in_order array_paths value_of paths_of ways_down keys_down properties_of address_of same_key same_step inside top_key child_step keys_of children_of ends_with begins exchanged own under forest_rows rows is_element
members_of_a_cluster = refl
