-- Which members of registers share a byte and may not (CMSIS-SVD 1.3: `alternateRegister`, `alternateGroup` and
-- `alternateCluster` say which may; that one may not be shared otherwise is this project's own rule).
use Rattle.std.specs.Prelude.{ℕ, Bool, false, ◌&&◌, ◌||◌, not, List, [], ◌∷◌, ◌++◌, map, filter, drop, Option, None, Some, option_map, is_some}
use Rattle.std.specs.List.{flat_map, list_any}
use Rattle.std.specs.Str.{bytes_eq}
use Rattle.pac_base.specs.declared.path.Step.{Step as Written}
use Rattle.overlap_sweep.specs.declared.field.FieldPair.{FieldPair}
use Rattle.overlap_sweep.specs.declared.overlap.Overlap.{Overlap}
use Rattle.overlap_sweep.specs.declared.overlap.Shared.{Shared}
use Rattle.overlap_sweep.specs.declared.overlap.Shared.TheVariants.{Fields, Registers}
use Rattle.overlap_sweep.specs.Fields.{field_pairs, first_of, share_one, told_fields}
use Rattle.reg_table.specs.Registers.{Member, members_in_order}
use Rattle.svd_model.specs.Checking.{bytes_of, width_down, pairs_behind}
use Rattle.svd_model.specs.Keys.{Key, alternate_of, alternate_group}
use Rattle.svd_model.specs.Stating.{value_of, keys_at, keys_down, ways_down, is_of, address_of, properties_of}
use Rattle.svd_model.specs.Steps.{Step, cluster, register, same_key, same_step}
use Rattle.svd_rows.specs.LookUps.{ends_with, inside}
use Rattle.svd_rows.specs.Paths.{exactly, begins}
use Rattle.svd_rows.specs.Rows.{Row}

-- ---- what one key states

abbrev pub stated_alternate : Key → Option (List ℕ)
stated_alternate (alternate_of name) = Some name
stated_alternate _ = None

abbrev pub stated_group : Key → Option (List ℕ)
stated_group (alternate_group name) = Some name
stated_group _ = None

-- ---- members of registers

-- the members of all registers, in document order
unfoldable pub register_members : List (Row Step Key) → List Member
register_members all = filter (λ member. ends_with (is_of register) member.0) (members_in_order all)

-- the address of a member
abbrev pub start_at : List (Row Step Key) → Member → ℕ
start_at all member = address_of (keys_down all member.0) member.1

-- how many bytes it takes
abbrev pub bytes_at : List (Row Step Key) → Member → ℕ
bytes_at all member = bytes_of (width_down (keys_down all member.0))

-- the two stand in one peripheral
abbrev pub in_one_peripheral : List Step → List Step → Bool
in_one_peripheral (first ∷ one) (second ∷ other) = same_key first second
in_one_peripheral _ _ = false

-- ---- pairs that may share bytes

-- the written name of an element
unfoldable pub last_name : List Step → List ℕ
last_name [] = []
last_name (step ∷ []) = step.name
last_name (step ∷ next ∷ path) = last_name (next ∷ path)

abbrev pub is_the_name : Option (List ℕ) → List ℕ → Bool
is_the_name None name = false
is_the_name (Some other) name = bytes_eq other name

-- the `alternateRegister` of the one is the other's written name
abbrev pub is_alternate : List (Row Step Key) → List Step → List Step → Bool
is_alternate all one other = is_the_name (value_of stated_alternate (keys_at all one)) (last_name other)

-- the element states `alternateGroup`
abbrev pub is_grouped : List (Row Step Key) → List Step → Bool
is_grouped all path = is_some (value_of stated_group (keys_at all path))

-- the element is a cluster that states `alternateCluster`
unfoldable pub is_alternate_cluster : List (Row Step Key) → List Step → Bool
is_alternate_cluster all path = ends_with (is_of cluster) path && is_some (value_of stated_alternate (keys_at all path))

-- The one stands in a cluster that states `alternateCluster`, and the other doesn't stand in that cluster. All
-- members of an array of clusters are one cluster.
unfoldable pub stands_apart : List (Row Step Key) → List Step → List Step → Bool
stands_apart all one other = list_any (λ way. is_alternate_cluster all way && not (begins (exactly same_key way) other)) (ways_down one)

-- the two may share bytes
abbrev pub is_exempt : List (Row Step Key) → List Step → List Step → Bool
is_exempt all one other =
    (is_grouped all one || is_grouped all other) || ((is_alternate all one other || is_alternate all other one) || (stands_apart all one other || stands_apart all other one))

-- ---- overlaps

-- two members share a byte and may not
unfoldable pub is_register_overlap : List (Row Step Key) → Member → Member → Bool
is_register_overlap all one other =
    in_one_peripheral one.0 other.0 && (share_one (start_at all one) (bytes_at all one) (start_at all other) (bytes_at all other) && not (is_exempt all one.0 other.0))

-- all pairs of members that share a byte and may not, by the second and then by the first
unfoldable pub register_overlaps : List (Row Step Key) → List (Member × Member)
register_overlaps all = filter (λ pair. is_register_overlap all pair.0 pair.1) (pairs_behind [] (register_members all))

-- the path of a member as it is told: written names, and an index at each array
unfoldable pub told_steps : List Step → List (Option ℕ) → List Written
told_steps [] indexes = []
told_steps (step ∷ path) [] = record { name = step.name; index = None } ∷ told_steps path []
told_steps (step ∷ path) (index ∷ indexes) = record { name = step.name; index = index } ∷ told_steps path indexes

abbrev pub told_member : Member → List Written
told_member member = told_steps member.0 (drop 1 member.1)

-- the first of all pairs, as it is told
unfoldable pub first_register_overlap : List (Row Step Key) → Option Overlap
first_register_overlap all =
    option_map (λ pair. record { first = told_member pair.0; second = told_member pair.1 }) (first_of (register_overlaps all))

-- the path of an element as it is told: the written names alone
abbrev pub plain_path : List Step → List Written
plain_path path = map (λ step. record { name = step.name; index = None }) path

-- two members of fields of the register of this path, as they are told: the field's step has the index
abbrev pub told_in : List Written → FieldPair → Overlap
told_in path pair = record { first = path ++ pair.first ∷ []; second = path ++ pair.second ∷ [] }

-- all pairs of members of fields of one register that share a bit and may not, as they are told: register by register,
-- and in each by the second and then by the first
unfoldable pub field_overlaps : List (Row Step Key) → List Overlap
field_overlaps all =
    flat_map (λ member. map (λ pair. told_in (plain_path member.0) (told_fields pair)) (field_pairs (properties_of (keys_down all member.0)) (inside same_step member.0 all))) (register_members all)

abbrev pub or_else : {A : Type 0} → Option A → Option A → Option A
or_else None other = other
or_else (Some x) other = Some x

-- the first overlap: those of fields come before those of registers
unfoldable pub first_shared : List (Row Step Key) → Option Shared
first_shared all = or_else (option_map Fields (first_of (field_overlaps all))) (option_map Registers (first_register_overlap all))
