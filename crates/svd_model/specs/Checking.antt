-- What checking says of a description in which each list is unfolded, where no overlaps are asked for: all its
-- faults, by their kinds and then in document order. The sizes are those of CMSIS-SVD 1.3; that an address has
-- 64 bits and is a multiple of its register's width, and that siblings may not share one accessor name, are this
-- project's own rules.
use Rattle.std.specs.Prelude.{ℕ, ◌+◌, ◌*◌, ◌%◌, ◌^◌, Bool, true, false, ◌&&◌, not, nat_le, nat_lt, nat_eq, List, [], ◌∷◌, ◌++◌, map, filter, reverse, Option, unwrap_or, if◌then◌else◌}
use Rattle.std.specs.List.{list_all, list_any}
use Rattle.std.specs.Str.{bytes_eq}
use Rattle.pac_base.specs.Widths.{bits_of}
use Rattle.pac_base.specs.declared.width.Width.{Width}
use Rattle.pac_base.specs.declared.width.Width.TheVariants.{W8, W16, W32, W64}
use Rattle.svd_model.specs.Keys.{Key}
use Rattle.svd_model.specs.Properties.{size_at}
use Rattle.svd_model.specs.Stating.{value_of, stated_dim, stated_increment, stated_offset, stated_width, indexes_of, keys_at, keys_down, paths_of, paths_of_kind, properties_of, members_of, address_of}
use Rattle.svd_model.specs.Steps.{Step, Kind, peripheral, cluster, register, field, set, value, same_step}
use Rattle.svd_rows.specs.Paths.{exactly, fits}
use Rattle.svd_rows.specs.Rows.{Row}
use Rattle.svd_values.specs.AccessorNames.{accessor_name}

-- a fault, with the paths of its elements
pub data Fault : Type 0 where
  bad_width : (path : List Step) → Fault
  address_range : (path : List Step) → Fault
  misaligned : (path : List Step) → Fault
  field_range : (path : List Step) → Fault
  name_clash : (first second : List Step) → Fault

-- ---- widths and addresses

-- the width of a register of that size: the least that holds it, and the greatest past 64 bits
abbrev pub width_of : ℕ → Width
width_of size = if nat_le size 8 then W8 else (if nat_le size 16 then W16 else (if nat_le size 32 then W32 else W64))

-- how many bytes a width has
abbrev pub bytes_of : Width → ℕ
bytes_of W8 = 1
bytes_of W16 = 2
bytes_of W32 = 4
bytes_of W64 = 8

-- a register has 1 to 64 bits
abbrev pub is_size : ℕ → Bool
is_size size = nat_le 1 size && nat_le size 64

-- the size of a register where these are the keys from the device down to it
abbrev pub size_down : List (List Key) → ℕ
size_down down = size_at (properties_of down)

abbrev pub width_down : List (List Key) → Width
width_down down = width_of (size_down down)

-- a member starts past the addresses of 64 bits, or, as a register, ends there
abbrev pub is_past : ℕ → ℕ → Bool
is_past room address = nat_lt (2 ^ 64) (address + room)

-- some member of an element that takes so many bytes is past the addresses of 64 bits
unfoldable pub some_past : ℕ → List (List Key) → Bool
some_past room down = list_any (λ member. is_past room (address_of down member)) (members_of down)

-- a register is past them where one of its members ends there; what is round registers, where it starts there
abbrev pub has_past_member : List (Row Step Key) → List Step → Bool
has_past_member all path = by_kind (reverse path)
  where
    down : List (List Key)
    down = keys_down all path

    of_kind : Kind → Bool
    of_kind peripheral = some_past 1 down
    of_kind cluster = some_past 1 down
    of_kind register = some_past (bytes_of (width_down down)) down
    of_kind _ = false

    by_kind : List Step → Bool
    by_kind [] = false
    by_kind (step ∷ up) = of_kind step.kind

-- some member of a register stands at an address that is no multiple of so many bytes
unfoldable pub some_uneven : ℕ → List (List Key) → Bool
some_uneven bytes down = list_any (λ member. not (nat_eq (address_of down member % bytes) 0)) (members_of down)

-- ---- fields

-- where a member of a field with these keys begins, in bits: the field's offset, and the index times the step
abbrev pub bit_of : List Key → Option ℕ → ℕ
bit_of keys index =
    unwrap_or (value_of stated_offset keys) 0 + unwrap_or index 0 * unwrap_or (value_of stated_increment keys) 0

-- each member of a field with these keys lies within so many bits, and has one at least
abbrev pub is_field_within : ℕ → List Key → Bool
is_field_within bits keys =
    nat_le 1 width && list_all (λ index. nat_le (bit_of keys index + width) bits) (indexes_of (value_of stated_dim keys))
  where
    width : ℕ
    width = unwrap_or (value_of stated_width keys) 1

-- ---- names

-- the element has an accessor
abbrev pub is_named : Kind → Bool
is_named set = false
is_named value = false
is_named _ = true

-- Two elements are siblings and have one accessor name. Registers and clusters of one parent are siblings.
unfoldable pub is_clash : List Step → List Step → Bool
is_clash first second = by_last (reverse first) (reverse second)
  where
    by_last : List Step → List Step → Bool
    by_last (step ∷ up) (other ∷ above) =
        is_named step.kind && is_named other.kind && fits (exactly same_step up) above && bytes_eq (accessor_name step.name) (accessor_name other.name)
    by_last _ _ = false

-- each with each that stands before it, by the second and then by the first
unfoldable pub pairs_behind : {A : Type 0} → List A → List A → List (A × A)
pairs_behind before [] = []
pairs_behind before (x ∷ xs) = map (λ first. (first, x)) before ++ pairs_behind (before ++ x ∷ []) xs

-- ---- the faults of each kind

-- registers whose size isn't 1 to 64 bits
unfoldable pub bad_widths : List (Row Step Key) → List (List Step)
bad_widths all = filter (λ path. not (is_size (size_down (keys_down all path)))) (paths_of_kind register all)

-- peripherals and clusters of which a member starts past the addresses of 64 bits, and registers of which a
-- member ends past them
unfoldable pub past_ranges : List (Row Step Key) → List (List Step)
past_ranges all = filter (has_past_member all) (paths_of all)

-- registers of which a member's address is no multiple of their width
unfoldable pub uneven : List (Row Step Key) → List (List Step)
uneven all =
    filter (λ path. some_uneven (bytes_of (width_down (keys_down all path))) (keys_down all path)) (paths_of_kind register all)

-- fields of which a member ends past the register's width, or that have no bit
unfoldable pub fields_past : List (Row Step Key) → List (List Step)
fields_past all =
    filter (λ path. not (is_field_within (bits_of (width_down (keys_down all path))) (keys_at all path))) (paths_of_kind field all)

-- siblings that have one accessor name
unfoldable pub clashes : List (Row Step Key) → List (List Step × List Step)
clashes all = filter (λ pair. is_clash pair.0 pair.1) (pairs_behind [] (paths_of all))

-- all faults but overlaps: the first kind that has one decides, and within it the first fault
unfoldable pub loose_faults : List (Row Step Key) → List Fault
loose_faults all =
    map bad_width (bad_widths all) ++ (map address_range (past_ranges all) ++ (map misaligned (uneven all) ++ (map field_range (fields_past all) ++ map (λ pair. name_clash pair.0 pair.1) (clashes all))))
