-- What the search among the fields of a register finds. That it is the first of all pairs is proved.
use Rattle.std.specs.Prelude.{ℕ, ◌+◌, ◌*◌, Bool, ◌&&◌, ◌||◌, cond, List, [], ◌∷◌, ◌++◌, map, Option, None, option_map, unwrap_or}
use Rattle.std.specs.List.{flat_map, range_with_len}
use Rattle.overlap_sweep.specs.declared.field.FieldSpot.{FieldSpot}
use Rattle.overlap_sweep.specs.Fields.{field_meets}
use Rattle.overlap_sweep.specs.Search.{first_against, or_else}
use Rattle.reg_table.specs.Walk.{index_at}
use Rattle.svd_model.specs.declared.device.Field.{Field}
use Rattle.svd_model.specs.declared.sibling.Sibling.{Sibling}
use Rattle.svd_model.specs.Properties.{can_read, can_write, passes_at}

-- a member that can be accessed: the others share their bits with all
abbrev pub is_accessed : FieldSpot → Bool
is_accessed spot = spot.readable || spot.writable

-- those that are kept, with this one
abbrev pub kept_too : List FieldSpot → FieldSpot → List FieldSpot
kept_too kept spot = kept ++ cond (is_accessed spot) (spot ∷ []) []

-- the first pair of one that is kept or of these before, and one of these
unfoldable pub kept_pair : List FieldSpot → List FieldSpot → Option (FieldSpot × FieldSpot)
kept_pair kept [] = None
kept_pair kept (spot ∷ spots) =
    or_else (option_map (λ first. (first, spot)) (first_against field_meets spot kept)) (kept_pair (kept_too kept spot) spots)

-- what is kept behind all of these
unfoldable pub kept_all : List FieldSpot → List FieldSpot → List FieldSpot
kept_all kept [] = kept
kept_all kept (spot ∷ spots) = kept_all (kept_too kept spot) spots

-- a member of a declared field, which has these directions
abbrev pub declared_spot : Bool → Bool → Sibling → Field → Option ℕ → FieldSpot
declared_spot readable writable key field index = record {
  name = key.name;
  index = index;
  start = unwrap_or field.place.offset 0 + unwrap_or index 0 * unwrap_or field.dim.step 0;
  bits = unwrap_or field.place.width 1;
  readable = readable;
  writable = writable;
}

-- all members of a declared field
abbrev pub declared_spots : Bool → Bool → Sibling → Field → List FieldSpot
declared_spots readable writable key field =
    map (λ number. declared_spot readable writable key field (index_at field.dim.count number)) (range_with_len 0 (unwrap_or field.dim.count 1))

-- those of an entry, in a register of these directions
abbrev pub entry_spots : Bool → Bool → Sibling × Field → List FieldSpot
entry_spots readable writable entry =
    declared_spots (readable && passes_at can_read entry.1.access) (writable && passes_at can_write entry.1.access) entry.0 entry.1

-- those of all fields of a register of these directions
abbrev pub all_spots : Bool → Bool → List (Sibling × Field) → List FieldSpot
all_spots readable writable entries = flat_map (entry_spots readable writable) entries
