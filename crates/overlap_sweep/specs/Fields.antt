-- Which members of fields of one register share a bit and may not: those that are both readable or both writable (this
-- project's own rule).
use Rattle.std.specs.Prelude.{ℕ, ◌+◌, Bool, ◌&&◌, ◌||◌, nat_lt, List, [], ◌∷◌, map, filter, Option, None, Some, option_map}
use Rattle.std.specs.List.{flat_map}
use Rattle.pac_base.specs.declared.path.Step.{Step as Written}
use Rattle.overlap_sweep.specs.declared.field.FieldPair.{FieldPair}
use Rattle.overlap_sweep.specs.declared.field.FieldSpot.{FieldSpot}
use Rattle.reg_table.specs.Calls.{parts}
use Rattle.reg_table.specs.Fields.{width_in}
use Rattle.reg_table.specs.Registers.{access_of}
use Rattle.svd_model.specs.declared.props.Props.{Props}
use Rattle.svd_model.specs.Checking.{bit_of, pairs_behind}
use Rattle.svd_model.specs.Keys.{Key}
use Rattle.svd_model.specs.Properties.{can_read, can_write, passes_at}
use Rattle.svd_model.specs.Stating.{value_of, stated_access, stated_dim, indexes_of}
use Rattle.svd_model.specs.Steps.{Step}
use Rattle.svd_rows.specs.LookUps.{keys_of}
use Rattle.svd_rows.specs.Rows.{Row}
use Rattle.svd_values.specs.declared.schema_word.Access.{Access}

-- the first of a list
abbrev pub first_of : {A : Type 0} → List A → Option A
first_of [] = None
first_of (x ∷ xs) = Some x

-- two ranges of so many from these numbers on share one
abbrev pub share_one : ℕ → ℕ → ℕ → ℕ → Bool
share_one start count other_start other_count = nat_lt start (other_start + other_count) && nat_lt other_start (start + count)

-- a member of a field of a register with this access, from the rows at and below the field
unfoldable pub field_spot : Access → (Step × List (Row Step Key)) → Option ℕ → FieldSpot
field_spot access part index = record {
  name = part.0.name;
  index = index;
  start = bit_of (keys_of part.1) index;
  bits = width_in (keys_of part.1);
  readable = can_read access && passes_at can_read (value_of stated_access (keys_of part.1));
  writable = can_write access && passes_at can_write (value_of stated_access (keys_of part.1));
}

-- the members of the fields of a register with this access, in document order
unfoldable pub field_spots : Access → List (Row Step Key) → List FieldSpot
field_spots access own = flat_map (λ part. map (field_spot access part) (indexes_of (value_of stated_dim (keys_of part.1)))) (parts own)

-- two members of fields share a bit, and are both readable or both writable
unfoldable pub field_meets : FieldSpot → FieldSpot → Bool
field_meets one other =
    share_one one.start one.bits other.start other.bits && ((one.readable && other.readable) || (one.writable && other.writable))

abbrev pub passes : {A : Type 0} → (A → A → Bool) → A × A → Bool
passes test pair = test pair.0 pair.1

-- all pairs of members of a register's fields that share a bit and may not, by the second and then by the first, where
-- these properties hold at the register, from the rows at and below it
unfoldable pub field_pairs : Props → List (Row Step Key) → List (FieldSpot × FieldSpot)
field_pairs props own = filter (passes field_meets) (pairs_behind [] (field_spots (access_of props own) own))

-- the step of a member of a field as it is told
abbrev pub told_field : FieldSpot → Written
told_field spot = record { name = spot.name; index = spot.index }

abbrev pub told_fields : FieldSpot × FieldSpot → FieldPair
told_fields pair = record { first = told_field pair.0; second = told_field pair.1 }

-- the first pair, as it is told
unfoldable pub shared_fields : Props → List (Row Step Key) → Option FieldPair
shared_fields props own = option_map told_fields (first_of (field_pairs props own))
