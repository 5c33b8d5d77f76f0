-- The calls of a field's enumerated values (CMSIS-SVD 1.3, `enumeratedValues` with `usage`; which values have a call
-- is this project's own rule).
use Rattle.std.specs.Prelude.{ℕ, ◌≤◌, ◌^◌, Bool, true, false, not, nat_lt, List, [], ◌∷◌, ◌++◌, length, map, filter, Option, Some, None, if◌then◌else◌}
use Rattle.std.specs.List.{filter_map, find, list_any, AllByRecursion}
use Rattle.std.specs.Str.{bytes_eq}
use Rattle.reg_table.specs.declared.calls.Direction.{Direction}
use Rattle.reg_table.specs.declared.calls.Direction.TheVariants.{Reading, Writing}
use Rattle.reg_table.specs.declared.row.Call.{Call}
use Rattle.svd_model.specs.declared.device.Values.{Values}
use Rattle.svd_model.specs.declared.device.Variant.{Variant}
use Rattle.svd_model.specs.Keys.{Key}
use Rattle.svd_model.specs.Stating.{value_of, stated_usage, stated_number}
use Rattle.svd_model.specs.Steps.{Step, same_step}
use Rattle.svd_rows.specs.LookUps.{inside, keys_of, children_of}
use Rattle.svd_rows.specs.Rows.{Row}
use Rattle.svd_values.specs.AccessorNames.{is_call_name, variant_call_name}
use Rattle.svd_values.specs.declared.schema_word.Usage.{Usage}
use Rattle.svd_values.specs.declared.schema_word.Usage.TheVariants.{Read, Write, ReadWrite}

-- the children of an element, each with its rows, seen from itself
unfoldable pub parts : List (Row Step Key) → List (Step × List (Row Step Key))
parts all = map (λ step. (step, inside same_step (step ∷ []) all)) (children_of all)

-- a set holds for reading; one that states no usage holds for both directions
abbrev pub serves_reading : Option Usage → Bool
serves_reading None = true
serves_reading (Some Read) = true
serves_reading (Some Write) = false
serves_reading (Some ReadWrite) = true

-- a set holds for writing
abbrev pub serves_writing : Option Usage → Bool
serves_writing None = true
serves_writing (Some Read) = false
serves_writing (Some Write) = true
serves_writing (Some ReadWrite) = true

-- an enumerated value: its name, and its number unless it is the default
abbrev pub value_part : (Step × List (Row Step Key)) → (List ℕ × Option ℕ)
value_part part = (part.0.name, value_of stated_number (keys_of part.1))

-- a set: its usage, and its values in order
abbrev pub set_part : (Step × List (Row Step Key)) → (Option Usage × List (List ℕ × Option ℕ))
set_part part = (value_of stated_usage (keys_of part.1), map value_part (parts part.1))

-- the sets of a field, in order
abbrev pub sets_of : List (Row Step Key) → List (Option Usage × List (List ℕ × Option ℕ))
sets_of own = map set_part (parts own)

-- a value that isn't default, and whose number the field holds, may have a call
abbrev pub call_of : (List ℕ → List ℕ) → ℕ → (List ℕ × Option ℕ) → Option Call
call_of name_of width value = by_number value.1
  where
    by_number : Option ℕ → Option Call
    by_number None = None
    by_number (Some n) = if nat_lt n (2 ^ width) then Some (record { name = name_of value.0; value = n }) else None

-- of the calls of one name the first
unfoldable pub first_of_each : List Call → List Call
first_of_each [] = []
first_of_each (call ∷ calls) = call ∷ filter (λ other. not (bytes_eq call.name other.name)) (first_of_each calls)

-- the calls of a list of values
unfoldable pub calls_of : (List ℕ → List ℕ) → ℕ → List (List ℕ × Option ℕ) → List Call
calls_of name_of width values = first_of_each (filter_map (call_of name_of width) values)

-- the calls of the first set that serves
abbrev pub set_calls_of : (Option Usage → Bool) → (List ℕ → List ℕ) → ℕ → List (Option Usage × List (List ℕ × Option ℕ)) → List Call
set_calls_of serves name_of width sets = of (find (λ set. serves set.0) sets)
  where
    of : Option (Option Usage × List (List ℕ × Option ℕ)) → List Call
    of None = []
    of (Some set) = calls_of name_of width set.1

-- ---- the same of the declared types

-- an enumerated value
abbrev pub plain_value : Variant → (List ℕ × Option ℕ)
plain_value variant = (variant.name, variant.value)

-- a set of enumerated values
abbrev pub plain_set : Values → (Option Usage × List (List ℕ × Option ℕ))
plain_set values = (values.usage, map plain_value values.items.items)

-- which sets serve a direction
abbrev pub serves : Direction → Option Usage → Bool
serves Reading usage = serves_reading usage
serves Writing usage = serves_writing usage

-- how the calls of a direction are named
abbrev pub name_for : Direction → List ℕ → List ℕ
name_for Reading name = is_call_name name
name_for Writing name = variant_call_name name

-- the name of a call
abbrev pub call_name : Call → List ℕ
call_name call = call.name

-- one of the calls has the name
abbrev pub is_taken : List Call → List ℕ → Bool
is_taken calls name = list_any (λ call. bytes_eq call.name name) calls

-- the calls, with one more where it is there and its name isn't taken
abbrev pub with_call : List Call → Option Call → List Call
with_call calls None = calls
with_call calls (Some call) = if is_taken calls call.name then calls else calls ++ call ∷ []

-- each value has a name
abbrev pub AreNamed : List Variant → Type 0
AreNamed values = AllByRecursion (λ value. 1 ≤ length value.name) values

-- so in each set
abbrev pub SetsAreNamed : List Values → Type 0
SetsAreNamed sets = AllByRecursion (λ set. AreNamed set.items.items) sets
