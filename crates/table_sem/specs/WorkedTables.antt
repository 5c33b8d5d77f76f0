-- Small descriptions as flat rows, for worked rows.
use Rattle.std.specs.Prelude.{ℕ, List, [], ◌∷◌, codes}
use Rattle.svd_model.specs.Keys.{Key, at_offset, base_address, bit_width, dim_count, dim_increment, enumerated_value, register_access, register_size, reset_mask, reset_value, write_kind}
use Rattle.svd_model.specs.Steps.{Step, Kind, cluster, field, peripheral, register, set, value}
use Rattle.svd_rows.specs.Forest.{Forest, leaf, node}
use Rattle.svd_rows.specs.Rows.{Row, rows}
use Rattle.svd_values.specs.declared.schema_word.Access.TheVariants.{ReadOnly, WriteOnly}
use Rattle.svd_values.specs.declared.schema_word.WriteKind.TheVariants.{OneToClear, ZeroToClear}

abbrev step : Kind → List ℕ → Step
step kind name = record { kind = kind; name = name; number = 0 }

-- the peripheral T at 0x40000000, with these registers and clusters
abbrev pub in_t : Forest Step Key → List (Row Step Key)
in_t children = rows (record { keys = []; below = node (step peripheral (codes "T")) (base_address 0x40000000 ∷ []) children leaf })

-- a register with these keys and fields, and those behind it
abbrev pub with_register : List ℕ → List Key → Forest Step Key → Forest Step Key → Forest Step Key
with_register name keys fields others = node (step register name) keys fields others

-- a field of so many bits, with these keys beside its place
abbrev pub with_field : List ℕ → ℕ → ℕ → List Key → Forest Step Key → Forest Step Key
with_field name offset width keys others = node (step field name) (at_offset offset ∷ bit_width width ∷ keys) leaf others

-- `CR`, without a field
abbrev pub plain : List (Row Step Key)
plain = in_t (with_register (codes "CR") (at_offset 0 ∷ []) leaf leaf)

-- `SR`, whose word after a reset is 3: `F0` at bit 0 is cleared by writing 1, `F1` at bit 1 is a plain bit
abbrev pub status_rows : List (Row Step Key)
status_rows = in_t (with_register (codes "SR") (at_offset 0 ∷ reset_value 3 ∷ []) (with_field (codes "F0") 0 1 (write_kind OneToClear ∷ []) (with_field (codes "F1") 1 1 [] leaf)) leaf)

-- `SR` with `F4` at bit 4, which is cleared by writing 0
abbrev pub cleared_by_zero : List (Row Step Key)
cleared_by_zero = in_t (with_register (codes "SR") (at_offset 0 ∷ []) (with_field (codes "F4") 4 1 (write_kind ZeroToClear ∷ []) leaf) leaf)

-- `R` with two fields at bit 0, one cleared by writing 1 and one by writing 0
abbrev pub both_at_0 : List (Row Step Key)
both_at_0 = in_t (with_register (codes "R") (at_offset 0 ∷ []) (with_field (codes "F0") 0 1 (write_kind OneToClear ∷ []) (with_field (codes "G") 0 1 (write_kind ZeroToClear ∷ []) leaf)) leaf)

-- `L` of 64 bits, all of them the field `V`
abbrev pub long : List (Row Step Key)
long = in_t (with_register (codes "L") (at_offset 0 ∷ register_size 64 ∷ []) (with_field (codes "V") 0 64 [] leaf) leaf)

-- `B` of 8 bits, whose reset value states more
abbrev pub cut : List (Row Step Key)
cut = in_t (with_register (codes "B") (at_offset 0 ∷ register_size 8 ∷ reset_value 0x1A5 ∷ reset_mask 0xFFFFFFFF ∷ []) leaf leaf)

-- `CH[%s]`: four registers, 16 bytes apart
abbrev pub channels : List (Row Step Key)
channels = in_t (with_register (codes "CH[%s]") (dim_count 4 ∷ dim_increment 16 ∷ at_offset 0 ∷ []) leaf leaf)

-- `A` that is written alone, and `B` that is read alone
abbrev pub one_way : List (Row Step Key)
one_way = in_t (with_register (codes "A") (at_offset 0 ∷ register_access WriteOnly ∷ []) leaf (with_register (codes "B") (at_offset 4 ∷ register_access ReadOnly ∷ []) leaf leaf))

-- `CL[%s]` of two, 0x20 bytes apart from 0x100 on, with the register `R` at 4 in it
abbrev pub nested : List (Row Step Key)
nested = in_t (node (step cluster (codes "CL[%s]")) (dim_count 2 ∷ dim_increment 0x20 ∷ at_offset 0x100 ∷ []) (with_register (codes "R") (at_offset 4 ∷ []) leaf leaf) leaf)

-- `SR` with `MODE`, three bits at bit 4, of whose values one is 3 and named `Fast`
abbrev pub with_mode : List (Row Step Key)
with_mode = in_t (with_register (codes "SR") (at_offset 0 ∷ reset_value 0xFF ∷ []) (
    node (step field (codes "MODE")) (at_offset 4 ∷ bit_width 3 ∷ [])
    (node (step set []) [] (node (step value (codes "Fast")) (enumerated_value 3 ∷ []) leaf leaf) leaf) leaf) leaf)

-- `SR` with `LV[%s]`: four fields of two bits, eight bits apart
abbrev pub with_levels : List (Row Step Key)
with_levels = in_t (with_register (codes "SR") (at_offset 0 ∷ []) (node (step field (codes "LV[%s]")) (dim_count 4 ∷ dim_increment 8 ∷ at_offset 0 ∷ bit_width 2 ∷ []) leaf leaf) leaf)
