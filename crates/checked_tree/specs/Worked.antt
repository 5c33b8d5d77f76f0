-- Worked rows: a register and an array of clusters in a peripheral, the fields of the register, and addresses at which a register may stand.
use Rattle.std.specs.Prelude.{◌≡◌, ℕ, ◌%◌, List, [], ◌∷◌, codes, None, refl}
use Rattle.checked_tree.specs.Kinds.{AreFields, AreOf}
use Rattle.checked_tree.specs.Names.{accessor_names, marker_names, slot_names}
use Rattle.checked_tree.specs.Places.{bytes_at}
use Rattle.rust_names.specs.Keywords.{is_keyword}
use Rattle.rust_names.specs.PreludeNames.{is_prelude_name}
use Rattle.svd_model.specs.declared.props.Props.{Props}
use Rattle.svd_model.specs.Keys.{Key, at_offset, base_address, bit_width, dim_count, dim_increment, enumerated_value}
use Rattle.svd_model.specs.Steps.{Step, Kind, cluster, field, peripheral, register, set, value}
use Rattle.svd_rows.specs.Forest.{Forest, leaf, node, steps}

abbrev step : Kind → List ℕ → Step
step kind name = record { kind = kind; name = name; number = 0 }

-- the field EN with a value, and the field 2ND
abbrev fields : Forest Step Key
fields =
    node (step field (codes "EN")) (at_offset 0 ∷ bit_width 1 ∷ []) (node (step set []) [] (node (step value (codes "On")) (enumerated_value 1 ∷ []) leaf leaf) leaf)
    (node (step field (codes "2ND")) (at_offset 1 ∷ []) leaf leaf)

-- the register `type` with these fields, and the array CH of four clusters
abbrev children : Forest Step Key
children =
    node (step register (codes "type")) (at_offset 0 ∷ []) fields
    (node (step cluster (codes "CH[%s]")) (dim_count 4 ∷ dim_increment 16 ∷ at_offset 32 ∷ []) (node (step register (codes "CR")) (at_offset 4 ∷ []) leaf leaf) leaf)

-- keywords take an underscore at their end, and arrays lose their mark
pub accessors : accessor_names children ≡ codes "type_" ∷ codes "ch" ∷ []
unfolding steps is_keyword is_prelude_name
accessors = refl

-- markers stand as names are written, slots too
pub markers : marker_names fields ≡ codes "EN_F" ∷ codes "_2ND_F" ∷ []
unfolding steps
markers = refl

pub slots : slot_names (node (step peripheral (codes "TIM1")) (base_address 0x40000000 ∷ []) children leaf) ≡ codes "TIM1" ∷ []
unfolding steps is_keyword
slots = refl

-- a value stands in a set, and the set in a field
pub only_fields : AreFields fields
unfolding AreOf
only_fields = (refl, (refl, (refl, refl, tt), tt), (refl, tt, tt))

-- a register of 32 bits, as it is where no size is stated, stands at multiples of 4: at the last one below 2^64, but not two bytes behind one
abbrev no_props : Props
no_props = record { size = None; access = None; reset_value = None; reset_mask = None }

pub aligned : 0xFFFFFFFFFFFFFFFC % bytes_at no_props ≡ 0
aligned = refl

pub uneven : 0x40000002 % bytes_at no_props ≡ 2
uneven = refl
