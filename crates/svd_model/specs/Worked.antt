-- The tree of a vendor's file with its rows beside it: a device of two timers, the second derived from the
-- first; and the tree of one of its fields, made of the declared types.
use Rattle.std.specs.Prelude.{◌≡◌, ℕ, List, [], ◌∷◌, ◌++◌, map, codes, Some, None, refl}
use Rattle.svd_model.specs.declared.device.Field.{Field}
use Rattle.svd_model.specs.Keys.{Key, device_name, derived_from, base_address, at_offset, bit_width, register_size, register_access, reset_value, reset_mask, enumerated_value}
use Rattle.svd_model.specs.Steps.{Step, Kind, peripheral, register, field, set, value}
use Rattle.svd_model.specs.Trees.{field_places}
use Rattle.svd_rows.specs.Forest.{Forest, Tree, leaf, node}
use Rattle.svd_rows.specs.Ranks.{stated}
use Rattle.svd_rows.specs.Rows.{Row, element, states, own, under, forest_rows, rows}
use Rattle.svd_values.specs.declared.schema_word.Access.TheVariants.{ReadWrite}

abbrev step : Kind → List ℕ → Step
step kind name = record { kind = kind; name = name; number = 0 }

abbrev tim2 : Step
tim2 = step peripheral (codes "TIM2")

abbrev tim3 : Step
tim3 = step peripheral (codes "TIM3")

abbrev cr1 : Step
cr1 = step register (codes "TIM_CR1")

abbrev sr : Step
sr = step register (codes "TIM_SR")

abbrev cen : Step
cen = step field (codes "CEN")

abbrev ckd : Step
ckd = step field (codes "CKD")

abbrev uif : Step
uif = step field (codes "UIF")

-- the set of CEN has no name of its own
abbrev states_of_cen : Step
states_of_cen = step set []

abbrev disabled : Step
disabled = step value (codes "Disabled")

abbrev enabled : Step
enabled = record { kind = value; name = codes "Enabled"; number = 1 }

abbrev plain : List ℕ → ℕ → Forest Step Key → Forest Step Key
plain name offset others = node (step register name) (at_offset offset ∷ []) leaf others

abbrev values : Forest Step Key
values = node disabled (enumerated_value 0 ∷ []) leaf (node enabled (enumerated_value 1 ∷ []) leaf leaf)

abbrev fields : Forest Step Key
fields =
    node cen (at_offset 0 ∷ bit_width 1 ∷ []) (node states_of_cen [] values leaf)
    (node ckd (at_offset 8 ∷ bit_width 2 ∷ []) leaf leaf)

abbrev registers : Forest Step Key
registers =
    node cr1 (at_offset 0 ∷ register_size 16 ∷ register_access ReadWrite ∷ []) fields
    (node sr (at_offset 0x10 ∷ []) (node uif (at_offset 0 ∷ bit_width 1 ∷ []) leaf leaf)
    (plain (codes "TIM_CNT") 0x24 (plain (codes "TIM_CCR1") 0x34 (plain (codes "TIM_CCR2") 0x38 (plain (codes "TIM_OLD") 0x50 leaf)))))

abbrev from_tim2 : Key
from_tim2 = derived_from (record { name = codes "TIM2"; index = None } ∷ [])

-- the tree of the file
abbrev vendor : Tree Step Key
vendor = record {
  keys = device_name (codes "EX32F1") ∷ register_size 32 ∷ reset_value 0 ∷ reset_mask 0xFFFFFFFF ∷ [];
  below =
      node tim2 (base_address 0x40000000 ∷ []) registers
      (node tim3 (from_tim2 ∷ base_address 0x40000400 ∷ []) leaf leaf);
}

-- the rows of one element: that it is there, and its keys
abbrev of : List Step → List Key → List (Row Step Key)
of path keys = record { path = path; said = element } ∷ map (λ key. record { path = path; said = states key }) keys

abbrev plain_rows : List ℕ → ℕ → List (Row Step Key)
plain_rows name offset = of (tim2 ∷ step register name ∷ []) (at_offset offset ∷ [])

-- its rows
pub rows-vendor : rows vendor
    ≡ of [] (device_name (codes "EX32F1") ∷ register_size 32 ∷ reset_value 0 ∷ reset_mask 0xFFFFFFFF ∷ [])
    ++ of (tim2 ∷ []) (base_address 0x40000000 ∷ [])
    ++ of (tim2 ∷ cr1 ∷ []) (at_offset 0 ∷ register_size 16 ∷ register_access ReadWrite ∷ [])
    ++ of (tim2 ∷ cr1 ∷ cen ∷ []) (at_offset 0 ∷ bit_width 1 ∷ [])
    ++ of (tim2 ∷ cr1 ∷ cen ∷ states_of_cen ∷ []) []
    ++ of (tim2 ∷ cr1 ∷ cen ∷ states_of_cen ∷ disabled ∷ []) (enumerated_value 0 ∷ [])
    ++ of (tim2 ∷ cr1 ∷ cen ∷ states_of_cen ∷ enabled ∷ []) (enumerated_value 1 ∷ [])
    ++ of (tim2 ∷ cr1 ∷ ckd ∷ []) (at_offset 8 ∷ bit_width 2 ∷ [])
    ++ of (tim2 ∷ sr ∷ []) (at_offset 0x10 ∷ [])
    ++ of (tim2 ∷ sr ∷ uif ∷ []) (at_offset 0 ∷ bit_width 1 ∷ [])
    ++ plain_rows (codes "TIM_CNT") 0x24
    ++ plain_rows (codes "TIM_CCR1") 0x34
    ++ plain_rows (codes "TIM_CCR2") 0x38
    ++ plain_rows (codes "TIM_OLD") 0x50
    ++ of (tim3 ∷ []) (from_tim2 ∷ base_address 0x40000400 ∷ [])
unfolding rows own under forest_rows
rows-vendor = refl

-- the field CKD of the declared types, which states its place alone: its keys are its offset and its width
pub keys-ckd : (ckd_field : Field) → ckd_field ≡ record { derived = None; dim = record { count = None; step = None; index = None }; place = record { offset = Some 8; width = Some 2 }; access = None; kind = None; action = None; values = ckd_field.values } → stated (field_places ckd_field) ≡ at_offset 8 ∷ bit_width 2 ∷ []
unfolding field_places stated
keys-ckd ckd_field is = λ i. stated (field_places (is i))
