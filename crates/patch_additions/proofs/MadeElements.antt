-- Elements that are made with the keys of an addition: what they lack, and their trees.
use Rattle.std.proofs.Common.{◌≡◌, ℕ, Bool, true, false, ◌||◌, List, [], ◌∷◌, codes, Option, Some, None, option_map, is_some, refl, sym, ap, ap₂, ◌∙◌}
use Rattle.std.specs.Prelude.{if◌then◌else◌}
use Rattle.std.specs.List.{list_any}
use Rattle.std.specs.Option.{option_or}
use Rattle.patch_additions.proofs.KeySets.{any-same, base-rank, made-has, of_rank, or-none, offset-rank, over-base, over-offset}
use Rattle.patch_additions.specs.Additions.{built_tree, key_text, lack_of, put_fields, put_registers}
use Rattle.patch_additions.specs.declared.addition.Needed.TheVariants.{BaseAddress, AddressOffset, BitOffset}
use Rattle.patch_model.specs.Acts.{AddedOne}
use Rattle.patch_sem.specs.Additions.{first_missing, is_base, keys_made}
use Rattle.patch_sem.specs.Settings.{keys_set, keys_with}
use Rattle.patch_settings.specs.Setting.{IsSet, sets_rank}
use Rattle.svd_model.specs.declared.device.Peripheral.{Peripheral}
use Rattle.svd_model.specs.declared.device.Register.{Register}
use Rattle.svd_schema.specs.declared.container.Container.TheVariants as container
use Rattle.svd_model.specs.declared.device.Field.{Field}
use Rattle.svd_model.specs.Facts.{is_derived, is_offset}
use Rattle.svd_model.specs.Keys.{Key, derived_from, dim_count, dim_increment, dim_index, base_address, at_offset, bit_width, register_access, write_kind, read_action}
use Rattle.svd_model.specs.Steps.{Step, peripheral, register, field}
use Rattle.svd_model.specs.Trees.{field_places, field_tree, peripheral_tree, register_tree}
use Rattle.svd_rows.specs.Forest.{Forest, Tree, leaf}
use Rattle.svd_rows.specs.Ranks.{stated}

-- does a field say where it stands?
abbrev pub says_where : Key → Bool
says_where key = is_offset key || is_derived key

abbrev in_place : Option Key → Bool
in_place None = false
in_place (Some key) = says_where key

any-stated : (places : List (Option Key)) → list_any says_where (stated places) ≡ list_any in_place places
unfolding stated
any-stated [] = refl
any-stated (None ∷ places) = any-stated places
any-stated (Some key ∷ places) = ap (λ (b : Bool). says_where key || b) (any-stated places)

passed : {A : Type 0} (key : A → Key) (o : Option A) (rest : List (Option Key)) → ((a : A) → says_where (key a) ≡ false) → list_any in_place (option_map key o ∷ rest) ≡ list_any in_place rest
passed key None rest other = refl
passed key (Some a) rest other = ap (λ (b : Bool). b || list_any in_place rest) (other a)

counts : {A : Type 0} (key : A → Key) (o : Option A) (rest : List (Option Key)) → ((a : A) → says_where (key a) ≡ true) → list_any in_place (option_map key o ∷ rest) ≡ (is_some o || list_any in_place rest)
counts key None rest is = refl
counts key (Some a) rest is = ap (λ (b : Bool). b || list_any in_place rest) (is a)

-- ---- the places of a field, from some place on

module _ (element : Field) where
  abbrev from_action : List (Option Key)
  from_action = option_map read_action element.action ∷ None ∷ None ∷ []

  abbrev from_kind : List (Option Key)
  from_kind = option_map write_kind element.kind ∷ from_action

  abbrev from_access : List (Option Key)
  from_access = option_map register_access element.access ∷ None ∷ None ∷ from_kind

  abbrev from_width : List (Option Key)
  from_width = option_map bit_width element.place.width ∷ None ∷ None ∷ None ∷ from_access

  abbrev from_offset : List (Option Key)
  from_offset = option_map at_offset element.place.offset ∷ from_width

  abbrev from_index : List (Option Key)
  from_index = option_map dim_index element.dim.index ∷ None ∷ from_offset

  abbrev from_step : List (Option Key)
  from_step = option_map dim_increment element.dim.step ∷ from_index

  abbrev from_count : List (Option Key)
  from_count = option_map dim_count element.dim.count ∷ from_step

  -- where it has a source, or an offset
  pub field-says : list_any says_where (stated (field_places element)) ≡ (is_some element.derived || is_some element.place.offset)
  unfolding field_places
  field-says =
      any-stated (field_places element)
      ∙ counts derived_from element.derived from_count (λ a. refl)
      ∙ ap (λ (b : Bool). is_some element.derived || b)
      (passed dim_count element.dim.count from_step (λ a. refl)
      ∙ passed dim_increment element.dim.step from_index (λ a. refl)
      ∙ passed dim_index element.dim.index (None ∷ from_offset) (λ a. refl)
      ∙ counts at_offset element.place.offset from_width (λ a. refl)
      ∙ ap (λ (b : Bool). is_some element.place.offset || b)
      (passed bit_width element.place.width (None ∷ None ∷ None ∷ from_access) (λ a. refl)
      ∙ passed register_access element.access (None ∷ None ∷ from_kind) (λ a. refl)
      ∙ passed write_kind element.kind from_action (λ a. refl)
      ∙ passed read_action element.action (None ∷ None ∷ []) (λ a. refl))
      ∙ or-none (is_some element.place.offset))

-- ---- what an element lacks

none_where : (b : Bool) (text : List ℕ) → b ≡ true → (if b then None else Some text) ≡ None
none_where true text is = refl
none_where false text is = absurd cc

some_where : (b : Bool) (text : List ℕ) → b ≡ false → (if b then None else Some text) ≡ Some text
some_where true text is = absurd cc
some_where false text is = refl

tree-is : (tree : Tree Step Key) (keys : List Key) (below : Forest Step Key) → tree.keys ≡ keys → tree.below ≡ below → tree ≡ record { keys = keys; below = below }
tree-is tree keys below one other = ap₂ (λ (k : List Key) (b : Forest Step Key). record { keys = k; below = b }) one other

module _ (one : AddedOne) where
  -- ---- fields

  module _ (old made : Field) (empty : (field_tree old).keys ≡ []) (bare : (field_tree old).below ≡ leaf) (set : IsSet container.Field one.keys (field_tree old) (field_tree made)) where
    field-keys : (field_tree made).keys ≡ keys_made field one.keys
    field-keys = set.keys ∙ ap (keys_with (keys_set container.Field one.keys)) empty

    field-stands : list_any says_where (keys_made field one.keys) ≡ (is_some made.derived || is_some made.place.offset)
    field-stands = ap (list_any says_where) (sym field-keys) ∙ field-says made

    pub field-made : (is_some made.derived || is_some made.place.offset) ≡ true → (lack_of field one ≡ None) × (field_tree made ≡ built_tree field one)
    field-made is = (
      ap (λ (lack : Option (List ℕ)). option_or lack None) (none_where (list_any says_where (keys_made field one.keys)) (codes "bitOffset") (field-stands ∙ is)),
      tree-is (field_tree made) (keys_made field one.keys) leaf field-keys (set.below ∙ bare),
    )

    pub field-lacks : (is_some made.derived || is_some made.place.offset) ≡ false → lack_of field one ≡ Some (key_text BitOffset)
    field-lacks is = ap (λ (lack : Option (List ℕ)). option_or lack None) (some_where (list_any says_where (keys_made field one.keys)) (codes "bitOffset") (field-stands ∙ is))

  -- ---- registers

  offset-stands : list_any is_offset (keys_made register one.keys) ≡ sets_rank 6 container.Register one.keys
  offset-stands = any-same is_offset (of_rank 6) offset-rank (keys_made register one.keys) ∙ made-has 6 (keys_set container.Register one.keys)

  pub register-lacks : sets_rank 6 container.Register one.keys ≡ false → lack_of register one ≡ Some (key_text AddressOffset)
  register-lacks none =
      ap (λ (lack : Option (List ℕ)). option_or lack (first_missing field one.fields)) (some_where (list_any is_offset (keys_made register one.keys)) (codes "addressOffset") (offset-stands ∙ none))

  pub register-within : sets_rank 6 container.Register one.keys ≡ true → lack_of register one ≡ first_missing field one.fields
  register-within is =
      ap (λ (lack : Option (List ℕ)). option_or lack (first_missing field one.fields)) (none_where (list_any is_offset (keys_made register one.keys)) (codes "addressOffset") (offset-stands ∙ is))

  pub register-made : (old made : Register) → (register_tree old).keys ≡ at_offset 0 ∷ [] → (register_tree old).below ≡ put_fields one.fields leaf → first_missing field one.fields ≡ None → IsSet container.Register one.keys (register_tree old) (register_tree made) → sets_rank 6 container.Register one.keys ≡ true → (lack_of register one ≡ None) × (register_tree made ≡ built_tree register one)
  register-made old made start below none set is = (
    register-within is ∙ none,
    tree-is (register_tree made) (keys_made register one.keys) (put_fields one.fields leaf)
        (set.keys ∙ ap (keys_with (keys_set container.Register one.keys)) start ∙ over-offset 0 (keys_set container.Register one.keys) is)
        (set.below ∙ below),
  )

  -- ---- peripherals

  base-stands : list_any is_base (keys_made peripheral one.keys) ≡ sets_rank 5 container.Peripheral one.keys
  base-stands = any-same is_base (of_rank 5) base-rank (keys_made peripheral one.keys) ∙ made-has 5 (keys_set container.Peripheral one.keys)

  pub peripheral-lacks : sets_rank 5 container.Peripheral one.keys ≡ false → lack_of peripheral one ≡ Some (key_text BaseAddress)
  peripheral-lacks none =
      ap (λ (lack : Option (List ℕ)). option_or lack (first_missing register one.registers)) (some_where (list_any is_base (keys_made peripheral one.keys)) (codes "baseAddress") (base-stands ∙ none))

  pub peripheral-within : sets_rank 5 container.Peripheral one.keys ≡ true → lack_of peripheral one ≡ first_missing register one.registers
  peripheral-within is =
      ap (λ (lack : Option (List ℕ)). option_or lack (first_missing register one.registers)) (none_where (list_any is_base (keys_made peripheral one.keys)) (codes "baseAddress") (base-stands ∙ is))

  pub peripheral-made : (old made : Peripheral) → (peripheral_tree old).keys ≡ base_address 0 ∷ [] → (peripheral_tree old).below ≡ put_registers one.registers → first_missing register one.registers ≡ None → IsSet container.Peripheral one.keys (peripheral_tree old) (peripheral_tree made) → sets_rank 5 container.Peripheral one.keys ≡ true → (lack_of peripheral one ≡ None) × (peripheral_tree made ≡ built_tree peripheral one)
  peripheral-made old made start below none set is = (
    peripheral-within is ∙ none,
    tree-is (peripheral_tree made) (keys_made peripheral one.keys) (put_registers one.registers)
        (set.keys ∙ ap (keys_with (keys_set container.Peripheral one.keys)) start ∙ over-base 0 (keys_set container.Peripheral one.keys) is)
        (set.below ∙ below),
  )
