-- The keys of each element stand in the places of their ranks.
use Rattle.std.proofs.Common.{◌≡◌, ℕ, ◌+◌, List, [], ◌∷◌, Option, None, Some, option_map, refl}
use Rattle.svd_model.specs.declared.device.Child.TheOpen.{Cluster-F}
use Rattle.svd_model.specs.declared.device.Device.{Device}
use Rattle.svd_model.specs.declared.device.Field.{Field}
use Rattle.svd_model.specs.declared.device.Peripheral.{Peripheral}
use Rattle.svd_model.specs.declared.device.Register.{Register}
use Rattle.svd_model.specs.declared.device.Values.{Values}
use Rattle.svd_model.specs.declared.device.Variant.{Variant}
use Rattle.svd_model.specs.Keys.{Key, rank, derived_from, dim_count, dim_increment, dim_index, base_address, at_offset, bit_width, alternate_of, alternate_group, register_size, register_access, reset_value, reset_mask, write_kind, read_action, device_name, value_usage, enumerated_value}
use Rattle.svd_model.specs.Trees.{device_places, peripheral_places, cluster_places, register_places, field_places, set_places, value_places}
use Rattle.svd_rows.specs.Ranks.{IsPlaced}

module _ (first : ℕ) (places : List (Option Key)) where
  no_key : IsPlaced rank (first + 1) places → IsPlaced rank first (None ∷ places)
  unfolding IsPlaced
  no_key rest = rest

  one_key : (key : Key) → rank key ≡ first → IsPlaced rank (first + 1) places → IsPlaced rank first (Some key ∷ places)
  unfolding IsPlaced
  one_key key ranked rest = (ranked, rest)

  a_key : {A : Type 0} (key : A → Key) (o : Option A) → ((a : A) → rank (key a) ≡ first) → IsPlaced rank (first + 1) places → IsPlaced rank first (option_map key o ∷ places)
  unfolding IsPlaced
  a_key key None ranked rest = rest
  a_key key (Some a) ranked rest = (ranked a, rest)

none_left : (first : ℕ) → IsPlaced rank first []
unfolding IsPlaced
none_left first = tt

pub device-placed : (element : Device) → IsPlaced rank 0 (device_places element)
unfolding device_places rank
device-placed element =
    one_key 0 _ (device_name element.name) refl (no_key 1 _ (no_key 2 _ (no_key 3 _ (no_key 4 _ (no_key 5 _ (no_key 6 _ (no_key 7 _ (no_key 8 _ (no_key 9 _ (a_key 10 _ register_size element.props.size (λ _. refl) (a_key 11 _ register_access element.props.access (λ _. refl) (a_key 12 _ reset_value element.props.reset_value (λ _. refl) (a_key 13 _ reset_mask element.props.reset_mask (λ _. refl) (no_key 14 _ (no_key 15 _ (no_key 16 _ (no_key 17 _ (none_left 18))))))))))))))))))

pub peripheral-placed : (element : Peripheral) → IsPlaced rank 0 (peripheral_places element)
unfolding peripheral_places rank
peripheral-placed element =
    no_key 0 _ (a_key 1 _ derived_from element.derived (λ _. refl) (a_key 2 _ dim_count element.dim.count (λ _. refl) (a_key 3 _ dim_increment element.dim.step (λ _. refl) (a_key 4 _ dim_index element.dim.index (λ _. refl) (one_key 5 _ (base_address element.base) refl (no_key 6 _ (no_key 7 _ (no_key 8 _ (no_key 9 _ (a_key 10 _ register_size element.props.size (λ _. refl) (a_key 11 _ register_access element.props.access (λ _. refl) (a_key 12 _ reset_value element.props.reset_value (λ _. refl) (a_key 13 _ reset_mask element.props.reset_mask (λ _. refl) (no_key 14 _ (no_key 15 _ (no_key 16 _ (no_key 17 _ (none_left 18))))))))))))))))))

pub cluster-placed : {A B C : Type 0} (element : Cluster-F A B C) → IsPlaced rank 0 (cluster_places element)
unfolding cluster_places rank
cluster-placed element =
    no_key 0 _ (a_key 1 _ derived_from element.derived (λ _. refl) (a_key 2 _ dim_count element.dim.count (λ _. refl) (a_key 3 _ dim_increment element.dim.step (λ _. refl) (a_key 4 _ dim_index element.dim.index (λ _. refl) (no_key 5 _ (one_key 6 _ (at_offset element.offset) refl (no_key 7 _ (a_key 8 _ alternate_of element.alternate (λ _. refl) (no_key 9 _ (a_key 10 _ register_size element.props.size (λ _. refl) (a_key 11 _ register_access element.props.access (λ _. refl) (a_key 12 _ reset_value element.props.reset_value (λ _. refl) (a_key 13 _ reset_mask element.props.reset_mask (λ _. refl) (no_key 14 _ (no_key 15 _ (no_key 16 _ (no_key 17 _ (none_left 18))))))))))))))))))

pub register-placed : (element : Register) → IsPlaced rank 0 (register_places element)
unfolding register_places rank
register-placed element =
    no_key 0 _ (a_key 1 _ derived_from element.derived (λ _. refl) (a_key 2 _ dim_count element.dim.count (λ _. refl) (a_key 3 _ dim_increment element.dim.step (λ _. refl) (a_key 4 _ dim_index element.dim.index (λ _. refl) (no_key 5 _ (one_key 6 _ (at_offset element.offset) refl (no_key 7 _ (a_key 8 _ alternate_of element.alternate (λ _. refl) (a_key 9 _ alternate_group element.group (λ _. refl) (a_key 10 _ register_size element.props.size (λ _. refl) (a_key 11 _ register_access element.props.access (λ _. refl) (a_key 12 _ reset_value element.props.reset_value (λ _. refl) (a_key 13 _ reset_mask element.props.reset_mask (λ _. refl) (a_key 14 _ write_kind element.kind (λ _. refl) (a_key 15 _ read_action element.action (λ _. refl) (no_key 16 _ (no_key 17 _ (none_left 18))))))))))))))))))

pub field-placed : (element : Field) → IsPlaced rank 0 (field_places element)
unfolding field_places rank
field-placed element =
    no_key 0 _ (a_key 1 _ derived_from element.derived (λ _. refl) (a_key 2 _ dim_count element.dim.count (λ _. refl) (a_key 3 _ dim_increment element.dim.step (λ _. refl) (a_key 4 _ dim_index element.dim.index (λ _. refl) (no_key 5 _ (a_key 6 _ at_offset element.place.offset (λ _. refl) (a_key 7 _ bit_width element.place.width (λ _. refl) (no_key 8 _ (no_key 9 _ (no_key 10 _ (a_key 11 _ register_access element.access (λ _. refl) (no_key 12 _ (no_key 13 _ (a_key 14 _ write_kind element.kind (λ _. refl) (a_key 15 _ read_action element.action (λ _. refl) (no_key 16 _ (no_key 17 _ (none_left 18))))))))))))))))))

pub set-placed : (element : Values) → IsPlaced rank 0 (set_places element)
unfolding set_places rank
set-placed element =
    no_key 0 _ (a_key 1 _ derived_from element.derived (λ _. refl) (no_key 2 _ (no_key 3 _ (no_key 4 _ (no_key 5 _ (no_key 6 _ (no_key 7 _ (no_key 8 _ (no_key 9 _ (no_key 10 _ (no_key 11 _ (no_key 12 _ (no_key 13 _ (no_key 14 _ (no_key 15 _ (a_key 16 _ value_usage element.usage (λ _. refl) (no_key 17 _ (none_left 18))))))))))))))))))

pub value-placed : (element : Variant) → IsPlaced rank 0 (value_places element)
unfolding value_places rank
value-placed element =
    no_key 0 _ (no_key 1 _ (no_key 2 _ (no_key 3 _ (no_key 4 _ (no_key 5 _ (no_key 6 _ (no_key 7 _ (no_key 8 _ (no_key 9 _ (no_key 10 _ (no_key 11 _ (no_key 12 _ (no_key 13 _ (no_key 14 _ (no_key 15 _ (no_key 16 _ (a_key 17 _ enumerated_value element.value (λ _. refl) (none_left 18))))))))))))))))))
