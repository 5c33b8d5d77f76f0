-- What the keys of an element state, where they stand in the places of their ranks.
use Rattle.std.proofs.Common.{◌≡◌, ◌≢◌, ℕ, ◌+◌, ◌<◌, zero, suc, List, [], ◌∷◌, map, Option, None, Some, option_map, option_and_then, unwrap_or, refl, ap, ◌∙◌, arith}
use Rattle.overlap_check.specs.declared.place.Place.{Place}
use Rattle.svd_model.specs.declared.device.Child.TheOpen.{Cluster-F}
use Rattle.svd_model.specs.declared.device.Device.{Device}
use Rattle.svd_model.specs.declared.device.Field.{Field}
use Rattle.svd_model.specs.declared.device.Peripheral.{Peripheral}
use Rattle.svd_model.specs.declared.device.Register.{Register}
use Rattle.svd_model.specs.Keys.{Key, rank, dim_count, dim_increment, base_address, at_offset, bit_width, register_size}
use Rattle.svd_model.specs.Properties.{nearest}
use Rattle.svd_model.specs.Stating.{value_of, stated_dim, stated_increment, stated_base, stated_offset, stated_width, stated_size}
use Rattle.svd_model.specs.Trees.{device_places, peripheral_places, cluster_places, register_places, field_places}
use Rattle.svd_model.proofs.Placed.{device-placed, peripheral-placed, cluster-placed, register-placed, field-placed}
use Rattle.svd_rows.specs.Ranks.{IsPlaced, stated}
use Rattle.overlap_check.specs.Walks.{entered, entered_by, bits_at}

-- the key at a place
abbrev place_at : List (Option Key) → ℕ → Option Key
place_at [] n = None
place_at (place ∷ places) zero = place
place_at (place ∷ places) (suc n) = place_at places n

module _ {A : Type 0} (one : Key → Option A) (r : ℕ) (alone : (key : Key) → rank key ≢ r → one key ≡ None) where
  skipped : (key : Key) (keys : List Key) → one key ≡ None → value_of one (key ∷ keys) ≡ value_of one keys
  unfolding value_of
  skipped key keys e = ap (λ o. nearest (o ∷ map one keys)) e

  value_of-later : (first : ℕ) (places : List (Option Key)) → r < first → IsPlaced rank first places → value_of one (stated places) ≡ None
  unfolding value_of stated IsPlaced
  value_of-later first [] later placed = refl
  value_of-later first (None ∷ places) later placed = value_of-later (first + 1) places (omega arith) placed
  value_of-later first (Some key ∷ places) later placed =
      let apart : rank key ≢ r = omega (arith, placed.0) in
      skipped key (stated places) (alone key apart) ∙ value_of-later (first + 1) places (omega arith) placed.1

  value_of-placed : (first n : ℕ) (places : List (Option Key)) → r ≡ first + n → IsPlaced rank first places → value_of one (stated places) ≡ option_and_then one (place_at places n)
  unfolding value_of stated IsPlaced
  value_of-placed first n [] is placed = refl
  value_of-placed first zero (None ∷ places) is placed = value_of-later (first + 1) places (omega arith) placed
  value_of-placed first zero (Some key ∷ places) is placed = by (one key) (value_of-later (first + 1) places (omega arith) placed.1)
    where
      by : (o : Option A) → nearest (map one (stated places)) ≡ None → nearest (o ∷ map one (stated places)) ≡ o
      by None rest = rest
      by (Some x) rest = refl
  value_of-placed first (suc n) (None ∷ places) is placed = value_of-placed (first + 1) n places (omega arith) placed
  value_of-placed first (suc n) (Some key ∷ places) is placed =
      let apart : rank key ≢ r = omega (arith, placed.0) in
      skipped key (stated places) (alone key apart) ∙ value_of-placed (first + 1) n places (omega arith) placed.1

dim-alone : (key : Key) → rank key ≢ 2 → stated_dim key ≡ None
unfolding rank
dim-alone (dim_count n) apart = absurd (apart refl)
dim-alone _ apart = refl

increment-alone : (key : Key) → rank key ≢ 3 → stated_increment key ≡ None
unfolding rank
increment-alone (dim_increment n) apart = absurd (apart refl)
increment-alone _ apart = refl

base-alone : (key : Key) → rank key ≢ 5 → stated_base key ≡ None
unfolding rank
base-alone (base_address n) apart = absurd (apart refl)
base-alone _ apart = refl

offset-alone : (key : Key) → rank key ≢ 6 → stated_offset key ≡ None
unfolding rank
offset-alone (at_offset n) apart = absurd (apart refl)
offset-alone _ apart = refl

width-alone : (key : Key) → rank key ≢ 7 → stated_width key ≡ None
unfolding rank
width-alone (bit_width n) apart = absurd (apart refl)
width-alone _ apart = refl

size-alone : (key : Key) → rank key ≢ 10 → stated_size key ≡ None
unfolding rank
size-alone (register_size n) apart = absurd (apart refl)
size-alone _ apart = refl

-- a value that is put into its key and taken out again
module _ {A : Type 0} where
  again : (one : Key → Option A) (key : A → Key) → ((x : A) → one (key x) ≡ Some x) → (o : Option A) → option_and_then one (option_map key o) ≡ o
  again one key back None = refl
  again one key back (Some x) = back x

dim-again : (o : Option ℕ) → option_and_then stated_dim (option_map dim_count o) ≡ o
dim-again o = again stated_dim dim_count (λ x. refl) o

increment-again : (o : Option ℕ) → option_and_then stated_increment (option_map dim_increment o) ≡ o
increment-again o = again stated_increment dim_increment (λ x. refl) o

offset-again : (o : Option ℕ) → option_and_then stated_offset (option_map at_offset o) ≡ o
offset-again o = again stated_offset at_offset (λ x. refl) o

width-again : (o : Option ℕ) → option_and_then stated_width (option_map bit_width o) ≡ o
width-again o = again stated_width bit_width (λ x. refl) o

size-again : (o : Option ℕ) → option_and_then stated_size (option_map register_size o) ≡ o
size-again o = again stated_size register_size (λ x. refl) o

-- what is stated by keys that stand in their places
record Says (places : List (Option Key)) (count step base offset size : Option ℕ) : Type 0 where
  dims : value_of stated_dim (stated places) ≡ count
  increments : value_of stated_increment (stated places) ≡ step
  bases : value_of stated_base (stated places) ≡ base
  offsets : value_of stated_offset (stated places) ≡ offset
  sizes : value_of stated_size (stated places) ≡ size

says : (places : List (Option Key)) (count step base offset size : Option ℕ) → IsPlaced rank 0 places → option_and_then stated_dim (place_at places 2) ≡ count → option_and_then stated_increment (place_at places 3) ≡ step → option_and_then stated_base (place_at places 5) ≡ base → option_and_then stated_offset (place_at places 6) ≡ offset → option_and_then stated_size (place_at places 10) ≡ size → Says places count step base offset size
says places count step base offset size placed dims increments bases offsets sizes = record {
  dims = value_of-placed stated_dim 2 dim-alone 0 2 places (omega arith) placed ∙ dims;
  increments = value_of-placed stated_increment 3 increment-alone 0 3 places (omega arith) placed ∙ increments;
  bases = value_of-placed stated_base 5 base-alone 0 5 places (omega arith) placed ∙ bases;
  offsets = value_of-placed stated_offset 6 offset-alone 0 6 places (omega arith) placed ∙ offsets;
  sizes = value_of-placed stated_size 10 size-alone 0 10 places (omega arith) placed ∙ sizes;
}

entered-says : (places : List (Option Key)) (count step base offset size : Option ℕ) (start : ℕ) (outer : Place) → Says places count step base offset size → unwrap_or base 0 + unwrap_or offset 0 ≡ start → entered (stated places) outer ≡ entered_by outer count step start size
unfolding entered
entered-says places count step base offset size start outer said is =
    (λ i. entered_by outer (said.dims i) (said.increments i) (unwrap_or (said.bases i) 0 + unwrap_or (said.offsets i) 0) (said.sizes i))
    ∙ ap (λ n. entered_by outer count step n size) is

pub entered-peripheral : (element : Peripheral) (outer : Place) → entered (stated (peripheral_places element)) outer ≡ entered_by outer element.dim.count element.dim.step element.base element.props.size
unfolding peripheral_places
entered-peripheral element outer =
    entered-says (peripheral_places element) element.dim.count element.dim.step (Some element.base) None element.props.size element.base outer
    (says (peripheral_places element) element.dim.count element.dim.step (Some element.base) None element.props.size (peripheral-placed element) (dim-again element.dim.count) (increment-again element.dim.step) refl refl (size-again element.props.size))
    (omega arith)

pub entered-cluster : {A B C : Type 0} (element : Cluster-F A B C) (outer : Place) → entered (stated (cluster_places element)) outer ≡ entered_by outer element.dim.count element.dim.step element.offset element.props.size
unfolding cluster_places
entered-cluster element outer =
    entered-says (cluster_places element) element.dim.count element.dim.step None (Some element.offset) element.props.size element.offset outer
    (says (cluster_places element) element.dim.count element.dim.step None (Some element.offset) element.props.size (cluster-placed element) (dim-again element.dim.count) (increment-again element.dim.step) refl refl (size-again element.props.size))
    (omega arith)

pub entered-register : (element : Register) (outer : Place) → entered (stated (register_places element)) outer ≡ entered_by outer element.dim.count element.dim.step element.offset element.props.size
unfolding register_places
entered-register element outer =
    entered-says (register_places element) element.dim.count element.dim.step None (Some element.offset) element.props.size element.offset outer
    (says (register_places element) element.dim.count element.dim.step None (Some element.offset) element.props.size (register-placed element) (dim-again element.dim.count) (increment-again element.dim.step) refl refl (size-again element.props.size))
    (omega arith)

-- the bits of a field
pub bits_at-field : (element : Field) → bits_at (stated (field_places element)) ≡ element.place
unfolding field_places
bits_at-field element = λ i. record {
  offset = (value_of-placed stated_offset 6 offset-alone 0 6 (field_places element) (omega arith) (field-placed element) ∙ offset-again element.place.offset) i;
  width = (value_of-placed stated_width 7 width-alone 0 7 (field_places element) (omega arith) (field-placed element) ∙ width-again element.place.width) i;
}

-- no field states a size of registers
pub size-field : (element : Field) → value_of stated_size (stated (field_places element)) ≡ None
unfolding field_places
size-field element = value_of-placed stated_size 10 size-alone 0 10 (field_places element) (omega arith) (field-placed element)

-- what a device states
pub size-device : (device : Device) → value_of stated_size (stated (device_places device)) ≡ device.props.size
unfolding device_places
size-device device =
    value_of-placed stated_size 10 size-alone 0 10 (device_places device) (omega arith) (device-placed device) ∙ size-again device.props.size

pub dim-device : (device : Device) → value_of stated_dim (stated (device_places device)) ≡ None
unfolding device_places
dim-device device = value_of-placed stated_dim 2 dim-alone 0 2 (device_places device) (omega arith) (device-placed device)

pub increment-device : (device : Device) → value_of stated_increment (stated (device_places device)) ≡ None
unfolding device_places
increment-device device = value_of-placed stated_increment 3 increment-alone 0 3 (device_places device) (omega arith) (device-placed device)

pub base-device : (device : Device) → value_of stated_base (stated (device_places device)) ≡ None
unfolding device_places
base-device device = value_of-placed stated_base 5 base-alone 0 5 (device_places device) (omega arith) (device-placed device)

pub offset-device : (device : Device) → value_of stated_offset (stated (device_places device)) ≡ None
unfolding device_places
offset-device device = value_of-placed stated_offset 6 offset-alone 0 6 (device_places device) (omega arith) (device-placed device)
