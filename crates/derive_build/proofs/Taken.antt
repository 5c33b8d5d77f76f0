-- What the code keeps of an element and what it takes of its source's are keys that are taken place by place.
use Rattle.std.proofs.Common.{◌≡◌, Bool, true, false, cond, List, ◌∷◌, length, Option, None, Some, option_map, refl, sym, ap, ◌∙◌}
use Rattle.std.specs.Option.{option_or}
use Rattle.derive_build.specs.declared.keys.Keys.{Keys}
use Rattle.derive_build.specs.declared.own.Own.{Own}
use Rattle.derive_build.specs.declared.own.Own.TheVariants as own
use Rattle.derive_build.specs.Taking.{places_by, dim_taken, taking, takes}
use Rattle.derived_graph.specs.Places.{picked, picked_all}
use Rattle.derived_rows.specs.Merging.{stays_behind}
use Rattle.svd_model.specs.Keys.{Key, rank, derived_from, dim_count, dim_increment, dim_index, at_offset, bit_width, alternate_of, alternate_group, register_size, register_access, reset_value, reset_mask, write_kind, read_action, value_usage}
use Rattle.svd_model.specs.Trees.{device_places, peripheral_places, cluster_places, register_places, field_places, set_places, value_places}
use Rattle.svd_model.proofs.Placed.{device-placed, peripheral-placed, cluster-placed, register-placed, field-placed, set-placed, value-placed}
use Rattle.svd_rows.specs.Ranks.{IsPlaced}

both : {A : Type 0} {x y : A} {xs ys : List A} → x ≡ y → xs ≡ ys → x ∷ xs ≡ y ∷ ys
both p q = λ i. p i ∷ q i

module _ {A : Type 0} (key : A → Key) (marked : Bool) where
  -- a key that is taken
  plain : ((a : A) → stays_behind marked (key a) ≡ false) → (own source : Option A) → option_map key (option_or own source) ≡ picked marked (option_map key own) (option_map key source)
  plain free None None = refl
  plain free None (Some x) = sym (ap (λ b. cond b None (Some (key x))) (free x))
  plain free (Some x) source = refl

  -- one that stays behind
  behind : ((a : A) → stays_behind marked (key a) ≡ true) → (own source : Option A) → option_map key own ≡ picked marked (option_map key own) (option_map key source)
  behind stays None None = refl
  behind stays None (Some x) = sym (ap (λ b. cond b None (Some (key x))) (stays x))
  behind stays (Some x) source = refl

-- one of a dimension
dims : {A : Type 0} (key : A → Key) → ((a : A) → stays_behind true (key a) ≡ false) → ((a : A) → stays_behind false (key a) ≡ true) → (marked : Bool) (own source : Option A) → option_map key (dim_taken marked own source) ≡ picked marked (option_map key own) (option_map key source)
dims key free stays true own source = plain key true free own source
dims key free stays false own source = behind key false stays own source

or-map : {A B : Type 0} (f : A → B) (own source : Option A) → option_map f (option_or own source) ≡ option_or (option_map f own) (option_map f source)
or-map f None source = refl
or-map f (Some x) source = refl

dim-map : {A B : Type 0} (f : A → B) (marked : Bool) (own source : Option A) → option_map f (dim_taken marked own source) ≡ dim_taken marked (option_map f own) (option_map f source)
dim-map f true own source = or-map f own source
dim-map f false own source = refl

pub taken-places : (marked : Bool) (own source : Own) (keys others : Keys) → takes own source ≡ true → picked_all marked (places_by own keys) (places_by source others) ≡ places_by own (taking marked keys others)
unfolding picked_all device_places peripheral_places cluster_places register_places field_places set_places value_places
taken-places marked (own.Peripheral k e) (own.Peripheral l f) keys others same =
    sym (both refl (both (behind derived_from marked (λ _. refl) e.now.derived f.now.derived) (both (dims dim_count (λ _. refl) (λ _. refl) marked keys.count others.count) (both (dims dim_increment (λ _. refl) (λ _. refl) marked keys.step others.step) (both (ap (option_map dim_index) (dim-map (λ index. index.now) marked keys.index others.index) ∙ dims dim_index (λ _. refl) (λ _. refl) marked (option_map (λ index. index.now) keys.index) (option_map (λ index. index.now) others.index)) (both refl (both refl (both refl (both refl (both refl (both (plain register_size marked (λ _. refl) keys.props.size others.props.size) (both (plain register_access marked (λ _. refl) keys.props.access others.props.access) (both (plain reset_value marked (λ _. refl) keys.props.reset_value others.props.reset_value) (both (plain reset_mask marked (λ _. refl) keys.props.reset_mask others.props.reset_mask) refl))))))))))))))
taken-places marked (own.Cluster k e) (own.Cluster l f) keys others same =
    sym (both refl (both (behind derived_from marked (λ _. refl) _ _) (both (dims dim_count (λ _. refl) (λ _. refl) marked keys.count others.count) (both (dims dim_increment (λ _. refl) (λ _. refl) marked keys.step others.step) (both (ap (option_map dim_index) (dim-map (λ index. index.now) marked keys.index others.index) ∙ dims dim_index (λ _. refl) (λ _. refl) marked (option_map (λ index. index.now) keys.index) (option_map (λ index. index.now) others.index)) (both refl (both refl (both refl (both (ap (option_map alternate_of) (or-map (λ name. name.now) keys.alternate others.alternate) ∙ plain alternate_of marked (λ _. refl) (option_map (λ name. name.now) keys.alternate) (option_map (λ name. name.now) others.alternate)) (both refl (both (plain register_size marked (λ _. refl) keys.props.size others.props.size) (both (plain register_access marked (λ _. refl) keys.props.access others.props.access) (both (plain reset_value marked (λ _. refl) keys.props.reset_value others.props.reset_value) (both (plain reset_mask marked (λ _. refl) keys.props.reset_mask others.props.reset_mask) refl))))))))))))))
taken-places marked (own.Register k e) (own.Register l f) keys others same =
    sym (both refl (both (behind derived_from marked (λ _. refl) e.now.derived f.now.derived) (both (dims dim_count (λ _. refl) (λ _. refl) marked keys.count others.count) (both (dims dim_increment (λ _. refl) (λ _. refl) marked keys.step others.step) (both (ap (option_map dim_index) (dim-map (λ index. index.now) marked keys.index others.index) ∙ dims dim_index (λ _. refl) (λ _. refl) marked (option_map (λ index. index.now) keys.index) (option_map (λ index. index.now) others.index)) (both refl (both refl (both refl (both (ap (option_map alternate_of) (or-map (λ name. name.now) keys.alternate others.alternate) ∙ plain alternate_of marked (λ _. refl) (option_map (λ name. name.now) keys.alternate) (option_map (λ name. name.now) others.alternate)) (both (ap (option_map alternate_group) (or-map (λ name. name.now) keys.group others.group) ∙ plain alternate_group marked (λ _. refl) (option_map (λ name. name.now) keys.group) (option_map (λ name. name.now) others.group)) (both (plain register_size marked (λ _. refl) keys.props.size others.props.size) (both (plain register_access marked (λ _. refl) keys.props.access others.props.access) (both (plain reset_value marked (λ _. refl) keys.props.reset_value others.props.reset_value) (both (plain reset_mask marked (λ _. refl) keys.props.reset_mask others.props.reset_mask) (both (plain write_kind marked (λ _. refl) keys.kind others.kind) (both (plain read_action marked (λ _. refl) keys.action others.action) refl))))))))))))))))
taken-places marked (own.Field k e) (own.Field l f) keys others same =
    sym (both refl (both (behind derived_from marked (λ _. refl) e.now.derived f.now.derived) (both (dims dim_count (λ _. refl) (λ _. refl) marked keys.count others.count) (both (dims dim_increment (λ _. refl) (λ _. refl) marked keys.step others.step) (both (ap (option_map dim_index) (dim-map (λ index. index.now) marked keys.index others.index) ∙ dims dim_index (λ _. refl) (λ _. refl) marked (option_map (λ index. index.now) keys.index) (option_map (λ index. index.now) others.index)) (both refl (both (plain at_offset marked (λ _. refl) keys.place.offset others.place.offset) (both (plain bit_width marked (λ _. refl) keys.place.width others.place.width) (both refl (both refl (both refl (both (plain register_access marked (λ _. refl) keys.props.access others.props.access) (both refl (both refl (both (plain write_kind marked (λ _. refl) keys.kind others.kind) (both (plain read_action marked (λ _. refl) keys.action others.action) refl))))))))))))))))
taken-places marked (own.Set e) (own.Set f) keys others same =
    sym (both refl (both (behind derived_from marked (λ _. refl) e.now.derived f.now.derived) (both refl (both refl (both refl (both refl (both refl (both refl (both refl (both refl (both refl (both refl (both refl (both refl (both refl (both refl (both (plain value_usage marked (λ _. refl) keys.usage others.usage) refl)))))))))))))))))
taken-places marked _ _ keys others same = absurd cc

-- there is a place for each rank
pub own-placed : (own : Own) (keys : Keys) → IsPlaced rank 0 (places_by own keys)
own-placed (own.Device device) keys = device-placed device.now
own-placed (own.Peripheral k e) keys = peripheral-placed _
own-placed (own.Cluster k e) keys = cluster-placed _
own-placed (own.Register k e) keys = register-placed _
own-placed (own.Field k e) keys = field-placed _
own-placed (own.Set e) keys = set-placed _
own-placed (own.Value e) keys = value-placed e.now

pub own-length : (own : Own) (keys : Keys) → length (places_by own keys) ≡ 18
unfolding device_places peripheral_places cluster_places register_places field_places set_places value_places
own-length (own.Device device) keys = refl
own-length (own.Peripheral k e) keys = refl
own-length (own.Cluster k e) keys = refl
own-length (own.Register k e) keys = refl
own-length (own.Field k e) keys = refl
own-length (own.Set e) keys = refl
own-length (own.Value e) keys = refl
