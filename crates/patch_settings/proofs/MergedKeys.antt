-- Settings over the keys of an element, where it has places for them.
use Rattle.std.proofs.Common.{◌≡◌, [], ◌∷◌, Option, Some, None, option_map, refl, ap, ◌∙◌, unwrap_or}
use Rattle.std.specs.Option.{option_or}
use Rattle.patch_settings.specs.declared.settings.Settings.{Settings}
use Rattle.patch_settings.specs.Places.{ArePropsOver, IsDimOver, IsOver, fitting, merged, only, over, places}
use Rattle.svd_model.specs.declared.device.Child.TheOpen.{Cluster-F}
use Rattle.svd_model.specs.declared.device.Device.{Device}
use Rattle.svd_model.specs.declared.device.Field.{Field}
use Rattle.svd_model.specs.declared.device.Peripheral.{Peripheral}
use Rattle.svd_model.specs.declared.device.Register.{Register}
use Rattle.svd_model.specs.Keys.{Key, device_name, derived_from, dim_count, dim_increment, dim_index, base_address, at_offset, bit_width, alternate_of, alternate_group, register_size, register_access, reset_value, reset_mask, write_kind, read_action}
use Rattle.svd_model.specs.Trees.{cluster_places, device_places, field_places, peripheral_places, register_places}
use Rattle.svd_schema.specs.declared.container.Container.TheVariants as container

-- the place of a key that may be stated
key : {A : Type 0} (made : A → Key) (value old new : Option A) → IsOver value old new → option_map made new ≡ option_or (option_map made value) (option_map made old)
key {A = A} made value old new e = ap (option_map made) e ∙ cases value
  where
    cases : (value : Option A) → option_map made (option_or value old) ≡ option_or (option_map made value) (option_map made old)
    cases None = refl
    cases (Some x) = refl

-- the place of a key that is always stated
sure : {A : Type 0} (made : A → Key) (value : Option A) (old new : A) → new ≡ unwrap_or value old → Some (made new) ≡ option_or (option_map made value) (Some (made old))
sure {A = A} made value old new e = ap (λ x. Some (made x)) e ∙ cases value
  where
    cases : (value : Option A) → Some (made (unwrap_or value old)) ≡ option_or (option_map made value) (Some (made old))
    cases None = refl
    cases (Some x) = refl

pub peripheral-merged : (settings : Settings) (old new : Peripheral) → IsOver settings.derived old.derived new.derived → IsDimOver settings.dim old.dim new.dim → new.base ≡ unwrap_or settings.base old.base → ArePropsOver settings.props old.props new.props → peripheral_places new ≡ merged container.Peripheral (places settings) (peripheral_places old)
unfolding peripheral_places places over only fitting
peripheral-merged settings old new derived dim base props =
    λ i. None ∷ (key derived_from settings.derived old.derived new.derived derived i) ∷ (key dim_count settings.dim.count old.dim.count new.dim.count dim.count i) ∷ (key dim_increment settings.dim.step old.dim.step new.dim.step dim.step i) ∷ (key dim_index settings.dim.index old.dim.index new.dim.index dim.index i) ∷ (sure base_address settings.base old.base new.base base i) ∷ None ∷ None ∷ None ∷ None ∷ (key register_size settings.props.size old.props.size new.props.size props.size i) ∷ (key register_access settings.props.access old.props.access new.props.access props.access i) ∷ (key reset_value settings.props.reset_value old.props.reset_value new.props.reset_value props.reset_value i) ∷ (key reset_mask settings.props.reset_mask old.props.reset_mask new.props.reset_mask props.reset_mask i) ∷ None ∷ None ∷ None ∷ None ∷ []

pub cluster-merged : {A B C : Type 0} (settings : Settings) (old new : Cluster-F A B C) → IsOver settings.derived old.derived new.derived → IsDimOver settings.dim old.dim new.dim → new.offset ≡ unwrap_or settings.place.offset old.offset → IsOver settings.alternate old.alternate new.alternate → ArePropsOver settings.props old.props new.props → cluster_places new ≡ merged container.Cluster (places settings) (cluster_places old)
unfolding cluster_places places over only fitting
cluster-merged settings old new derived dim offset alternate props =
    λ i. None ∷ (key derived_from settings.derived old.derived new.derived derived i) ∷ (key dim_count settings.dim.count old.dim.count new.dim.count dim.count i) ∷ (key dim_increment settings.dim.step old.dim.step new.dim.step dim.step i) ∷ (key dim_index settings.dim.index old.dim.index new.dim.index dim.index i) ∷ None ∷ (sure at_offset settings.place.offset old.offset new.offset offset i) ∷ None ∷ (key alternate_of settings.alternate old.alternate new.alternate alternate i) ∷ None ∷ (key register_size settings.props.size old.props.size new.props.size props.size i) ∷ (key register_access settings.props.access old.props.access new.props.access props.access i) ∷ (key reset_value settings.props.reset_value old.props.reset_value new.props.reset_value props.reset_value i) ∷ (key reset_mask settings.props.reset_mask old.props.reset_mask new.props.reset_mask props.reset_mask i) ∷ None ∷ None ∷ None ∷ None ∷ []

pub register-merged : (settings : Settings) (old new : Register) → IsOver settings.derived old.derived new.derived → IsDimOver settings.dim old.dim new.dim → new.offset ≡ unwrap_or settings.place.offset old.offset → IsOver settings.alternate old.alternate new.alternate → IsOver settings.group old.group new.group → ArePropsOver settings.props old.props new.props → IsOver settings.kind old.kind new.kind → IsOver settings.action old.action new.action → register_places new ≡ merged container.Register (places settings) (register_places old)
unfolding register_places places over only fitting
register-merged settings old new derived dim offset alternate group props kind action =
    λ i. None ∷ (key derived_from settings.derived old.derived new.derived derived i) ∷ (key dim_count settings.dim.count old.dim.count new.dim.count dim.count i) ∷ (key dim_increment settings.dim.step old.dim.step new.dim.step dim.step i) ∷ (key dim_index settings.dim.index old.dim.index new.dim.index dim.index i) ∷ None ∷ (sure at_offset settings.place.offset old.offset new.offset offset i) ∷ None ∷ (key alternate_of settings.alternate old.alternate new.alternate alternate i) ∷ (key alternate_group settings.group old.group new.group group i) ∷ (key register_size settings.props.size old.props.size new.props.size props.size i) ∷ (key register_access settings.props.access old.props.access new.props.access props.access i) ∷ (key reset_value settings.props.reset_value old.props.reset_value new.props.reset_value props.reset_value i) ∷ (key reset_mask settings.props.reset_mask old.props.reset_mask new.props.reset_mask props.reset_mask i) ∷ (key write_kind settings.kind old.kind new.kind kind i) ∷ (key read_action settings.action old.action new.action action i) ∷ None ∷ None ∷ []

pub field-merged : (settings : Settings) (old new : Field) → IsOver settings.derived old.derived new.derived → IsDimOver settings.dim old.dim new.dim → IsOver settings.place.offset old.place.offset new.place.offset → IsOver settings.place.width old.place.width new.place.width → IsOver settings.props.access old.access new.access → IsOver settings.kind old.kind new.kind → IsOver settings.action old.action new.action → field_places new ≡ merged container.Field (places settings) (field_places old)
unfolding field_places places over only fitting
field-merged settings old new derived dim offset width access kind action =
    λ i. None ∷ (key derived_from settings.derived old.derived new.derived derived i) ∷ (key dim_count settings.dim.count old.dim.count new.dim.count dim.count i) ∷ (key dim_increment settings.dim.step old.dim.step new.dim.step dim.step i) ∷ (key dim_index settings.dim.index old.dim.index new.dim.index dim.index i) ∷ None ∷ (key at_offset settings.place.offset old.place.offset new.place.offset offset i) ∷ (key bit_width settings.place.width old.place.width new.place.width width i) ∷ None ∷ None ∷ None ∷ (key register_access settings.props.access old.access new.access access i) ∷ None ∷ None ∷ (key write_kind settings.kind old.kind new.kind kind i) ∷ (key read_action settings.action old.action new.action action i) ∷ None ∷ None ∷ []

pub device-merged : (settings : Settings) (old new : Device) → new.name ≡ unwrap_or settings.name old.name → ArePropsOver settings.props old.props new.props → device_places new ≡ merged container.Device (places settings) (device_places old)
unfolding device_places places over only fitting
device-merged settings old new name props =
    λ i. (sure device_name settings.name old.name new.name name i) ∷ None ∷ None ∷ None ∷ None ∷ None ∷ None ∷ None ∷ None ∷ None ∷ (key register_size settings.props.size old.props.size new.props.size props.size i) ∷ (key register_access settings.props.access old.props.access new.props.access props.access i) ∷ (key reset_value settings.props.reset_value old.props.reset_value new.props.reset_value props.reset_value i) ∷ (key reset_mask settings.props.reset_mask old.props.reset_mask new.props.reset_mask props.reset_mask i) ∷ None ∷ None ∷ None ∷ None ∷ []
