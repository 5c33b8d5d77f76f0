-- A value that is put over one of the settings is its key in its place.
use Rattle.std.proofs.Common.{◌≡◌, ℕ, List, Option, Some, None, option_map, refl, sym, ap, ap₂, ◌∙◌}
use Rattle.std.specs.Option.{option_or}
use Rattle.pac_base.specs.declared.path.Step.{Step}
use Rattle.patch_sem.specs.Settings.{listed, of_place, offset_and_width, set_by}
use Rattle.patch_settings.specs.declared.settings.Settings.{Settings}
use Rattle.patch_settings.specs.Places.{IsOver, KeyPlaces, placed, places}
use Rattle.svd_model.specs.Keys.{rank, device_name, derived_from, dim_count, dim_increment, dim_index, base_address, at_offset, alternate_of, alternate_group, register_size, register_access, reset_value, reset_mask, write_kind, read_action}
use Rattle.svd_schema.specs.declared.key.Key.{Key as Stated}
use Rattle.svd_values.specs.declared.index.DimIndex.{DimIndex}
use Rattle.svd_values.specs.declared.place.Place.{Place}
use Rattle.svd_values.specs.declared.schema_word.Access.{Access}
use Rattle.svd_values.specs.declared.schema_word.ReadAction.{ReadAction}
use Rattle.svd_values.specs.declared.schema_word.WriteKind.{WriteKind}

put-name : (settings : Settings) (value : Option (List ℕ)) → places (record settings { name = option_or value settings.name }) ≡ placed (listed (option_map device_name value)) (places settings)
unfolding places placed rank
put-name settings None = refl
put-name settings (Some x) = refl

pub name-put : (settings : Settings) (form value new : Option (List ℕ)) → value ≡ form → IsOver value settings.name new → places (record settings { name = new }) ≡ placed (listed (option_map device_name form)) (places settings)
name-put settings form value new is over = ap (λ (n : Option (List ℕ)). places (record settings { name = n })) (over ∙ ap (λ (v : Option (List ℕ)). option_or v settings.name) is) ∙ put-name settings form

put-derived : (settings : Settings) (value : Option (List Step)) → places (record settings { derived = option_or value settings.derived }) ≡ placed (listed (option_map derived_from value)) (places settings)
unfolding places placed rank
put-derived settings None = refl
put-derived settings (Some x) = refl

pub derived-put : (settings : Settings) (form value new : Option (List Step)) → value ≡ form → IsOver value settings.derived new → places (record settings { derived = new }) ≡ placed (listed (option_map derived_from form)) (places settings)
derived-put settings form value new is over = ap (λ (n : Option (List Step)). places (record settings { derived = n })) (over ∙ ap (λ (v : Option (List Step)). option_or v settings.derived) is) ∙ put-derived settings form

put-size : (settings : Settings) (value : Option ℕ) → places (record settings { props = record settings.props { size = option_or value settings.props.size } }) ≡ placed (listed (option_map register_size value)) (places settings)
unfolding places placed rank
put-size settings None = refl
put-size settings (Some x) = refl

pub size-put : (settings : Settings) (form value new : Option ℕ) → value ≡ form → IsOver value settings.props.size new → places (record settings { props = record settings.props { size = new } }) ≡ placed (listed (option_map register_size form)) (places settings)
size-put settings form value new is over = ap (λ (n : Option ℕ). places (record settings { props = record settings.props { size = n } })) (over ∙ ap (λ (v : Option ℕ). option_or v settings.props.size) is) ∙ put-size settings form

put-access : (settings : Settings) (value : Option Access) → places (record settings { props = record settings.props { access = option_or value settings.props.access } }) ≡ placed (listed (option_map register_access value)) (places settings)
unfolding places placed rank
put-access settings None = refl
put-access settings (Some x) = refl

pub access-put : (settings : Settings) (form value new : Option Access) → value ≡ form → IsOver value settings.props.access new → places (record settings { props = record settings.props { access = new } }) ≡ placed (listed (option_map register_access form)) (places settings)
access-put settings form value new is over = ap (λ (n : Option Access). places (record settings { props = record settings.props { access = n } })) (over ∙ ap (λ (v : Option Access). option_or v settings.props.access) is) ∙ put-access settings form

put-reset_value : (settings : Settings) (value : Option ℕ) → places (record settings { props = record settings.props { reset_value = option_or value settings.props.reset_value } }) ≡ placed (listed (option_map reset_value value)) (places settings)
unfolding places placed rank
put-reset_value settings None = refl
put-reset_value settings (Some x) = refl

pub reset_value-put : (settings : Settings) (form value new : Option ℕ) → value ≡ form → IsOver value settings.props.reset_value new → places (record settings { props = record settings.props { reset_value = new } }) ≡ placed (listed (option_map reset_value form)) (places settings)
reset_value-put settings form value new is over = ap (λ (n : Option ℕ). places (record settings { props = record settings.props { reset_value = n } })) (over ∙ ap (λ (v : Option ℕ). option_or v settings.props.reset_value) is) ∙ put-reset_value settings form

put-reset_mask : (settings : Settings) (value : Option ℕ) → places (record settings { props = record settings.props { reset_mask = option_or value settings.props.reset_mask } }) ≡ placed (listed (option_map reset_mask value)) (places settings)
unfolding places placed rank
put-reset_mask settings None = refl
put-reset_mask settings (Some x) = refl

pub reset_mask-put : (settings : Settings) (form value new : Option ℕ) → value ≡ form → IsOver value settings.props.reset_mask new → places (record settings { props = record settings.props { reset_mask = new } }) ≡ placed (listed (option_map reset_mask form)) (places settings)
reset_mask-put settings form value new is over = ap (λ (n : Option ℕ). places (record settings { props = record settings.props { reset_mask = n } })) (over ∙ ap (λ (v : Option ℕ). option_or v settings.props.reset_mask) is) ∙ put-reset_mask settings form

put-count : (settings : Settings) (value : Option ℕ) → places (record settings { dim = record settings.dim { count = option_or value settings.dim.count } }) ≡ placed (listed (option_map dim_count value)) (places settings)
unfolding places placed rank
put-count settings None = refl
put-count settings (Some x) = refl

pub count-put : (settings : Settings) (form value new : Option ℕ) → value ≡ form → IsOver value settings.dim.count new → places (record settings { dim = record settings.dim { count = new } }) ≡ placed (listed (option_map dim_count form)) (places settings)
count-put settings form value new is over = ap (λ (n : Option ℕ). places (record settings { dim = record settings.dim { count = n } })) (over ∙ ap (λ (v : Option ℕ). option_or v settings.dim.count) is) ∙ put-count settings form

put-step : (settings : Settings) (value : Option ℕ) → places (record settings { dim = record settings.dim { step = option_or value settings.dim.step } }) ≡ placed (listed (option_map dim_increment value)) (places settings)
unfolding places placed rank
put-step settings None = refl
put-step settings (Some x) = refl

pub step-put : (settings : Settings) (form value new : Option ℕ) → value ≡ form → IsOver value settings.dim.step new → places (record settings { dim = record settings.dim { step = new } }) ≡ placed (listed (option_map dim_increment form)) (places settings)
step-put settings form value new is over = ap (λ (n : Option ℕ). places (record settings { dim = record settings.dim { step = n } })) (over ∙ ap (λ (v : Option ℕ). option_or v settings.dim.step) is) ∙ put-step settings form

put-index : (settings : Settings) (value : Option DimIndex) → places (record settings { dim = record settings.dim { index = option_or value settings.dim.index } }) ≡ placed (listed (option_map dim_index value)) (places settings)
unfolding places placed rank
put-index settings None = refl
put-index settings (Some x) = refl

pub index-put : (settings : Settings) (form value new : Option DimIndex) → value ≡ form → IsOver value settings.dim.index new → places (record settings { dim = record settings.dim { index = new } }) ≡ placed (listed (option_map dim_index form)) (places settings)
index-put settings form value new is over = ap (λ (n : Option DimIndex). places (record settings { dim = record settings.dim { index = n } })) (over ∙ ap (λ (v : Option DimIndex). option_or v settings.dim.index) is) ∙ put-index settings form

put-base : (settings : Settings) (value : Option ℕ) → places (record settings { base = option_or value settings.base }) ≡ placed (listed (option_map base_address value)) (places settings)
unfolding places placed rank
put-base settings None = refl
put-base settings (Some x) = refl

pub base-put : (settings : Settings) (form value new : Option ℕ) → value ≡ form → IsOver value settings.base new → places (record settings { base = new }) ≡ placed (listed (option_map base_address form)) (places settings)
base-put settings form value new is over = ap (λ (n : Option ℕ). places (record settings { base = n })) (over ∙ ap (λ (v : Option ℕ). option_or v settings.base) is) ∙ put-base settings form

put-offset : (settings : Settings) (value : Option ℕ) → places (record settings { place = record settings.place { offset = option_or value settings.place.offset } }) ≡ placed (listed (option_map at_offset value)) (places settings)
unfolding places placed rank
put-offset settings None = refl
put-offset settings (Some x) = refl

pub offset-put : (settings : Settings) (form value new : Option ℕ) → value ≡ form → IsOver value settings.place.offset new → places (record settings { place = record settings.place { offset = new } }) ≡ placed (listed (option_map at_offset form)) (places settings)
offset-put settings form value new is over = ap (λ (n : Option ℕ). places (record settings { place = record settings.place { offset = n } })) (over ∙ ap (λ (v : Option ℕ). option_or v settings.place.offset) is) ∙ put-offset settings form

put-alternate : (settings : Settings) (value : Option (List ℕ)) → places (record settings { alternate = option_or value settings.alternate }) ≡ placed (listed (option_map alternate_of value)) (places settings)
unfolding places placed rank
put-alternate settings None = refl
put-alternate settings (Some x) = refl

pub alternate-put : (settings : Settings) (form value new : Option (List ℕ)) → value ≡ form → IsOver value settings.alternate new → places (record settings { alternate = new }) ≡ placed (listed (option_map alternate_of form)) (places settings)
alternate-put settings form value new is over = ap (λ (n : Option (List ℕ)). places (record settings { alternate = n })) (over ∙ ap (λ (v : Option (List ℕ)). option_or v settings.alternate) is) ∙ put-alternate settings form

put-group : (settings : Settings) (value : Option (List ℕ)) → places (record settings { group = option_or value settings.group }) ≡ placed (listed (option_map alternate_group value)) (places settings)
unfolding places placed rank
put-group settings None = refl
put-group settings (Some x) = refl

pub group-put : (settings : Settings) (form value new : Option (List ℕ)) → value ≡ form → IsOver value settings.group new → places (record settings { group = new }) ≡ placed (listed (option_map alternate_group form)) (places settings)
group-put settings form value new is over = ap (λ (n : Option (List ℕ)). places (record settings { group = n })) (over ∙ ap (λ (v : Option (List ℕ)). option_or v settings.group) is) ∙ put-group settings form

put-kind : (settings : Settings) (value : Option WriteKind) → places (record settings { kind = option_or value settings.kind }) ≡ placed (listed (option_map write_kind value)) (places settings)
unfolding places placed rank
put-kind settings None = refl
put-kind settings (Some x) = refl

pub kind-put : (settings : Settings) (form value new : Option WriteKind) → value ≡ form → IsOver value settings.kind new → places (record settings { kind = new }) ≡ placed (listed (option_map write_kind form)) (places settings)
kind-put settings form value new is over = ap (λ (n : Option WriteKind). places (record settings { kind = n })) (over ∙ ap (λ (v : Option WriteKind). option_or v settings.kind) is) ∙ put-kind settings form

put-action : (settings : Settings) (value : Option ReadAction) → places (record settings { action = option_or value settings.action }) ≡ placed (listed (option_map read_action value)) (places settings)
unfolding places placed rank
put-action settings None = refl
put-action settings (Some x) = refl

pub action-put : (settings : Settings) (form value new : Option ReadAction) → value ≡ form → IsOver value settings.action new → places (record settings { action = new }) ≡ placed (listed (option_map read_action form)) (places settings)
action-put settings form value new is over = ap (λ (n : Option ReadAction). places (record settings { action = n })) (over ∙ ap (λ (v : Option ReadAction). option_or v settings.action) is) ∙ put-action settings form

put-place : (settings : Settings) (offset width : Option ℕ) → places (record settings { place = record { offset = option_or offset settings.place.offset; width = option_or width settings.place.width } }) ≡ placed (offset_and_width offset width) (places settings)
unfolding places placed rank
put-place settings None None = refl
put-place settings None (Some width) = refl
put-place settings (Some offset) None = refl
put-place settings (Some offset) (Some width) = refl

pub place-put : (settings : Settings) (place : Place) (offset width : Option ℕ) → IsOver place.offset settings.place.offset offset → IsOver place.width settings.place.width width → places (record settings { place = record { offset = offset; width = width } }) ≡ placed (of_place place) (places settings)
place-put settings place offset width low wide = ap₂ (λ (a b : Option ℕ). places (record settings { place = record { offset = a; width = b } })) low wide ∙ put-place settings place.offset place.width

-- a value that sets nothing
pub nothing-put : (old : KeyPlaces) → old ≡ placed (listed None) old
unfolding placed
nothing-put old = refl

-- the key by its name
pub as_key : (key is : Stated) (text : List ℕ) (new old : KeyPlaces) → key ≡ is → new ≡ placed (listed (set_by is text)) old → new ≡ placed (listed (set_by key text)) old
as_key key is text new old e put = put ∙ ap (λ (k : Stated). placed (listed (set_by k text)) old) (sym e)
