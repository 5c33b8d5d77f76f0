-- The keys that the code keeps of an element, and what an element takes of its source's.
use Rattle.std.specs.Prelude.{Bool, true, false, cond, List, Option, option_map}
use Rattle.std.specs.Option.{option_or}
use Rattle.derive_build.specs.declared.keys.Keys.{Keys}
use Rattle.derive_build.specs.declared.own.Own.{Own}
use Rattle.derive_build.specs.declared.own.Own.TheVariants as own
use Rattle.svd_model.specs.declared.device.Child.{Child}
use Rattle.svd_model.specs.declared.device.Cluster.{Cluster, out-Cluster}
use Rattle.svd_model.specs.declared.device.Dim.{Dim}
use Rattle.svd_model.specs.declared.device.Field.{Field}
use Rattle.svd_model.specs.declared.device.Item.{Item}
use Rattle.svd_model.specs.declared.device.Peripheral.{Peripheral}
use Rattle.svd_model.specs.declared.device.Register.{Register}
use Rattle.svd_model.specs.declared.device.Values.{Values}
use Rattle.svd_model.specs.Keys.{Key}
use Rattle.svd_model.specs.Trees.{device_places, peripheral_places, cluster_places, register_places, field_places, set_places, value_places}
use Rattle.svd_rows.specs.Ranks.{stated}

-- the dimension of an element with these keys
abbrev pub dim_by : Keys → Dim
dim_by keys = record { count = keys.count; step = keys.step; index = option_map (λ index. index.now) keys.index }

-- the places of the keys of an element with these: its source, its base or offset are its own
abbrev pub peripheral_by : Peripheral → Keys → List (Option Key)
peripheral_by element keys = peripheral_places (record { derived = element.derived; dim = dim_by keys; base = element.base; props = keys.props; children = element.children })

abbrev pub cluster_by : Cluster → Keys → List (Option Key)
cluster_by element keys =
    cluster_places {A = Child} {B = Cluster} {C = Item} (record { derived = (out-Cluster element).derived; dim = dim_by keys; offset = (out-Cluster element).offset; alternate = option_map (λ name. name.now) keys.alternate; props = keys.props; children = (out-Cluster element).children })

abbrev pub register_by : Register → Keys → List (Option Key)
register_by element keys =
    register_places (record { derived = element.derived; dim = dim_by keys; offset = element.offset; alternate = option_map (λ name. name.now) keys.alternate; group = option_map (λ name. name.now) keys.group; props = keys.props; kind = keys.kind; action = keys.action; fields = element.fields })

abbrev pub field_by : Field → Keys → List (Option Key)
field_by element keys =
    field_places (record { derived = element.derived; dim = dim_by keys; place = keys.place; access = keys.props.access; kind = keys.kind; action = keys.action; values = element.values })

abbrev pub set_by : Values → Keys → List (Option Key)
set_by element keys = set_places (record { derived = element.derived; name = element.name; usage = keys.usage; items = element.items })

abbrev pub places_by : Own → Keys → List (Option Key)
places_by (own.Device device) keys = device_places device.now
places_by (own.Peripheral key element) keys = peripheral_by element.now keys
places_by (own.Cluster key element) keys = cluster_by element.now keys
places_by (own.Register key element) keys = register_by element.now keys
places_by (own.Field key element) keys = field_by element.now keys
places_by (own.Set element) keys = set_by element.now keys
places_by (own.Value element) keys = value_places element.now

-- the keys of an element
abbrev pub keys_by : Own → Keys → List Key
keys_by own keys = stated (places_by own keys)

-- an own value, else the source's
abbrev pub dim_taken : {A : Type 0} → Bool → Option A → Option A → Option A
dim_taken marked own source = cond marked (option_or own source) own

-- what an element with these keys takes of its source's
abbrev pub taking : Bool → Keys → Keys → Keys
taking marked own source = record {
  count = dim_taken marked own.count source.count;
  step = dim_taken marked own.step source.step;
  index = dim_taken marked own.index source.index;
  place = record { offset = option_or own.place.offset source.place.offset; width = option_or own.place.width source.place.width };
  alternate = option_or own.alternate source.alternate;
  group = option_or own.group source.group;
  props = record {
    size = option_or own.props.size source.props.size;
    access = option_or own.props.access source.props.access;
    reset_value = option_or own.props.reset_value source.props.reset_value;
    reset_mask = option_or own.props.reset_mask source.props.reset_mask;
  };
  kind = option_or own.kind source.kind;
  action = option_or own.action source.action;
  usage = option_or own.usage source.usage;
}

-- an element of this kind takes keys of that one: they are of one kind, and may state sources
abbrev pub takes : Own → Own → Bool
takes (own.Peripheral key element) (own.Peripheral other source) = true
takes (own.Cluster key element) (own.Cluster other source) = true
takes (own.Register key element) (own.Register other source) = true
takes (own.Field key element) (own.Field other source) = true
takes (own.Set element) (own.Set source) = true
takes _ _ = false
