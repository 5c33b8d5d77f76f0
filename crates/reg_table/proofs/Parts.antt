-- The children of an element with their rows, as the tree has them.
use Rattle.std.proofs.Common.{◌≡◌, ℕ, ◌+◌, Bool, ◌&&◌, List, [], ◌∷◌, map, Option, unwrap_or, refl, sym, ap, ap₂, ◌∙◌, subst}
use Rattle.reg_table.specs.Calls.{parts, value_part, set_part, sets_of, plain_value, plain_set, set_calls_of, serves_reading, serves_writing}
use Rattle.reg_table.specs.Fields.{field_dim, field_row, field_part, width_in}
use Rattle.svd_model.specs.declared.device.Field.{Field}
use Rattle.svd_model.specs.declared.device.Values.{Values}
use Rattle.svd_model.specs.declared.device.Variant.{Variant}
use Rattle.svd_model.specs.declared.sibling.Sibling.{Sibling}
use Rattle.svd_model.specs.Keys.{Key}
use Rattle.svd_model.specs.Properties.{nearest, can_read, can_write, passes_at}
use Rattle.svd_model.specs.Stating.{value_of, stated_offset, stated_width, stated_access, stated_kind, stated_dim, stated_increment, stated_usage, stated_number}
use Rattle.svd_model.specs.Steps.{Step, set, value, same_step}
use Rattle.svd_model.specs.Trees.{field_places, field_tree, set_tree, value_tree, numbered}
use Rattle.reg_table.proofs.FieldMembers.{field-dim, field-increment}
use Rattle.svd_model.proofs.Stated.{field-offset, field-width, field-access, field-kind, set-usage, value-number}
use Rattle.svd_model.proofs.Walking.{child_rows}
use Rattle.svd_rows.specs.Elements.{IsDistinct}
use Rattle.svd_rows.specs.Forest.{Forest, Tree, leaf, node, join, siblings, steps}
use Rattle.svd_rows.specs.LookUps.{inside, keys_of}
use Rattle.svd_rows.specs.Ranks.{stated}
use Rattle.svd_rows.specs.Rows.{Row, rows}
use Rattle.svd_rows.proofs.LookUps.{keys_of-rows, children_of-rows}
use Rattle.svd_values.specs.AccessorNames.{accessor_name, is_call_name, variant_call_name}
use Rattle.svd_values.specs.declared.schema_word.WriteKind.{WriteKind}
use Rattle.svd_values.specs.declared.schema_word.WriteKind.TheVariants.{Modify}

-- siblings as a list
abbrev pub listed : Forest Step Key → List (Step × Tree Step Key)
listed leaf = []
listed (node step keys children others) = (step, record { keys = keys; below = children }) ∷ listed others

pub listed-siblings : (list : List (Step × Tree Step Key)) → listed (siblings list) ≡ list
unfolding siblings
listed-siblings [] = refl
listed-siblings (x ∷ list) = ap (λ r. x ∷ r) (listed-siblings list)

-- an element with its rows
abbrev pub part_of : (Step × Tree Step Key) → (Step × List (Row Step Key))
part_of x = (x.0, rows x.1)

join-join : (f g h : Forest Step Key) → join (join f g) h ≡ join f (join g h)
unfolding join
join-join leaf g h = refl
join-join (node s ks c n) g h = ap (node s ks c) (join-join n g h)

parts-among : (ks : List Key) (before g : Forest Step Key) → IsDistinct same_step (join before g) → map (λ step. (step, inside same_step (step ∷ []) (rows (record { keys = ks; below = join before g })))) (steps g) ≡ map part_of (listed g)
unfolding steps join
parts-among ks before leaf distinct = refl
parts-among ks before (node s cs c n) distinct =
    ap₂ (λ first others. (s, first) ∷ others) (child_rows ks before s cs c n distinct)
    (subst (λ (all : Forest Step Key). map (λ step. (step, inside same_step (step ∷ []) (rows (record { keys = ks; below = all })))) (steps n) ≡ map part_of (listed n)) (join-join before (node s cs c leaf) n)
    (parts-among ks (join before (node s cs c leaf)) n (subst (IsDistinct same_step) (sym (join-join before (node s cs c leaf) n)) distinct)))

-- the parts of an element are its children in the tree
pub parts-rows : (tree : Tree Step Key) → IsDistinct same_step tree.below → parts (rows tree) ≡ map part_of (listed tree.below)
unfolding parts join
parts-rows tree distinct =
    ap (map (λ step. (step, inside same_step (step ∷ []) (rows tree)))) (children_of-rows tree)
    ∙ parts-among tree.keys leaf tree.below distinct

-- ---- sets and values

values-listed : (n : ℕ) (values : List Variant) → map value_part (map part_of (listed (numbered value n (map value_tree values)))) ≡ map plain_value values
unfolding numbered
values-listed n [] = refl
values-listed n (v ∷ values) =
    ap₂ (λ number others. (v.name, number) ∷ others)
    (ap (value_of stated_number) (keys_of-rows (value_tree v).1) ∙ value-number v)
    (values-listed (n + 1) values)

sets-listed : (n : ℕ) (sets : List Values) → IsDistinct same_step (numbered set n (map set_tree sets)) → map set_part (map part_of (listed (numbered set n (map set_tree sets)))) ≡ map plain_set sets
unfolding numbered IsDistinct
sets-listed n [] distinct = refl
sets-listed n (v ∷ sets) distinct =
    ap₂ (λ first others. first ∷ others)
    (ap₂ (λ usage values. (usage, values))
    (ap (value_of stated_usage) (keys_of-rows (set_tree v).1) ∙ set-usage v)
    (ap (map value_part) (parts-rows (set_tree v).1 distinct.1) ∙ values-listed 0 v.items.items))
    (sets-listed (n + 1) sets distinct.2)

-- the sets that the rows of a field tell are its own
pub sets-field : (field : Field) → IsDistinct same_step (field_tree field).below → sets_of (rows (field_tree field)) ≡ map plain_set field.values.items
sets-field field distinct = ap (map set_part) (parts-rows (field_tree field) distinct) ∙ sets-listed 0 field.values.items distinct

-- ---- a field

module _ (key : Sibling) (field : Field) where
  pub keys-field : keys_of (rows (field_tree field)) ≡ stated (field_places field)
  keys-field = keys_of-rows (field_tree field)

  pub width-field : width_in (keys_of (rows (field_tree field))) ≡ unwrap_or field.place.width 1
  width-field = ap (λ w. unwrap_or w 1) (ap (value_of stated_width) keys-field ∙ field-width field)

  pub access-field : value_of stated_access (keys_of (rows (field_tree field))) ≡ field.access
  access-field = ap (value_of stated_access) keys-field ∙ field-access field

  -- the row of a field from the declared type
  pub row-field : (readable writable : Bool) (kind : Option WriteKind) → IsDistinct same_step (field_tree field).below → field_row readable writable kind (field_part (key, field)) ≡ record {
    name = accessor_name key.name;
    offset = unwrap_or field.place.offset 0;
    width = unwrap_or field.place.width 1;
    dim = field_dim field.dim.count field.dim.step;
    readable = readable && passes_at can_read field.access;
    writable = writable && passes_at can_write field.access;
    kind = unwrap_or (nearest (field.kind ∷ kind ∷ [])) Modify;
    is_calls = set_calls_of serves_reading is_call_name (unwrap_or field.place.width 1) (map plain_set field.values.items);
    set_calls = set_calls_of serves_writing variant_call_name (unwrap_or field.place.width 1) (map plain_set field.values.items);
  }
  unfolding field_row
  row-field readable writable kind distinct =
      let offset = ap (value_of stated_offset) keys-field ∙ field-offset field in
      let of_kind = ap (value_of stated_kind) keys-field ∙ field-kind field in
      let count = ap (value_of stated_dim) keys-field ∙ field-dim field in
      let step = ap (value_of stated_increment) keys-field ∙ field-increment field in
      let sets = sets-field field distinct in
      λ i. record {
        name = accessor_name key.name;
        offset = unwrap_or (offset i) 0;
        width = width-field i;
        dim = field_dim (count i) (step i);
        readable = readable && passes_at can_read (access-field i);
        writable = writable && passes_at can_write (access-field i);
        kind = unwrap_or (nearest (of_kind i ∷ kind ∷ [])) Modify;
        is_calls = set_calls_of serves_reading is_call_name (width-field i) (sets i);
        set_calls = set_calls_of serves_writing variant_call_name (width-field i) (sets i);
      }
