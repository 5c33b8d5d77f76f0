-- What an element states beside the place at which it stands, and when two elements state the same.
use Rattle.std.specs.Prelude.{◌≡◌, ℕ, Bool, ◌&&◌, nat_eq, List, [], ◌∷◌, ◌++◌, Option, None, Some, option_map}
use Rattle.std.specs.Cmp.Lexicographic.{pointwise}
use Rattle.std.specs.Option.{option_eq}
use Rattle.std.specs.Str.{bytes_eq}
use Rattle.pac_base.specs.declared.path.Step.{Step as Written}
use Rattle.patch_edits.specs.Visits.{Below}
use Rattle.patch_sem.specs.Likeness.{same_index, same_rows}
use Rattle.patch_arrays.specs.Arranging.{Element}
use Rattle.svd_model.specs.declared.device.Child.TheOpen.{Cluster-F}
use Rattle.svd_model.specs.declared.device.Dim.{Dim}
use Rattle.svd_model.specs.declared.device.Field.{Field}
use Rattle.svd_model.specs.declared.device.Item.{Item}
use Rattle.svd_model.specs.declared.device.Peripheral.{Peripheral}
use Rattle.svd_model.specs.declared.device.Register.{Register}
use Rattle.svd_model.specs.declared.device.Values.{Values}
use Rattle.svd_model.specs.declared.device.Variant.{Variant}
use Rattle.svd_model.specs.declared.props.Props.{Props}
use Rattle.svd_model.specs.declared.sibling.Sibling.{Sibling}
use Rattle.svd_model.specs.Keys.{Key, derived_from, base_address, at_offset, bit_width, alternate_of, alternate_group, write_kind, read_action, value_usage, enumerated_value}
use Rattle.svd_model.specs.Steps.{Step, same_step}
use Rattle.svd_model.specs.Trees.{dim_places, field_under, item_under, property_places, set_tree, value_tree}
use Rattle.svd_rows.specs.Forest.{Tree}
use Rattle.svd_rows.specs.Ranks.{stated}
use Rattle.svd_rows.specs.Rows.{rows}
use Rattle.svd_values.specs.declared.schema_word.ReadAction.{ReadAction}
use Rattle.svd_values.specs.declared.schema_word.Usage.{Usage}
use Rattle.svd_values.specs.declared.schema_word.WriteKind.{WriteKind}
use Rattle.svd_values.specs.contracts.schema_word.AccessPartialEq.TheImpl as accesses
use Rattle.svd_values.specs.contracts.schema_word.ReadActionPartialEq.TheImpl as actions
use Rattle.svd_values.specs.contracts.schema_word.UsagePartialEq.TheImpl as usages
use Rattle.svd_values.specs.contracts.schema_word.WriteKindPartialEq.TheImpl as kinds

pub record Unplaced : Type 0 where
  pub number : Option ℕ
  pub usage : Option Usage
  pub alternate : Option (List ℕ)
  pub group : Option (List ℕ)
  pub width : Option ℕ
  pub kind : Option WriteKind
  pub action : Option ReadAction
  pub dim : Dim
  pub props : Props
  pub derived : Option (List Written)

-- the keys in the places of their ranks, with a base or an offset
unfoldable pub places_with : Option ℕ → Option ℕ → Unplaced → List (Option Key)
places_with base offset one =
    None ∷ option_map derived_from one.derived ∷ (dim_places one.dim ++ (option_map base_address base ∷ option_map at_offset offset ∷ option_map bit_width one.width ∷ option_map alternate_of one.alternate ∷ option_map alternate_group one.group ∷ (property_places one.props ++ (option_map write_kind one.kind ∷ option_map read_action one.action ∷ option_map value_usage one.usage ∷ option_map enumerated_value one.number ∷ []))))

-- ---- elements

abbrev pub no_dim : Dim
no_dim = record { count = None; step = None; index = None }

abbrev pub no_props : Props
no_props = record { size = None; access = None; reset_value = None; reset_mask = None }

abbrev pub of_peripheral : Peripheral → Unplaced
of_peripheral one = record { number = None; usage = None; alternate = None; group = None; width = None; kind = None; action = None; dim = one.dim; props = one.props; derived = one.derived }

abbrev pub of_cluster : {A B C : Type 0} → Cluster-F A B C → Unplaced
of_cluster one = record { number = None; usage = None; alternate = one.alternate; group = None; width = None; kind = None; action = None; dim = one.dim; props = one.props; derived = one.derived }

abbrev pub of_register : Register → Unplaced
of_register one = record { number = None; usage = None; alternate = one.alternate; group = one.group; width = None; kind = one.kind; action = one.action; dim = one.dim; props = one.props; derived = one.derived }

abbrev pub of_field : Field → Unplaced
of_field one = record { number = None; usage = None; alternate = None; group = None; width = one.place.width; kind = one.kind; action = one.action; dim = one.dim; props = record { size = None; access = one.access; reset_value = None; reset_mask = None }; derived = one.derived }

abbrev pub of_set : Values → Unplaced
of_set one = record { number = None; usage = one.usage; alternate = None; group = None; width = None; kind = None; action = None; dim = no_dim; props = no_props; derived = one.derived }

abbrev pub of_value : Variant → Unplaced
of_value one = record { number = one.value; usage = None; alternate = None; group = None; width = None; kind = None; action = None; dim = no_dim; props = no_props; derived = None }

-- ---- tests

abbrev pub same_written : Written → Written → Bool
same_written one other = bytes_eq one.name other.name && option_eq nat_eq one.index other.index

abbrev pub same_path : Option (List Written) → Option (List Written) → Bool
same_path = option_eq (pointwise same_written)

abbrev pub same_dim : Dim → Dim → Bool
same_dim one other = option_eq nat_eq one.count other.count && (option_eq nat_eq one.step other.step && option_eq same_index one.index other.index)

abbrev pub same_props : Props → Props → Bool
same_props one other =
    option_eq nat_eq one.size other.size && (option_eq nat_eq one.reset_value other.reset_value && (option_eq nat_eq one.reset_mask other.reset_mask && option_eq accesses.ghosts.eq one.access other.access))

unfoldable pub same_unplaced : Unplaced → Unplaced → Bool
same_unplaced one other =
    option_eq nat_eq one.number other.number && (option_eq usages.ghosts.eq one.usage other.usage && (option_eq bytes_eq one.alternate other.alternate && (option_eq bytes_eq one.group other.group && (option_eq nat_eq one.width other.width && (option_eq kinds.ghosts.eq one.kind other.kind && (option_eq actions.ghosts.eq one.action other.action && (same_dim one.dim other.dim && (same_props one.props other.props && same_path one.derived other.derived))))))))

-- do the two elements have the same rows?
unfoldable pub same_tree : Tree Step Key → Tree Step Key → Bool
same_tree one other = same_rows (rows one) (rows other)

abbrev pub same_element : Element → Element → Bool
same_element one other = same_step one.0 other.0 && same_tree one.1 other.1

-- a set or value under its name
abbrev pub same_named : (List ℕ × Tree Step Key) → (List ℕ × Tree Step Key) → Bool
same_named one other = bytes_eq one.0 other.0 && same_tree one.1 other.1

abbrev pub same_value : Variant → Variant → Bool
same_value one other = same_named (value_tree one) (value_tree other)

abbrev pub same_set : Values → Values → Bool
same_set one other = same_named (set_tree one) (set_tree other)

abbrev pub same_field : (Sibling × Field) → (Sibling × Field) → Bool
same_field one other = same_element (field_under one) (field_under other)

abbrev pub same_item : Item → Item → Bool
same_item one other = same_element (item_under one) (item_under other)

-- an element that is made of its keys and what stands below it
abbrev pub tree_of : Option ℕ → Unplaced → Below → Tree Step Key
tree_of offset one below = record { keys = stated (places_with None offset one); below = below }

-- an element below a peripheral or register, at an offset
abbrev pub IsMade : Tree Step Key → ℕ → Type 0
IsMade tree offset = (one : Unplaced) × (tree ≡ tree_of (Some offset) one tree.below)

-- so many members at that step
abbrev pub with_members : ℕ → ℕ → Dim → Dim
with_members count step dim = record { count = Some count; step = Some step; index = dim.index }
