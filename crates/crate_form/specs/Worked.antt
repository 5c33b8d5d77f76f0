-- Worked rows: the crates that are emitted for small descriptions, by computation.
use Rattle.std.specs.Prelude.{◌≡◌, ℕ, true, Some, None, List, [], ◌∷◌, codes, refl, ⊤}
use Rattle.std.specs.Fmt.{digits}
use Rattle.block_form.specs.Fields.{end_from, fields_from, greatest_align, taken_from}
use Rattle.block_form.specs.Gaps.{gap_field, gap_name}
use Rattle.block_form.specs.Order.{ordered_by, put_in}
use Rattle.block_form.specs.Worked.{array_field, block_by, block_field, by_field, by_place, members, register_field}
use Rattle.frag_tree.specs.declared.access.Body.TheVariants as body
use Rattle.frag_tree.specs.declared.krate.Version.TheVariants.{One, Two}
use Rattle.frag_tree.specs.declared.register.BitKind.TheVariants.{Plain as plain_bit}
use Rattle.frag_tree.specs.declared.register.ReadForm.TheVariants as read
use Rattle.frag_tree.specs.declared.register.RegisterModule.{RegisterModule}
use Rattle.frag_tree.specs.declared.register.Spot.TheVariants.{Fixed, Indexed}
use Rattle.frag_tree.specs.declared.register.Values.TheVariants as values
use Rattle.frag_tree.specs.declared.register.WriteForm.TheVariants as write
use Rattle.frag_tree.specs.Trees.{block, ended, register as register_module}
use Rattle.frag_tree.specs.Worked.{example}
use Rattle.pac_base.specs.declared.width.Width.{Width}
use Rattle.pac_base.specs.declared.width.Width.TheVariants.{W8, W16, W32}
use Rattle.reg_table.specs.Calls.{calls_of, first_of_each, parts}
use Rattle.reg_table.specs.Fields.{field_row}
use Rattle.reg_table.specs.Masks.{is_masked, mask_of, number_of_bits}
use Rattle.reg_table.specs.Registers.{register_row}
use Rattle.register_form.specs.Worked.{call}
use Rattle.svd_model.specs.declared.props.Props.{Props}
use Rattle.svd_model.specs.Keys.{Key, at_offset, base_address, bit_width, dim_count, dim_increment, enumerated_value, register_size, reset_value, write_kind}
use Rattle.svd_model.specs.Properties.{holding}
use Rattle.svd_model.specs.Stating.{value_of}
use Rattle.svd_model.specs.Steps.{Kind, Step, cluster, field, peripheral, register, same_step, set, value}
use Rattle.svd_rows.specs.Forest.{Forest, leaf, node, steps}
use Rattle.svd_rows.specs.LookUps.{child_step, children_of as steps_of, inside, keys_of, top_key}
use Rattle.svd_rows.specs.Paths.{begins}
use Rattle.svd_rows.specs.Rows.{forest_rows, is_element, own, rows, under}
use Rattle.rust_names.specs.Keywords.{is_keyword}
use Rattle.rust_names.specs.PreludeNames.{is_prelude_name}
use Rattle.svd_values.specs.declared.schema_word.WriteKind.TheVariants.{OneToClear}
use Rattle.crate_form.specs.Children.{children_of}
use Rattle.crate_form.specs.Crates.{blocks_of, crate_of, slots_of, takes_indexes}
use Rattle.crate_form.specs.Modules.{block_of, modules_of}
use Rattle.crate_form.specs.Registers.{marked}

-- ---- descriptions

abbrev pub step : Kind → List ℕ → Step
step kind name = record { kind = kind; name = name; number = 0 }

-- nothing is stated
abbrev pub no_props : Props
no_props = record { size = None; access = None; reset_value = None; reset_mask = None }

-- the peripheral of this name at 0x40000000, with these registers and clusters
abbrev pub device_of : List ℕ → Forest Step Key → Forest Step Key
device_of name below = node (step peripheral name) (base_address 0x40000000 ∷ []) below leaf

-- a register with these keys, without fields, and those behind it
abbrev pub plain : List ℕ → List Key → Forest Step Key → Forest Step Key
plain name keys others = node (step register name) keys leaf others

-- ---- what is wanted

-- a register of this width without fields
abbrev pub no_fields : List ℕ → Width → RegisterModule
no_fields name width = record {
  name = name;
  word = width;
  readable = true;
  writable = Some (record { zero_to_modify = record { width = width; value = 0 }; one_to_modify = record { width = width; value = 0 } });
  reset = record { width = width; value = 0 };
  markers = [];
  readers = Some [];
  writers = Some [];
  values = [];
}

-- what crates are computed with
crate_words : ⊤
unfolding crate_of slots_of blocks_of takes_indexes modules_of children_of marked steps register_row field_row parts calls_of first_of_each mask_of number_of_bits is_masked value_of holding same_step inside top_key child_step keys_of steps_of begins own under forest_rows rows is_element is_keyword is_prelude_name ordered_by put_in taken_from fields_from end_from greatest_align gap_name digits
crate_words = tt

-- ---- rows

-- SR with F0 at bit 0, which is cleared by writing 1, and F1 at bit 1: the worked crate text
pub one_to_clear :
    crate_of no_props (device_of (codes "T") (node (step register (codes "SR")) (at_offset 0 ∷ reset_value 3 ∷ [])
    (node (step field (codes "F0")) (at_offset 0 ∷ bit_width 1 ∷ write_kind OneToClear ∷ []) leaf (node (step field (codes "F1")) (at_offset 1 ∷ bit_width 1 ∷ []) leaf leaf)) leaf))
    ≡ example
unfolding crate_words
one_to_clear = refl

-- B behind a gap, and the array CH of four behind it
pub gap_and_array :
    block_of no_props (step peripheral (codes "T")) (plain (codes "A") (at_offset 0 ∷ register_size 16 ∷ []) (plain (codes "B") (at_offset 8 ∷ []) (plain (codes "CH[%s]") (dim_count 4 ∷ dim_increment 4 ∷ at_offset 12 ∷ []) leaf)))
    ≡ record {
      head = record {
        name = codes "t";
        fields = register_field (codes "a") ∷ gap_field 0 6 ∷ register_field (codes "b") ∷ array_field (codes "ch") 4 ∷ [];
        accessors = by_field (codes "a") ∷ by_field (codes "b") ∷ members (codes "ch") (body.Member (codes "ch")) ∷ [];
      };
      inside = register_module (no_fields (codes "a") W16) (register_module (no_fields (codes "b") W32) (register_module (no_fields (codes "ch") W32) ended));
    }
unfolding crate_words
gap_and_array = refl

-- B stands where A does; the members of CH stand further apart than they are long
pub reached_by_offset :
    block_of no_props (step peripheral (codes "T")) (plain (codes "A") (at_offset 0 ∷ []) (plain (codes "B") (at_offset 0 ∷ register_size 8 ∷ []) (plain (codes "CH[%s]") (dim_count 4 ∷ dim_increment 16 ∷ at_offset 0x24 ∷ []) leaf)))
    ≡ record {
      head = record {
        name = codes "t";
        fields = register_field (codes "a") ∷ [];
        accessors = by_field (codes "a") ∷ by_place (codes "b") 0 ∷ members (codes "ch") (body.AtIndex 0x24 16 4) ∷ [];
      };
      inside = register_module (no_fields (codes "a") W32) (register_module (no_fields (codes "b") W8) (register_module (no_fields (codes "ch") W32) ended));
    }
unfolding crate_words
reached_by_offset = refl

-- the cluster CL with the cluster INNER in it, whose registers have the size that CL states
pub cluster_in_cluster :
    block_of no_props (step peripheral (codes "T")) (node (step cluster (codes "CL")) (at_offset 4 ∷ register_size 16 ∷ []) (node (step cluster (codes "INNER")) (at_offset 2 ∷ []) (plain (codes "R") (at_offset 0 ∷ []) leaf) leaf) leaf)
    ≡ record {
      head = record {
        name = codes "t";
        fields = gap_field 0 4 ∷ block_field (codes "cl") ∷ [];
        accessors = block_by (codes "cl") (body.Field (codes "cl")) ∷ [];
      };
      inside = block (record {
        name = codes "cl";
        fields = gap_field 0 2 ∷ block_field (codes "inner") ∷ [];
        accessors = block_by (codes "inner") (body.Field (codes "inner")) ∷ [];
      }) (block (record {
        name = codes "inner";
        fields = register_field (codes "r") ∷ [];
        accessors = by_field (codes "r") ∷ [];
      }) (register_module (no_fields (codes "r") W16) ended) ended) ended;
    }
unfolding crate_words
cluster_in_cluster = refl

-- three bits at bit 4, of whose values 3 has the name `Fast`
pub enumerated_values :
    modules_of no_props (node (step register (codes "SR")) (at_offset 0 ∷ []) (node (step field (codes "MODE")) (at_offset 4 ∷ bit_width 3 ∷ []) (node (step set []) [] (node (step value (codes "Fast")) (enumerated_value 3 ∷ []) leaf leaf) leaf) leaf) leaf)
    ≡ register_module (record (no_fields (codes "sr") W32) {
      markers = codes "MODE_F" ∷ [];
      readers = Some (record { name = codes "mode"; marker = codes "MODE_F"; form = read.Field W8 (Fixed 4) 7 } ∷ []);
      writers = Some (record { name = codes "mode"; marker = codes "MODE_F"; form = write.Field W8 3 (Fixed 4) } ∷ []);
      values = values.FieldReading (codes "MODE_F") W8 (call (codes "is_fast") 3 ∷ []) ∷ values.FieldWriting (codes "MODE_F") W8 3 (call (codes "fast") 3 ∷ []) ∷ [];
    }) ended
unfolding crate_words
enumerated_values = refl

-- Names that are keywords take an underscore at their end, those that begin with a digit one in front; markers stand as they are written.
pub keyword_names :
    crate_of no_props (device_of (codes "Self") (node (step register (codes "type")) (at_offset 0 ∷ []) (node (step field (codes "2nd")) (at_offset 0 ∷ []) leaf leaf) leaf))
    ≡ record {
      version = One;
      slots = record { name = codes "Self_"; block = codes "self_"; address = 0x40000000 } ∷ [];
      blocks = record {
        head = record { name = codes "self_"; fields = register_field (codes "type_") ∷ []; accessors = by_field (codes "type_") ∷ [] };
        inside = register_module (record (no_fields (codes "type_") W32) {
          markers = codes "_2nd_F" ∷ [];
          readers = Some (record { name = codes "_2nd"; marker = codes "_2nd_F"; form = read.Bit (Fixed 0) 1 } ∷ []);
          writers = Some (record { name = codes "_2nd"; marker = codes "_2nd_F"; form = write.Bit plain_bit (Fixed 0) } ∷ []);
        }) ended;
      } ∷ [];
    }
unfolding crate_words
keyword_names = refl

-- `LV[%s]`, four fields of two bits, eight bits apart: one reader and one writer with an index, and a text of the second version
pub field_array :
    crate_of no_props (device_of (codes "T") (node (step register (codes "R")) (at_offset 0 ∷ []) (node (step field (codes "LV[%s]")) (dim_count 4 ∷ dim_increment 8 ∷ at_offset 0 ∷ bit_width 2 ∷ []) leaf leaf) leaf))
    ≡ record {
      version = Two;
      slots = record { name = codes "T"; block = codes "t"; address = 0x40000000 } ∷ [];
      blocks = record {
        head = record { name = codes "t"; fields = register_field (codes "r") ∷ []; accessors = by_field (codes "r") ∷ [] };
        inside = register_module (record (no_fields (codes "r") W32) {
          markers = codes "LV_F" ∷ [];
          readers = Some (record { name = codes "lv"; marker = codes "LV_F"; form = read.Field W8 (Indexed 0 8 4) 3 } ∷ []);
          writers = Some (record { name = codes "lv"; marker = codes "LV_F"; form = write.Field W8 2 (Indexed 0 8 4) } ∷ []);
        }) ended;
      } ∷ [];
    }
unfolding crate_words
field_array = refl
