-- The worked crate stands for its description.
use Rattle.std.proofs.Common.{ℕ, ◌≡◌, ◌^◌, ◌<◌, true, List, [], ◌∷◌, Option, Some, None, refl, sym, subst, arith}
use Rattle.std.specs.Prelude.{codes}
use Rattle.std.proofs.lemmas.Bool.{false≢true}
use Rattle.pac_base.specs.declared.width.Width.TheVariants.{W32}
use Rattle.frag_tree.specs.Trees.{one_block, one_register as register_tree}
use Rattle.frag_sem.specs.CallPlaces.{admits, offset_of}
use Rattle.frag_sem.specs.Layout.{align_of, extents, placed_behind}
use Rattle.frag_sem.specs.Likeness.{Alike}
use Rattle.frag_sem.specs.Modules.{are_distinct, each_module, modules_of}
use Rattle.frag_sem.specs.PreludeWords.{start_word}
use Rattle.frag_sem.specs.TextMeaning.{field_given, field_written, text_acts}
use Rattle.frag_sem.specs.TextSurface.{register_calls}
use Rattle.frag_sem.proofs.Words.{start_is, start_small, some_power}
use Rattle.reg_table.specs.Calls.{parts}
use Rattle.reg_table.specs.Masks.{is_masked, mask_of, number_of_bits}
use Rattle.reg_table.specs.Registers.{register_row}
use Rattle.reg_table.specs.Walk.{props_inside}
use Rattle.reg_table.specs.declared.row.Row.{Row as TableRow}
use Rattle.rust_names.specs.Keywords.{is_keyword}
use Rattle.rust_names.specs.PreludeNames.{is_prelude_name}
use Rattle.svd_model.specs.declared.props.Props.{Props}
use Rattle.svd_model.specs.Keys.{Key, at_offset, base_address, dim_count, dim_increment}
use Rattle.svd_model.specs.Properties.{holding}
use Rattle.svd_model.specs.Stating.{start_of, value_of}
use Rattle.svd_model.specs.Steps.{same_step}
use Rattle.svd_rows.specs.Forest.{leaf, steps}
use Rattle.svd_rows.specs.LookUps.{child_step, children_of, ends_with, inside, keys_of, top_key}
use Rattle.svd_rows.specs.Paths.{begins}
use Rattle.svd_rows.specs.Rows.{forest_rows, is_element, own, rows, under}
use Rattle.table_sem.specs.RowActs.{row_acts}
use Rattle.table_sem.specs.TableSurface.{no_path, row_calls}
use Rattle.table_sem.proofs.StartNumbers.{start_is_one}
use Rattle.checked_tree.specs.Kinds.{AreOf}
use Rattle.checked_tree.specs.Registers.{row_of}
use Rattle.crate_means.specs.BlockIs.{BlockIs, EachIs}
use Rattle.crate_means.specs.CrateIs.{EachPeripheral}
use Rattle.crate_means.specs.RegisterIs.{RegisterIs}
use Rattle.crate_means.specs.Worked.{WorkedStands, both_clusters, cluster_block, in_cluster, in_peripheral, no_props, one_register, peripheral_block, plain_register}

-- ---- registers

-- the row of a register without fields
abbrev plain_row : TableRow
plain_row = record { path = no_path; address = 0; width = W32; readable = true; writable = true; reset = 0; one = 0; zero = 0; fields = [] }

start-same : (word : ℕ) → word < 2 ^ 32 → (text_acts (plain_register [])).start word ≡ (row_acts plain_row).start word
unfolding row_acts
start-same word small = start_is_one 32 word 0 0 (start_word 32 word 0 0) (start_small 32 word 0 0 small (some_power 32)) (start_is W32 word 0 0 (some_power 32))

plain-alike : (name : List ℕ) → Alike (text_acts (plain_register name)) (row_acts plain_row)
unfolding row_acts field_given field_written
plain-alike name = record {
  keeps = record {
    reset = some_power 32;
    start = λ word small. start_small 32 word 0 0 small (some_power 32);
    put = λ field index method value word small. small;
  };
  width = refl;
  reset = refl;
  start = start-same;
  given = λ field index method word small. refl;
  put = λ field index method value word small. refl;
}

plain-is : (name : List ℕ) (props : Props) (keys : List Key) → row_of props keys leaf ≡ plain_row → RegisterIs props keys leaf (plain_register name)
unfolding AreOf register_calls row_calls
plain-is name props keys is = record {
  acts = subst (λ row. Alike (text_acts (plain_register name)) (row_acts row)) (sym is) (plain-alike name);
  calls = subst (λ row. register_calls (plain_register name) ≡ row_calls row) (sym is) refl;
  fields = tt;
}

abbrev t_props : Props
t_props = props_inside (base_address 0x40000000 ∷ []) no_props

abbrev cl_keys : List Key
cl_keys = dim_count 2 ∷ dim_increment 4 ∷ at_offset 8 ∷ []

abbrev cl_props : Props
cl_props = props_inside cl_keys t_props

sr_row : row_of (props_inside (at_offset 4 ∷ []) t_props) (at_offset 4 ∷ []) leaf ≡ plain_row
unfolding register_row mask_of is_masked number_of_bits holding value_of parts inside top_key child_step keys_of children_of ends_with begins own under forest_rows rows is_element same_step
sr_row = refl

x_row : row_of (props_inside (at_offset 0 ∷ []) cl_props) (at_offset 0 ∷ []) leaf ≡ plain_row
unfolding register_row mask_of is_masked number_of_bits holding value_of parts inside top_key child_step keys_of children_of ends_with begins own under forest_rows rows is_element same_step
x_row = refl

-- ---- places

x_place : (index : Option ℕ) → admits None index ≡ true → offset_of cluster_block (one_register (codes "x")) index ≡ start_of (at_offset 0 ∷ []) index
unfolding value_of extents each_module placed_behind align_of
x_place None h = refl
x_place (Some index) h = absurd (false≢true h)

sr_place : (index : Option ℕ) → admits None index ≡ true → offset_of peripheral_block (one_register (codes "sr")) index ≡ start_of (at_offset 4 ∷ []) index
unfolding value_of extents each_module placed_behind align_of
sr_place None h = refl
sr_place (Some index) h = absurd (false≢true h)

cl_place : (index : Option ℕ) → admits (Some 2) index ≡ true → offset_of peripheral_block both_clusters index ≡ start_of cl_keys index
unfolding value_of extents each_module placed_behind align_of
cl_place None h = absurd (false≢true h)
cl_place (Some index) h = omega arith

-- ---- blocks

cluster-is : BlockIs cl_props in_cluster cluster_block
unfolding EachIs steps are_distinct is_keyword is_prelude_name modules_of value_of
cluster-is = record {
  distinct = refl;
  each = (record { named = refl; name = refl; count = refl; place = x_place; inner = register_tree (plain_register (codes "x")); stands = refl; inner_is = plain-is (codes "x") (props_inside (at_offset 0 ∷ []) cl_props) (at_offset 0 ∷ []) x_row }, tt);
}

peripheral-is : BlockIs t_props in_peripheral peripheral_block
unfolding EachIs steps are_distinct is_keyword is_prelude_name modules_of value_of
peripheral-is = record {
  distinct = refl;
  each = (
    record { named = refl; name = refl; count = refl; place = sr_place; inner = register_tree (plain_register (codes "sr")); stands = refl; inner_is = plain-is (codes "sr") (props_inside (at_offset 4 ∷ []) t_props) (at_offset 4 ∷ []) sr_row },
    (record { named = refl; name = refl; count = refl; place = cl_place; inner = one_block cluster_block; stands = refl; inner_is = cluster-is }, tt),
  );
}

pub worked_stands : WorkedStands
unfolding EachPeripheral steps are_distinct value_of is_keyword is_prelude_name
worked_stands = record { distinct = refl; each = (record { named = refl; no_register = refl; name = refl; address = refl; unit = peripheral_block; stands = refl; unit_is = peripheral-is }, tt) }
