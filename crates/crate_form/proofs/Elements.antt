-- What a register and a cluster come to, from their declared parts.
use Rattle.std.proofs.Common.{◌≡◌, ℕ, ◌*◌, List, [], ◌∷◌, map, unwrap_or, sym, ap, ap₂, ◌∙◌, arith}
use Rattle.block_form.specs.declared.child.Child.{Child}
use Rattle.block_form.specs.declared.child.ChildKind.TheVariants as kind
use Rattle.block_form.specs.declared.form.Form.{Form}
use Rattle.block_form.specs.Forms.{form_of}
use Rattle.frag_tree.specs.Trees.{Modules, one_block}
use Rattle.pac_base.specs.declared.width.Width.{Width}
use Rattle.pac_base.specs.declared.width.Width.TheVariants.{W8, W16, W32, W64}
use Rattle.pac_base.specs.Widths.{bits_of}
use Rattle.reg_table.specs.declared.row.Row.{Row as TableRow}
use Rattle.reg_table.specs.declared.row.RowPath.{RowPath}
use Rattle.reg_table.specs.Registers.{register_row}
use Rattle.reg_table.specs.Walk.{props_inside}
use Rattle.register_form.specs.declared.register.Field.{Field as MadeField}
use Rattle.register_form.specs.declared.register.Register.{Register as MadeRegister}
use Rattle.svd_model.specs.declared.device.Cluster.{Cluster, out-Cluster}
use Rattle.svd_model.specs.declared.device.Register.{Register}
use Rattle.svd_model.specs.declared.props.Props.{Props}
use Rattle.svd_model.specs.declared.sibling.Sibling.{Sibling}
use Rattle.svd_model.specs.Checking.{bytes_of, width_of}
use Rattle.svd_model.specs.Properties.{holding, register_properties, size_at}
use Rattle.svd_model.specs.Trees.{item_under, register_places, register_tree, cluster_under, register_under}
use Rattle.svd_model.proofs.Stated.{cluster-dim, cluster-increment, cluster-offset, register-dim, register-increment, register-offset}
use Rattle.svd_rows.specs.Forest.{siblings}
use Rattle.svd_rows.specs.Ranks.{stated}
use Rattle.svd_rows.specs.Rows.{rows}
use Rattle.svd_values.specs.AccessorNames.{accessor_name}
use Rattle.crate_form.specs.Children.{array_of, child_with, children_of, inside_extent, register_extent}
use Rattle.crate_form.specs.Elements.{child_at, entry_marker, module_at, register_at}
use Rattle.crate_form.specs.Modules.{head_of, modules_of}
use Rattle.crate_form.specs.Parts.{block_with}
use Rattle.crate_form.specs.Registers.{marked, row_here}
use Rattle.crate_form.proofs.Named.{markers-entries}
use Rattle.crate_form.proofs.Standing.{props-cluster, props-register, tree-cluster}

-- ---- a register

pub bytes-is : (width : Width) (n : ℕ) → 8 * n ≡ bits_of width → n ≡ bytes_of width
bytes-is W8 n is = omega (arith, is)
bytes-is W16 n is = omega (arith, is)
bytes-is W32 n is = omega (arith, is)
bytes-is W64 n is = omega (arith, is)

module _ (outer : Props) (key : Sibling) (r : Register) where
  pub child-register : child_at outer (register_under key r) ≡ child_with (accessor_name key.name) kind.Register r.offset (array_of r.dim.count r.dim.step) (register_extent (register_properties r outer))
  child-register = λ i. child_with (accessor_name key.name) kind.Register (unwrap_or (register-offset r i) 0) (array_of (register-dim r i) (register-increment r i)) (register_extent (props-register outer key r i))

  -- its fields are told alike, whatever its path
  pub fields-row : (path : RowPath) → (register_row path 0 (register_properties r outer) (rows (register_tree r))).fields ≡ (row_here (props_inside (stated (register_places r)) outer) (stated (register_places r)) (register_tree r).below).fields
  unfolding register_row
  fields-row path = ap (λ props. (register_row path 0 props (rows (register_tree r))).fields) (sym (props-register outer key r))

  -- what it takes
  pub bytes-register : (made : MadeRegister) (n : ℕ) → made ≡ register_at outer (register_under key r) → 8 * n ≡ bits_of made.word → n ≡ bytes_of (width_of (size_at (register_properties r outer)))
  unfolding register_row
  bytes-register made n is bytes =
      bytes-is made.word n bytes ∙ (ap (λ (made : MadeRegister). bytes_of made.word) is ∙ ap (λ props. bytes_of (width_of (size_at props))) (props-register outer key r))

  pub child-made : (child : Child) (size align : ℕ) → child ≡ child_with (accessor_name key.name) kind.Register r.offset (array_of r.dim.count r.dim.step) (record { size = size; align = align }) → size ≡ align → align ≡ bytes_of (width_of (size_at (register_properties r outer))) → child ≡ child_at outer (register_under key r)
  child-made child size align is same bytes =
      is ∙ ((λ i. child_with (accessor_name key.name) kind.Register r.offset (array_of r.dim.count r.dim.step) (record { size = (same ∙ bytes) i; align = bytes i })) ∙ sym child-register)

  -- a register that is put together of the parts of its row, which has some path
  pub register-made : (path : RowPath) (row : TableRow) (name : List ℕ) (fields : List MadeField) → row ≡ register_row path 0 (register_properties r outer) (rows (register_tree r)) → name ≡ accessor_name key.name → fields ≡ marked (map entry_marker r.fields.entries) row.fields
      → ◌≡◌ {A = MadeRegister} (record {
        name = name;
        word = row.width;
        readable = row.readable;
        writable = row.writable;
        reset = row.reset;
        one = row.one;
        zero = row.zero;
        fields = fields;
      }) (register_at outer (register_under key r))
  unfolding register_row
  register-made path row name fields is named made =
      let here = is ∙ ap (λ props. register_row path 0 props (rows (register_tree r))) (sym (props-register outer key r)) in
      let all = made ∙ ap₂ marked (sym (markers-entries r.fields.entries)) (ap (λ (row : TableRow). row.fields) here) in
      λ i. record {
        name = named i;
        word = (here i).width;
        readable = (here i).readable;
        writable = (here i).writable;
        reset = (here i).reset;
        one = (here i).one;
        zero = (here i).zero;
        fields = all i;
      }

-- ---- a block

-- a block of the form that these children have
pub block-made : (name : List ℕ) (form : Form) (inside modules : Modules) (children : List Child) → form ≡ form_of children → inside ≡ modules → block_with name form inside ≡ record { head = head_of name children; inside = modules }
block-made name form inside modules children is same = λ i. record {
  head = record { name = name; fields = (ap (λ (form : Form). form.fields) is) i; accessors = (ap (λ (form : Form). form.accessors) is) i };
  inside = same i;
}

-- ---- a cluster

module _ (outer : Props) (key : Sibling) (c : Cluster) where
  abbrev inner : Props
  inner = holding ((out-Cluster c).props ∷ outer ∷ [])

  pub child-cluster : child_at outer (cluster_under key c) ≡ child_with (accessor_name key.name) kind.Block (out-Cluster c).offset (array_of (out-Cluster c).dim.count (out-Cluster c).dim.step) (inside_extent (children_of inner (siblings (map item_under (out-Cluster c).children.items))))
  child-cluster =
      ap (child_at outer) (tree-cluster outer key c)
      ∙ λ i. child_with (accessor_name key.name) kind.Block (unwrap_or (cluster-offset (out-Cluster c) i) 0) (array_of (cluster-dim (out-Cluster c) i) (cluster-increment (out-Cluster c) i)) (inside_extent (children_of (props-cluster outer key c i) (siblings (map item_under (out-Cluster c).children.items))))

  pub child-built : (child : Child) (form : Form) → child ≡ child_with (accessor_name key.name) kind.Block (out-Cluster c).offset (array_of (out-Cluster c).dim.count (out-Cluster c).dim.step) (record { size = form.size; align = form.align }) → form ≡ form_of (children_of inner (siblings (map item_under (out-Cluster c).children.items))) → child ≡ child_at outer (cluster_under key c)
  child-built child form is formed =
      is ∙ ((λ i. child_with (accessor_name key.name) kind.Block (out-Cluster c).offset (array_of (out-Cluster c).dim.count (out-Cluster c).dim.step) (record { size = (ap (λ (form : Form). form.size) formed) i; align = (ap (λ (form : Form). form.align) formed) i })) ∙ sym child-cluster)

  pub unit-cluster : module_at outer (cluster_under key c) ≡ one_block (record { head = head_of (accessor_name key.name) (children_of inner (siblings (map item_under (out-Cluster c).children.items))); inside = modules_of inner (siblings (map item_under (out-Cluster c).children.items)) })
  unit-cluster =
      ap (module_at outer) (tree-cluster outer key c)
      ∙ λ i. one_block (record {
        head = head_of (accessor_name key.name) (children_of (props-cluster outer key c i) (siblings (map item_under (out-Cluster c).children.items)));
        inside = modules_of (props-cluster outer key c i) (siblings (map item_under (out-Cluster c).children.items));
      })
