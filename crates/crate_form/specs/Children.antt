-- What the blocks of an emitted crate are made of (this project's own rules of emission): a child for each register and cluster, as they are declared. Offsets, sizes, strides and alignments are in bytes.
use Rattle.std.specs.Prelude.{ℕ, Bool, true, false, List, [], ◌∷◌, Option, None, Some, unwrap_or}
use Rattle.block_form.specs.declared.child.Array.{Array}
use Rattle.block_form.specs.declared.child.Child.{Child}
use Rattle.block_form.specs.declared.child.ChildKind.{ChildKind}
use Rattle.block_form.specs.declared.child.ChildKind.TheVariants as kind
use Rattle.block_form.specs.Forms.{align_among, size_among}
use Rattle.frag_sem.specs.Layout.{Extent}
use Rattle.reg_table.specs.Walk.{props_inside}
use Rattle.svd_model.specs.declared.props.Props.{Props}
use Rattle.svd_model.specs.Checking.{bytes_of, width_of}
use Rattle.svd_model.specs.Keys.{Key}
use Rattle.svd_model.specs.Properties.{size_at}
use Rattle.svd_model.specs.Stating.{is_of, stated_dim, stated_increment, stated_offset, value_of}
use Rattle.svd_model.specs.Steps.{Step, register}
use Rattle.svd_rows.specs.Forest.{Forest, leaf, node}
use Rattle.svd_values.specs.AccessorNames.{accessor_name}

-- what states `dim` is an array, and `dimIncrement` its stride, 0 where it isn't stated
abbrev pub array_of : Option ℕ → Option ℕ → Option Array
array_of None increment = None
array_of (Some count) increment = Some (record { count = count; stride = unwrap_or increment 0 })

-- a child of this name that takes so much
abbrev pub child_with : List ℕ → ChildKind → ℕ → Option Array → Extent → Child
child_with name kind offset array extent = record {
  name = name;
  kind = kind;
  offset = offset;
  size = extent.size;
  align = extent.align;
  array = array;
}

-- the child of an element with these keys: it stands where they say, behind the start of its parent
abbrev pub child_here : ChildKind → Extent → Step → List Key → Child
child_here kind extent step keys =
    child_with (accessor_name step.name) kind (unwrap_or (value_of stated_offset keys) 0) (array_of (value_of stated_dim keys) (value_of stated_increment keys)) extent

-- a register takes the bytes of its width, and is aligned to them
abbrev pub register_extent : Props → Extent
register_extent props = record { size = bytes_of (width_of (size_at props)); align = bytes_of (width_of (size_at props)) }

-- a block takes what its own children take
abbrev pub inside_extent : List Child → Extent
inside_extent inside = record { size = size_among inside; align = align_among inside }

abbrev pub child_by : Bool → Props → Step → List Key → List Child → Child
child_by true props step keys inside = child_here kind.Register (register_extent props) step keys
child_by false props step keys inside = child_here kind.Block (inside_extent inside) step keys

-- the child of a register or of a cluster with these keys, in which these properties hold, and with these children of its own where it is a cluster
abbrev pub child_of : Props → Step → List Key → List Child → Child
child_of props step keys inside = child_by (is_of register step) props step keys inside

-- the children of a block in which these properties hold
unfoldable pub children_of : Props → Forest Step Key → List Child
children_of outer leaf = []
children_of outer (node step keys below others) =
    child_of (props_inside keys outer) step keys (children_of (props_inside keys outer) below) ∷ children_of outer others
