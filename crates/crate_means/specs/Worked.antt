-- A worked crate that stands for a description: one register behind a gap, and an array of two clusters with a register each.
use Rattle.std.specs.Prelude.{ℕ, true, false, Some, None, List, [], ◌∷◌, codes}
use Rattle.pac_base.specs.declared.width.Width.TheVariants.{W32}
use Rattle.frag_tree.specs.declared.access.Access.{Access}
use Rattle.frag_tree.specs.declared.access.Body.TheVariants as body
use Rattle.frag_tree.specs.declared.block.Element.TheVariants as element
use Rattle.frag_tree.specs.declared.block.FieldType.TheVariants as holds
use Rattle.frag_tree.specs.declared.krate.Version.TheVariants.{One}
use Rattle.frag_tree.specs.declared.register.RegisterModule.{RegisterModule}
use Rattle.frag_tree.specs.Trees.{BlockTree, CrateTree, block, ended, register as register_module}
use Rattle.frag_tree.specs.Worked.{constant}
use Rattle.svd_model.specs.declared.props.Props.{Props}
use Rattle.svd_model.specs.Keys.{Key, at_offset, base_address, dim_count, dim_increment}
use Rattle.svd_model.specs.Steps.{Kind, Step, cluster, peripheral, register}
use Rattle.svd_rows.specs.Forest.{Forest, leaf, node}
use Rattle.crate_means.specs.CrateIs.{CrateOf}

-- ---- the description

-- nothing is stated
abbrev pub no_props : Props
no_props = record { size = None; access = None; reset_value = None; reset_mask = None }

abbrev pub step : Kind → List ℕ → Step
step kind name = record { kind = kind; name = name; number = 0 }

-- the register X at the start of a cluster
abbrev pub in_cluster : Forest Step Key
in_cluster = node (step register (codes "X")) (at_offset 0 ∷ []) leaf leaf

-- SR at 4, and behind it `CL[%s]` of two, 4 bytes apart
abbrev pub in_peripheral : Forest Step Key
in_peripheral =
    node (step register (codes "SR")) (at_offset 4 ∷ []) leaf
    (node (step cluster (codes "CL[%s]")) (dim_count 2 ∷ dim_increment 4 ∷ at_offset 8 ∷ []) in_cluster leaf)

-- the peripheral T at 0x40000000
abbrev pub peripherals : Forest Step Key
peripherals = node (step peripheral (codes "T")) (base_address 0x40000000 ∷ []) in_peripheral leaf

-- ---- the crate

-- a register of 32 bits without fields
abbrev pub plain_register : List ℕ → RegisterModule
plain_register name = record {
  name = name;
  word = W32;
  readable = true;
  writable = Some (record { zero_to_modify = constant 0; one_to_modify = constant 0 });
  reset = constant 0;
  markers = [];
  readers = Some [];
  writers = Some [];
  values = [];
}

abbrev pub one_register : List ℕ → Access
one_register name = record { name = name; is_indexed = false; element = element.Register name; body = body.Field name }

abbrev pub both_clusters : Access
both_clusters = record { name = codes "cl"; is_indexed = true; element = element.Block (codes "cl"); body = body.Member (codes "cl") }

abbrev pub cluster_block : BlockTree
cluster_block = record {
  head = record { name = codes "cl"; fields = record { name = codes "x"; holds = holds.One (element.Register (codes "x")) } ∷ []; accessors = one_register (codes "x") ∷ [] };
  inside = register_module (plain_register (codes "x")) ended;
}

abbrev pub peripheral_block : BlockTree
peripheral_block = record {
  head = record {
    name = codes "t";
    fields =
        record { name = codes "_reserved0"; holds = holds.Gap 4 } ∷
        record { name = codes "sr"; holds = holds.One (element.Register (codes "sr")) } ∷
        record { name = codes "cl"; holds = holds.Array (element.Block (codes "cl")) 2 } ∷ [];
    accessors = one_register (codes "sr") ∷ both_clusters ∷ [];
  };
  inside = register_module (plain_register (codes "sr")) (block cluster_block.head cluster_block.inside ended);
}

abbrev pub krate : CrateTree
krate = record { version = One; slots = record { name = codes "T"; block = codes "t"; address = 0x40000000 } ∷ []; blocks = peripheral_block ∷ [] }

-- it stands for them
abbrev pub WorkedStands : Type 0
WorkedStands = CrateOf no_props peripherals krate
