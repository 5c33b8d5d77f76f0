-- What the code makes of elements: the children of a block and the modules inside it, and whole blocks. Each can be printed in a text of the second version, and is read again; and so in one of the first, where no field is an array.
use Rattle.std.specs.Prelude.{◌∷◌, [], ℕ, ◌≡◌, Bool, true, List, map}
use Rattle.std.specs.List.{list_all}
use Rattle.block_form.specs.declared.form.Form.{Form}
use Rattle.frag_tree.specs.declared.block.Block.{Block}
use Rattle.frag_tree.specs.declared.block.Module.{Module}
use Rattle.frag_tree.specs.declared.krate.Version.TheVariants.{Two}
use Rattle.frag_tree.specs.Trees.{BlockTree, ModuleTree, Modules, block_tree, in_line, module_tree, one_block, one_register}
use Rattle.frag_tree.specs.Validity.{valid_block, valid_register}
use Rattle.svd_model.specs.declared.device.Cluster.{Cluster, out-Cluster}
use Rattle.svd_model.specs.declared.props.Props.{Props}
use Rattle.svd_model.specs.Keys.{Key}
use Rattle.svd_model.specs.Properties.{holding}
use Rattle.svd_model.specs.Steps.{Step}
use Rattle.svd_model.specs.Trees.{item_under}
use Rattle.svd_rows.specs.Forest.{Forest, Tree, siblings}
use Rattle.crate_form.specs.declared.part.Part.{Part}
use Rattle.crate_form.specs.declared.part.Parts.{Parts}
use Rattle.crate_form.specs.Children.{children_of}
use Rattle.crate_form.specs.Elements.{child_at, module_at}
use Rattle.crate_form.specs.Modules.{modules_of}

abbrev pub valid_unit : ModuleTree → Bool
valid_unit (one_register unit) = valid_register Two unit
valid_unit (one_block unit) = valid_block Two unit

-- modules as trees
abbrev pub units_of : List Module → List ModuleTree
units_of units = map module_tree units

-- those inside a block in which these properties hold and these elements stand, with what the block is told of them
pub record AreParts (outer : Props) (forest : Forest Step Key) (parts : Parts) : Type 0 where
  pub children : parts.children ≡ children_of outer forest
  pub units : in_line (units_of parts.units.items) ≡ modules_of outer forest
  pub valid : list_all valid_unit (units_of parts.units.items) ≡ true

-- those inside a cluster, inside of which these properties hold
abbrev pub AreInside : Props → Cluster → Parts → Type 0
AreInside outer cluster parts =
    AreParts (holding ((out-Cluster cluster).props ∷ outer ∷ [])) (siblings (map item_under (out-Cluster cluster).children.items)) parts

-- that of one of them
pub record IsPart (outer : Props) (element : Step × Tree Step Key) (part : Part) : Type 0 where
  pub child : part.child ≡ child_at outer element
  pub unit : module_tree part.unit ≡ module_at outer element
  pub valid : valid_unit (module_tree part.unit) ≡ true

-- a block of this name and form, with these modules inside
abbrev pub block_with : List ℕ → Form → Modules → BlockTree
block_with name form inside = record { head = record { name = name; fields = form.fields; accessors = form.accessors }; inside = inside }

pub record IsBlock (wanted : BlockTree) (block : Block) : Type 0 where
  pub tree : block_tree block ≡ wanted
  pub valid : valid_block Two (block_tree block) ≡ true
