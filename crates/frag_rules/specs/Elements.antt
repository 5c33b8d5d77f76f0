-- The element that names a module.
use Rattle.frag_tree.specs.declared.block.Element.{Element}
use Rattle.frag_tree.specs.declared.block.Element.TheVariants as element
use Rattle.frag_tree.specs.Trees.{ModuleTree, one_block, one_register}

abbrev pub element_of : ModuleTree → Element
element_of (one_register unit) = element.Register unit.name
element_of (one_block unit) = element.Block unit.head.name
