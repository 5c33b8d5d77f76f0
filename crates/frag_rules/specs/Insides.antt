-- What is known of the modules of one parent, found by elements.
use Rattle.std.specs.Prelude.{◌≡◌, Option, []}
use Rattle.std.specs.Map.{lookup}
use Rattle.std.specs.Str.{bytes_eq}
use Rattle.frag_tree.specs.declared.block.Element.{Element}
use Rattle.frag_tree.specs.declared.block.Element.TheVariants as element
use Rattle.frag_tree.specs.Trees.{ModuleTree}
use Rattle.frag_rules.specs.declared.inside.Inside.{Inside}

-- what is known of the module of an element
unfoldable pub found_inside : {T : Type 0} → Inside T → Element → Option T
found_inside inside (element.Register name) = lookup (bytes_eq name) inside.registers
found_inside inside (element.Block name) = lookup (bytes_eq name) inside.blocks

-- nothing is known of any module
abbrev pub holds_nothing : {T : Type 0} → Inside T → Type 0
holds_nothing inside = (inside.registers ≡ []) × (inside.blocks ≡ [])

-- all that is known is that the module is there
abbrev pub is_there : ModuleTree → Unit {0}
is_there tree = tt
