-- The modules of an emitted block take what its children say.
use Rattle.std.proofs.Common.{◌≡◌, ◌/◌, Bool, true, false, List, Option, Some, option_map, refl, ap, ◌∙◌}
use Rattle.std.specs.Prelude.{⊤}
use Rattle.block_form.specs.Children.{child_extent, element_of}
use Rattle.block_form.specs.Laws.{AreKnown}
use Rattle.block_form.proofs.Extents.{extent_is}
use Rattle.checked_tree.specs.Blocks.{AreInBlock, InBlock}
use Rattle.checked_tree.specs.Names.{AreSiblings}
use Rattle.checked_tree.specs.Registers.{RegisterIsChecked}
use Rattle.crate_form.specs.Children.{child_by, children_of}
use Rattle.crate_form.specs.Modules.{head_of, module_by, modules_of}
use Rattle.crate_fits.proofs.Found.{AreFound, are-found, child_here, module_here}
use Rattle.frag_sem.specs.Layout.{Extents, block_extent, extents, register_extent}
use Rattle.frag_sem.specs.Modules.{beside, modules_of as entries_of}
use Rattle.frag_sem.proofs.Chains.{comes_to, each_beside}
use Rattle.frag_tree.specs.declared.block.Element.{Element}
use Rattle.frag_tree.specs.Trees.{ModuleTree}
use Rattle.pac_base.specs.declared.width.Width.{Width}
use Rattle.pac_base.specs.declared.width.Width.TheVariants.{W16, W32, W64, W8}
use Rattle.pac_base.specs.Widths.{bits_of}
use Rattle.reg_table.specs.Registers.{register_row}
use Rattle.reg_table.specs.Walk.{props_inside}
use Rattle.svd_model.specs.declared.props.Props.{Props}
use Rattle.svd_model.specs.Checking.{bytes_of, width_of}
use Rattle.svd_model.specs.Keys.{Key}
use Rattle.svd_model.specs.Properties.{size_at}
use Rattle.svd_model.specs.Stating.{is_of}
use Rattle.svd_model.specs.Steps.{Step, register}
use Rattle.svd_rows.specs.Forest.{Forest, leaf, node}
use Rattle.svd_values.specs.AccessorNames.{accessor_name}

pub bytes-bits : (width : Width) → bits_of width / 8 ≡ bytes_of width
bytes-bits W8 = refl
bytes-bits W16 = refl
bytes-bits W32 = refl
bytes-bits W64 = refl

-- each module takes what its child says
unfoldable pub ExtentsAre : Props → Forest Step Key → Type 0
ExtentsAre outer leaf = ⊤
ExtentsAre outer (node step keys below others) =
    (comes_to register_extent block_extent (module_here outer step keys below) ≡ child_extent (child_here outer step keys below)) × ExtentsAre outer others

known-behind : (known : Extents) (look : Element → Option ModuleTree) → ((wanted : Element) → beside wanted known ≡ option_map (comes_to register_extent block_extent) (look wanted)) → (outer : Props) (f : Forest Step Key) → AreFound look outer f → ExtentsAre outer f → AreKnown known (children_of outer f)
unfolding AreFound ExtentsAre children_of
known-behind known look is outer leaf found are = tt
known-behind known look is outer (node step keys below others) found are = (
  is (element_of (child_here outer step keys below)) ∙ ap (option_map (comes_to register_extent block_extent)) found.0 ∙ ap Some are.0,
  known-behind known look is outer others found.1 are.1,
)

-- so each is found among what the modules take
pub known-from : (outer : Props) (f : Forest Step Key) → AreSiblings f → ExtentsAre outer f → AreKnown (extents (modules_of outer f)) (children_of outer f)
unfolding extents
known-from outer f siblings are =
    known-behind (extents (modules_of outer f)) (λ wanted. beside wanted (entries_of (modules_of outer f))) (λ wanted. each_beside register_extent block_extent wanted (modules_of outer f)) outer f (are-found outer f siblings.names) are

module _ (props : Props) (step : Step) (keys : List Key) (below : Forest Step Key) where
  extent-here : (b : Bool) → InBlock b (RegisterIsChecked props keys below) (AreSiblings below × AreInBlock props below) → (AreInBlock props below → ExtentsAre props below)
      → comes_to register_extent block_extent (module_by b props step keys below (modules_of props below)) ≡ child_extent (child_by b props step keys (children_of props below))
  unfolding register_row extents
  extent-here true inside each = let is = bytes-bits (width_of (size_at props)) in λ i. record { size = is i; align = is i }
  extent-here false inside each = extent_is (extents (modules_of props below)) (head_of (accessor_name step.name) (children_of props below)) (children_of props below) (known-from props below inside.0 (each inside.1)) refl

pub extents-are : (outer : Props) (f : Forest Step Key) → AreInBlock outer f → ExtentsAre outer f
unfolding ExtentsAre AreInBlock
extents-are outer leaf inside = tt
extents-are outer (node step keys below others) inside =
    (extent-here (props_inside keys outer) step keys below (is_of register step) inside.1 (extents-are (props_inside keys outer) below), extents-are outer others inside.2)

-- each child of a block is found with what it takes
pub are-known : (outer : Props) (f : Forest Step Key) → AreSiblings f → AreInBlock outer f → AreKnown (extents (modules_of outer f)) (children_of outer f)
are-known outer f siblings inside = known-from outer f siblings (extents-are outer f inside)
