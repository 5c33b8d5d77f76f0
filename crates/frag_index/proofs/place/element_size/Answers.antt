use Rattle.std.proofs.Common.{ap, ◌∙◌}
use Rattle.frag_sem.specs.Layout.{Extent}
use Rattle.frag_tree.specs.Trees.{block_tree}
use Rattle.frag_rules.proofs.Measuring.{room-is}
use Rattle.frag_index.proofs.place.element_size.Goals as goal

pub returns : goal.returns
returns c sites fits =
    ap (λ (extent : Extent). extent.size) (c.element_room.ensures ∙ room-is c.args.site.now.within.measures (block_tree c.args.site.now.block.now).inside fits.laid.knows c.args.access.now.element)
