use Rattle.std.proofs.Common.{ap, ◌∙◌, subst, map, List}
use Rattle.frag_sem.specs.CallPlaces.{slot_named}
use Rattle.frag_tree.specs.declared.block.Block.{Block}
use Rattle.frag_tree.specs.Trees.{block_tree, crate_tree}
use Rattle.frag_index.specs.Sites.{TopsFit}
use Rattle.frag_index.proofs.index.Index.new.Goals as goal

pub returns-clause-index : goal.returns-clause-index
unfolding crate_tree
returns-clause-index c = record {
  slots_are = λ name. c.in_ok-slots.ensures name ∙ ap (λ slots. slot_named name slots) c.as_slice.ensures;
  blocks = subst (λ (blocks : List Block). TopsFit c.in_ok-tops.tops (map block_tree blocks)) c.as_slice-2.ensures.value c.in_ok-tops.ensures;
}
