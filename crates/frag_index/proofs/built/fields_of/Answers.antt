use Rattle.std.proofs.Common.{sym, ap, ◌∙◌}
use Rattle.frag_tree.proofs.Trees.{block_tree-is}
use Rattle.frag_index.proofs.built.fields_of.Goals as goal

pub returns : goal.returns
returns c = c.as_slice.ensures ∙ sym (ap (λ tree. tree.head.fields) (block_tree-is c.args.block.now))
