use Rattle.std.proofs.Common.{sym, ap, ◌∙◌}
use Rattle.frag_tree.specs.Trees.{block_tree}
use Rattle.frag_tree.proofs.Trees.{block_tree-is}
use Rattle.frag_rules.proofs.Insides.{if_ok}
use Rattle.frag_index.proofs.Adding.{top-added}
use Rattle.frag_index.proofs.built.Tops.add.Goals as goal

pub returns : goal.returns
returns c =
    if_ok c.keep.result _ _
    (λ done kept. top-added c.args.self.now (record { sites = c.add_block.new.sites; named = c.keep.new.self }) (block_tree c.args.block.now) c.in_ok-added.added c.bytes.result.now c.in_ok-added.ensures (c.bytes.ensures.same ∙ sym (ap (λ tree. tree.head.name) (block_tree-is c.args.block.now))) kept)
    c.keep.ensures
