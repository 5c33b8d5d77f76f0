use Rattle.std.proofs.Common.{sym, ap, ◌∙◌}
use Rattle.frag_tree.proofs.Trees.{block_tree-is}
use Rattle.frag_rules.proofs.named.BlockHasName.own_name.Goals as goal

pub returns : goal.returns
returns c = c.bytes.ensures.same ∙ sym (ap (λ tree. tree.head.name) (block_tree-is c.args.self.now))
