use Rattle.std.proofs.Common.{sym, ap, ◌∙◌, map}
use Rattle.frag_tree.specs.Trees.{in_line, module_tree}
use Rattle.frag_tree.proofs.Trees.{block_tree-is}
use Rattle.frag_rules.proofs.block.modules_of.Goals as goal

pub returns : goal.returns
returns c = ap (λ modules. in_line (map module_tree modules)) c.as_slice.ensures.value ∙ sym (ap (λ tree. tree.inside) (block_tree-is c.args.block.now))
