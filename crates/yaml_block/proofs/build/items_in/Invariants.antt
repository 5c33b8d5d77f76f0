use Rattle.std.proofs.Common.{◌≡◌, map, take}
use Rattle.yaml_block.specs.Nodes.{items_under}
use Rattle.yaml_block.specs.Trees.{scalar}
use Rattle.yaml_block.proofs.build.items_in.Given as goal

abbrev pub invariant-loop-text : goal.invariant-loop-text
invariant-loop-text l = items_under l.items ≡ map (λ text. (l.line, scalar text)) (take l.text-index l.texts)
