use Rattle.std.proofs.Common.{◌≡◌, map, take}
use Rattle.yaml_block.specs.Nodes.{entries_under}
use Rattle.yaml_block.specs.Trees.{scalar}
use Rattle.yaml_block.proofs.build.entries_in.Given as goal

abbrev pub invariant-loop-pair : goal.invariant-loop-pair
invariant-loop-pair l = entries_under l.entries ≡ map (λ pair. (l.line, pair.0, scalar pair.1)) (take l.pair-index l.pairs)
