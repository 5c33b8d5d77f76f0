use Rattle.std.proofs.Common.{◌≡◌, ◌&&◌, drop, is_none, map}
use Rattle.std.specs.List.{list_all}
use Rattle.frag_tree.specs.Trees.{block_tree}
use Rattle.frag_rules.specs.Rules.{block_test}
use Rattle.frag_rules.proofs.first.in_blocks.Given as goal

abbrev pub invariant-loop-at : goal.invariant-loop-at
invariant-loop-at l =
    (is_none l.found && list_all (block_test l.rule l.version) (map (λ listed. block_tree listed.unit.now) (drop l.at l.blocks))) ≡ list_all (block_test l.rule l.version) (map (λ listed. block_tree listed.unit.now) l.blocks)
