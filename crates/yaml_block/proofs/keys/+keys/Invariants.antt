use Rattle.std.proofs.Common.{◌≡◌, []}
use Rattle.yaml_block.specs.Nesting.{first}
use Rattle.yaml_block.specs.Seen.{keys_in}
use Rattle.yaml_block.proofs.Doubles.{among_from, behind_from}
use Rattle.yaml_block.proofs.keys.+keys.Given as goal

abbrev pub invariant-double_among-loop-item : goal.invariant-double_among-loop-item
invariant-double_among-loop-item l = first (among_from l.items l.item-index) ≡ first (among_from l.items 0)

abbrev pub invariant-double_behind-loop-entry : goal.invariant-double_behind-loop-entry
invariant-double_behind-loop-entry l = first (behind_from (keys_in l.seen) l.entries l.entry-index) ≡ first (behind_from [] l.entries 0)
