-- The rows are those of this function, and the children the derived ones.
use Rattle.std.proofs.Common.{map}
use Rattle.derive_order.specs.Kids.{kid_numbers}
use Rattle.derive_sources.specs.Entries.{plain}
use Rattle.derive_order.proofs.judging.judge.Given as goal

abbrev pub ghost-arrange : goal.ghost-arrange
ghost-arrange g a = g.all

abbrev pub ghost-within_limits : goal.ghost-within_limits
ghost-within_limits g a = record { all = g.all; children = kid_numbers g.all (map plain a.entries.now) a.sources.now }
