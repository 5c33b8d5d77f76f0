use Rattle.std.proofs.Common.{◌≡◌, ◌+◌, ◌-◌, ◌^◌, ◌≤◌, map}
use Rattle.svd_model.specs.Counting.{told_count, elements_in}
use Rattle.svd_model.specs.Trees.{peripheral_under}
use Rattle.svd_rows.specs.Forest.{siblings}
use Rattle.svd_model.proofs.counting.peripherals_in.Given as goal

abbrev pub invariant-loop-peripheral : goal.invariant-loop-peripheral
invariant-loop-peripheral l = record {
  sum : told_count (l.total + elements_in (siblings (map peripheral_under l.peripheral-iterator))) ≡ told_count (elements_in (siblings (map peripheral_under l.peripherals.entries)));
  fits : l.total ≤ 2 ^ 64 - 1;
}
