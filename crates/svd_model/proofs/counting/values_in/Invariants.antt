use Rattle.std.proofs.Common.{◌≡◌, ◌+◌, ◌-◌, ◌^◌, ◌≤◌, map, drop}
use Rattle.svd_model.specs.Counting.{told_count, elements_in}
use Rattle.svd_model.specs.Steps.{set}
use Rattle.svd_model.specs.Trees.{set_tree, numbered}
use Rattle.svd_model.proofs.counting.values_in.Given as goal

abbrev pub invariant-loop-values : goal.invariant-loop-values
invariant-loop-values l = record {
  sum : told_count (l.total + elements_in (numbered set l.values-index (map set_tree (drop l.values-index l.sets)))) ≡ told_count (elements_in (numbered set 0 (map set_tree l.sets)));
  fits : l.total ≤ 2 ^ 64 - 1;
}
