use Rattle.std.proofs.Common.{◌≡◌, ◌+◌, ◌-◌, ◌^◌, ◌≤◌, drop, filter, map}
use Rattle.glob_select.specs.Matching.{matches}
use Rattle.svd_model.specs.Counting.{elements_in, told_count}
use Rattle.svd_model.specs.Trees.{item_under}
use Rattle.svd_rows.specs.Forest.{siblings}
use Rattle.patch_edits.proofs.counting.matched_items.Given as goal

abbrev pub invariant-loop-item : goal.invariant-loop-item
invariant-loop-item l = record {
  sum : told_count (l.total + elements_in (siblings (map item_under (filter (λ item. matches l.pattern item.key.name) (drop l.item-index l.items))))) ≡ told_count (elements_in (siblings (map item_under (filter (λ item. matches l.pattern item.key.name) l.items))));
  fits : l.total ≤ 2 ^ 64 - 1;
}
