use Rattle.std.proofs.Common.{◌≡◌, ◌+◌, ◌-◌, ◌^◌, ◌≤◌, filter, map}
use Rattle.glob_select.specs.Matching.{matches}
use Rattle.svd_model.specs.Counting.{elements_in, told_count}
use Rattle.svd_rows.specs.Forest.{siblings}
use Rattle.patch_edits.proofs.counting.matched_entries.Given as goal

abbrev pub invariant-loop-key : goal.invariant-loop-key
invariant-loop-key g l = record {
  sum : told_count (l.total + elements_in (siblings (map g.V.Counted.under (filter (λ entry. matches l.pattern entry.0.name) l.key-iterator)))) ≡ told_count (elements_in (siblings (map g.V.Counted.under (filter (λ entry. matches l.pattern entry.0.name) l.entries.entries))));
  fits : l.total ≤ 2 ^ 64 - 1;
}
