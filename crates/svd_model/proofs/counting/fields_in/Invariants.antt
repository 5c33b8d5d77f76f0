use Rattle.std.proofs.Common.{◌≡◌, ◌+◌, ◌-◌, ◌^◌, ◌≤◌, map}
use Rattle.svd_model.specs.Counting.{told_count, elements_in}
use Rattle.svd_model.specs.Trees.{field_under}
use Rattle.svd_rows.specs.Forest.{siblings}
use Rattle.svd_model.proofs.counting.fields_in.Given as goal

abbrev pub invariant-loop-field : goal.invariant-loop-field
invariant-loop-field l = record {
  sum : told_count (l.total + elements_in (siblings (map field_under l.field-iterator))) ≡ told_count (elements_in (siblings (map field_under l.fields.entries)));
  fits : l.total ≤ 2 ^ 64 - 1;
}
