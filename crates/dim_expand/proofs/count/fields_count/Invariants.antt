-- What is counted so far and what is left are the whole, and where those that are left are typed all are.
use Rattle.std.proofs.Common.{map}
use Rattle.dim_expand.proofs.Counting.{CountedUpTo}
use Rattle.svd_model.specs.Trees.{field_under}
use Rattle.dim_expand.proofs.count.fields_count.Given as goal

abbrev pub invariant-loop-key : goal.invariant-loop-key
invariant-loop-key l = CountedUpTo l.counted (map field_under l.fields.entries) l.total (map field_under l.key-iterator)
