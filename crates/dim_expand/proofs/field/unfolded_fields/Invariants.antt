-- What is made and what is left come to the whole.
use Rattle.std.proofs.Common.{map}
use Rattle.dim_expand.specs.Narrow.{AreFew}
use Rattle.dim_expand.proofs.Growing.{Growing}
use Rattle.svd_model.specs.Trees.{field_under}
use Rattle.svd_rows.specs.Forest.{siblings}
use Rattle.dim_expand.proofs.field.unfolded_fields.Given as goal

abbrev pub invariant-loop-key : goal.invariant-loop-key
invariant-loop-key l = AreFew (siblings (map field_under l.fields.entries)) → Growing (map field_under l.fields.entries) l.tally.counts.entries (map field_under l.made.entries) (map field_under l.key-iterator)
