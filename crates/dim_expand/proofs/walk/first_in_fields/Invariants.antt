-- The first of the fields that are left is the first of all.
use Rattle.std.proofs.Common.{◌≡◌, map}
use Rattle.dim_expand.specs.Walks.{first_in}
use Rattle.svd_model.specs.Trees.{field_under}
use Rattle.svd_rows.specs.Forest.{siblings}
use Rattle.dim_expand.proofs.walk.first_in_fields.Given as goal

abbrev pub invariant-loop-key : goal.invariant-loop-key
invariant-loop-key l = first_in (siblings (map field_under l.fields.entries)) ≡ first_in (siblings (map field_under l.key-iterator))
