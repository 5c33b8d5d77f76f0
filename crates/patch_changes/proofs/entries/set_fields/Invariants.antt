-- The fields that were passed have their keys.
use Rattle.patch_changes.specs.Listed.{keyed}
use Rattle.patch_names.proofs.PassedItems.{PassedBy}
use Rattle.svd_model.specs.Trees.{field_under}
use Rattle.patch_changes.proofs.entries.set_fields.Given as goal

abbrev pub invariant-loop-index : goal.invariant-loop-index
invariant-loop-index l = PassedBy field_under (λ entry. keyed l.pattern l.keys (field_under entry)) l.fn.fields.entries l.fields.entries l.index
