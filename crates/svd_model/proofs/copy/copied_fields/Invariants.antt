-- What is copied and what is left are the whole map, in its order.
use Rattle.svd_model.specs.Trees.{field_under}
use Rattle.svd_model.proofs.Copies.{CopiedUpTo}
use Rattle.svd_model.proofs.copy.copied_fields.Given as goal

abbrev pub invariant-loop-key : goal.invariant-loop-key
invariant-loop-key l = CopiedUpTo field_under l.fields.entries l.made.entries l.key-iterator
