use Rattle.std.proofs.Common.{◌≡◌, ◌++◌, drop}
use Rattle.patch_model.proofs.deed.copied.Given as goal

abbrev pub invariant-loop-pattern : goal.invariant-loop-pattern
invariant-loop-pattern l = l.copy ++ drop l.pattern-index l.pattern-items ≡ l.pattern-items
