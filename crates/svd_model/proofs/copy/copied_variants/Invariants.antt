-- The values before the index are copied.
use Rattle.std.proofs.Common.{◌≡◌, take}
use Rattle.svd_model.proofs.copy.copied_variants.Given as goal

abbrev pub invariant-loop-variant : goal.invariant-loop-variant
invariant-loop-variant l = l.made.items ≡ take l.variant-index l.variants
