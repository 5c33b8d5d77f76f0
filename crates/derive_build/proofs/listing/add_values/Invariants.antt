-- What is listed, and what is left, is all.
use Rattle.std.proofs.Common.{◌≡◌, map, drop}
use Rattle.derive_build.specs.Nodes.{with_rest}
use Rattle.svd_model.specs.Steps.{value}
use Rattle.svd_model.specs.Trees.{value_tree, numbered}
use Rattle.derive_build.proofs.listing.add_values.Given as goal

abbrev pub invariant-loop-variant : goal.invariant-loop-variant
invariant-loop-variant l = with_rest l.owns.items (numbered value l.variant-index (map value_tree (drop l.variant-index l.values))) ≡ with_rest l.fn.owns.items (numbered value 0 (map value_tree l.values))
