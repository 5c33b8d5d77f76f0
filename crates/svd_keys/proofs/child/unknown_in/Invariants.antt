use Rattle.std.proofs.Common.{◌≡◌, flat_map}
use Rattle.svd_keys.specs.Earliest.{least, earlier}
use Rattle.svd_keys.specs.Children.{unknown_in, unknown_at}
use Rattle.svd_text.specs.Views.{element_of}
use Rattle.svd_keys.proofs.Loops.{left}
use Rattle.svd_keys.proofs.child.unknown_in.Given as goal

abbrev pub invariant-loop-child : goal.invariant-loop-child
invariant-loop-child l = earlier l.fault (least (flat_map (unknown_at l.container) (left l.child-items l.child-index))) ≡ least (unknown_in l.container (element_of l.element))
