use Rattle.std.proofs.Common.{◌≡◌}
use Rattle.svd_keys.specs.Earliest.{least, earlier}
use Rattle.svd_keys.specs.Children.{double_of}
use Rattle.svd_keys.specs.Runs.{doubles_among}
use Rattle.svd_text.specs.Views.{element_of}
use Rattle.svd_keys.proofs.Loops.{left}
use Rattle.svd_keys.proofs.child.double_of.Given as goal

abbrev pub invariant-loop-child : goal.invariant-loop-child
invariant-loop-child l = earlier l.fault (least (doubles_among l.name l.seen (left l.child-items l.child-index))) ≡ least (double_of l.name (element_of l.element))
