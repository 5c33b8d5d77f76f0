use Rattle.std.proofs.Common.{◌≡◌, find}
use Rattle.svd_keys.specs.Children.{child, has_name}
use Rattle.svd_text.specs.Views.{element_of}
use Rattle.svd_keys.proofs.Loops.{left}
use Rattle.svd_keys.proofs.child.child.Given as goal

abbrev pub invariant-loop-child : goal.invariant-loop-child
invariant-loop-child l = find (has_name l.name) (left l.child-items l.child-index) ≡ child l.name (element_of l.element)
