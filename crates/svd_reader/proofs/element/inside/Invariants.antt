use Rattle.std.proofs.Common.{◌≡◌, find}
use Rattle.svd_schema.specs.Names.{container_name}
use Rattle.svd_keys.specs.Children.{child, has_name}
use Rattle.svd_keys.proofs.Loops.{left}
use Rattle.svd_text.specs.Views.{element_of}
use Rattle.svd_reader.proofs.element.inside.Given as goal

abbrev pub invariant-loop-child : goal.invariant-loop-child
invariant-loop-child l = find (has_name (container_name l.container)) (left l.child-items l.child-index) ≡ child (container_name l.container) (element_of l.element)
