use Rattle.std.proofs.Common.{◌≡◌}
use Rattle.need_order.specs.Needs.{HasNoneBelow}
use Rattle.need_order.proofs.circle.first_on_circle.Given as goal

abbrev pub invariant-loop-element : goal.invariant-loop-element
invariant-loop-element l = record {
  index : l.number ≡ l.element-index;
  none : HasNoneBelow l.elements l.number;
}
