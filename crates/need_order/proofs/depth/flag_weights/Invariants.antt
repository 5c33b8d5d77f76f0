-- The weights of the flags so far.
use Rattle.std.proofs.Common.{◌≡◌, take, map}
use Rattle.need_order.specs.Children.{flag_weight}
use Rattle.need_order.proofs.depth.flag_weights.Given as goal

abbrev pub invariant-loop-flag : goal.invariant-loop-flag
invariant-loop-flag l = l.weights.items ≡ map flag_weight (take l.flag-index l.flags)
