use Rattle.std.proofs.Common.{◌≡◌, drop}
use Rattle.need_order.specs.Ranks.{rises_to}
use Rattle.need_order.proofs.element.any_rises_to.Given as goal

abbrev pub invariant-loop-need : goal.invariant-loop-need
invariant-loop-need l = rises_to l.ranks l.rank (drop l.need-index l.needs) ≡ rises_to l.ranks l.rank l.needs
