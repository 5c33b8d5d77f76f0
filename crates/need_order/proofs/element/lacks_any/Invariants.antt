use Rattle.std.proofs.Common.{◌≡◌, drop}
use Rattle.need_order.specs.Gathering.{lacks}
use Rattle.need_order.proofs.element.lacks_any.Given as goal

abbrev pub invariant-loop-need : goal.invariant-loop-need
invariant-loop-need l = lacks l.set.items (drop l.need-index l.needs) ≡ lacks l.set.items l.needs
