use Rattle.std.proofs.Common.{arith}
use Rattle.need_order.proofs.Depths.{shallow}
use Rattle.need_order.proofs.Following.{order_follows, order_length}
use Rattle.need_order.proofs.Levels.{made_along}
use Rattle.need_order.proofs.laws.levels_law.Goals as goal

pub returns-clause-order : goal.returns-clause-order
returns-clause-order g c = λ at needs n order make none uses h levels e enough inside.
    made_along at needs make none uses order (order_follows needs n order h) levels (omega (arith, order_length needs n order h, enough)) e ((h.whole e).1 inside)

pub returns-clause-depth : goal.returns-clause-depth
returns-clause-depth g c = shallow
