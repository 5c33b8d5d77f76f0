use Rattle.need_order.proofs.Following.{ordered_no_circle}
use Rattle.need_order.proofs.laws.order_law.Goals as goal

pub returns : goal.returns
returns c = ordered_no_circle
