use Rattle.need_order.proofs.Circles.{circle_is_based}
use Rattle.need_order.proofs.laws.circle_law.Goals as goal

pub returns : goal.returns
returns c = λ elements within later. circle_is_based elements later within
