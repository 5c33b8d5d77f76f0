use Rattle.need_order.proofs.Numbers.{flags_new}
use Rattle.need_order.proofs.gathered.Gathered.new.Goals as goal

pub invariant_of-result : goal.invariant_of-result
invariant_of-result c =
    rw (c.in_ok-vec.ensures.items_if_clones_equal (λ y h. h), c.new.ensures.items) (flags_new c.args.limit)
