-- The children are those of this function.
use Rattle.derive_order.proofs.limits.amount.Given as goal

abbrev pub ghost-counted : goal.ghost-counted
ghost-counted g a = g.known.children
