-- The children are those of this function.
use Rattle.derive_order.proofs.limits.first_deep.Given as goal

abbrev pub ghost-deep : goal.ghost-deep
ghost-deep g a = g.known.children
