-- The children are those of this function.
use Rattle.derive_order.proofs.limits.begun.Given as goal

abbrev pub ghost-all_gone : goal.ghost-all_gone
ghost-all_gone g a = g.known.children
