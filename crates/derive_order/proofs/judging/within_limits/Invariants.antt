-- The rows and children are those of this function.
use Rattle.derive_order.proofs.judging.within_limits.Given as goal

abbrev pub ghost-begun : goal.ghost-begun
ghost-begun g a = g.known

abbrev pub ghost-first_deep : goal.ghost-first_deep
ghost-first_deep g a = g.known

abbrev pub ghost-amount : goal.ghost-amount
ghost-amount g a = g.known
