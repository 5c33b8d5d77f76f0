-- The rows are those of this function.
use Rattle.derive_order.proofs.arranged.arrange.Given as goal

abbrev pub ghost-cycle_of : goal.ghost-cycle_of
ghost-cycle_of g a = g.all
