-- The children are those of this function.
use Rattle.derive_order.proofs.gone.all_gone.Given as goal

abbrev pub ghost-walked : goal.ghost-walked
ghost-walked g a = g.children
