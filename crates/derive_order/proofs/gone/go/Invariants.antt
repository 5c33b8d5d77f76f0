-- The children are those of this function.
use Rattle.derive_order.proofs.gone.go.Given as goal

abbrev pub ghost-enter : goal.ghost-enter
ghost-enter g a = g.children

abbrev pub ghost-leave : goal.ghost-leave
ghost-leave g a = g.children
