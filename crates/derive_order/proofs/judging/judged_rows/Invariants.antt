-- The rows are those of this function.
use Rattle.derive_order.proofs.judging.judged_rows.Given as goal

abbrev pub ghost-judge : goal.ghost-judge
ghost-judge g a = g.all

abbrev pub ghost-missing_of : goal.ghost-missing_of
ghost-missing_of g a = g.all
