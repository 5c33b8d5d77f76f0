-- The rows are those of this function.
use Rattle.derive_from.proofs.path.path_among.Given as goal

abbrev pub ghost-way_from : goal.ghost-way_from
ghost-way_from g a = g.all
