use Rattle.std.proofs.lemmas.Result.{err_from_is_err_and}
use Rattle.pac_io.proofs.WrittenUpTo.{none_written}
use Rattle.frag_tree.proofs.crate_text.print_head.Goals as goal

pub returns-in_err-push_slots-clause-growth : goal.returns-in_err-push_slots-clause-growth
returns-in_err-push_slots-clause-growth g c =
    let p = err_from_is_err_and c.from_residual-in_err-push_slots.result c.from_residual-in_err-push_slots.ensures.1 in rw p.1 (none_written _ _)
