use Rattle.std.proofs.lemmas.Result.{err_from_is_err_and}
use Rattle.pac_io.proofs.WrittenUpTo.{none_written}
use Rattle.pac_io.proofs.page.Page.put.Goals as goal

pub returns-in_err-push-clause-growth : goal.returns-in_err-push-clause-growth
returns-in_err-push-clause-growth g c =
    let p = err_from_is_err_and c.from_residual.result c.from_residual.ensures.1 in rw p.1 (none_written _ _)
