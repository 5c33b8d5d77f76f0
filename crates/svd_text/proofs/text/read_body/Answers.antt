use Rattle.std.proofs.lemmas.Result.{err_from_is_err_and}
use Rattle.svd_text.proofs.Passings.{fails_says}
use Rattle.svd_text.proofs.text.read_body.Goals as goal

pub returns-in_err-check-in-Err-TooDeep : goal.returns-in_err-check-in-Err-TooDeep
returns-in_err-check-in-Err-TooDeep c =
    let fault = err_from_is_err_and c.from_residual.result c.from_residual.ensures.1 in
    rw (fault.1, fault.2) (fails_says c.args.total c.args.body.now c.in_err-check-in-Err-TooDeep.field-0.0 c.in_err-check-in-Err-TooDeep.ensures)
