use Rattle.std.proofs.lemmas.Result.{err_from_is_err_and}
use Rattle.frag_script.specs.Reading.{script_at}
use Rattle.frag_script.proofs.Scripts.{told}
use Rattle.frag_script.proofs.script.script.Goals as goal

pub returns-in_err-met : goal.returns-in_err-met
returns-in_err-met c =
    let fault = err_from_is_err_and c.from_residual.result c.from_residual.ensures.1 in
    rw (fault.1, fault.2) (told c.in_err-met.field-0.0 (script_at c.args.bytes.now) c.in_err-met.ensures.refused)
