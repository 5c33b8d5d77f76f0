use Rattle.std.proofs.Common.{IfOk, Err, ◌≡◌, ◌∙◌, sym, ap, subst}
use Rattle.dim_expand.proofs.Words.{name_or-name, name_or-else}
use Rattle.dim_expand.proofs.mark.name_or.Goals as goal

pub returns-in-Ok : goal.returns-in-Ok
returns-in-Ok c = c.in-Ok.ensures.ok.0 ∙ sym (name_or-name c.args.name.now c.args.bytes.now c.in-Ok.ensures.ok.1)

pub returns-in-Err-NotAName : goal.returns-in-Err-NotAName
returns-in-Err-NotAName c =
    subst (λ name. IfOk c.copy.result (λ made. made ≡ name))
    (sym (name_or-else c.args.name.now c.args.bytes.now (c.in-Err-NotAName.ensures.refused.0 (ap Err c.in-Err-NotAName.field-0-is))))
    c.copy.ensures
