use Rattle.std.proofs.Common.{Bool, sym, subst}
use Rattle.std.specs.Prelude.{MatchBool}
use Rattle.patch_form.specs.declared.form.Form.TheVariants.{Number}
use Rattle.patch_form.specs.Forms.{HasForm, IsNumberText}
use Rattle.patch_form.proofs.Deciding.{some_decides}
use Rattle.patch_form.proofs.form.is_number.Goals as goal

pub returns : goal.returns
returns c =
    subst (λ (formed : Bool). MatchBool formed (HasForm Number c.args.text.now) (¬ (HasForm Number c.args.text.now))) (sym c.is_some.ensures)
    (some_decides c.number.result (IsNumberText c.args.text.now) c.number.ensures)
