use Rattle.std.proofs.Common.{Bool, sym, subst}
use Rattle.std.specs.Prelude.{MatchBool}
use Rattle.patch_form.specs.declared.form.Form.TheVariants.{Range}
use Rattle.patch_form.specs.Forms.{HasForm}
use Rattle.svd_values.specs.Places.{IsPlace}
use Rattle.patch_form.proofs.Deciding.{some_decides}
use Rattle.patch_form.proofs.form.is_range.Goals as goal

pub returns : goal.returns
returns c =
    subst (λ (formed : Bool). MatchBool formed (HasForm Range c.args.text.now) (¬ (HasForm Range c.args.text.now))) (sym c.is_some.ensures)
    (some_decides c.bit_range.result (IsPlace c.args.text.now) c.bit_range.ensures)
