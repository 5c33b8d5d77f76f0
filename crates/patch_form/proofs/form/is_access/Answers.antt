use Rattle.std.proofs.Common.{◌≡◌, Bool, sym, subst}
use Rattle.std.specs.Prelude.{MatchBool}
use Rattle.patch_form.specs.declared.form.Form.TheVariants.{Access}
use Rattle.patch_form.specs.Forms.{HasForm}
use Rattle.svd_values.specs.SchemaWords.{access_text}
use Rattle.patch_form.proofs.Deciding.{some_decides}
use Rattle.patch_form.proofs.form.is_access.Goals as goal

pub returns : goal.returns
returns c =
    subst (λ (formed : Bool). MatchBool formed (HasForm Access c.args.text.now) (¬ (HasForm Access c.args.text.now))) (sym c.is_some.ensures)
    (some_decides c.access_word.result (λ value. c.args.text.now ≡ access_text value) c.access_word.ensures)
