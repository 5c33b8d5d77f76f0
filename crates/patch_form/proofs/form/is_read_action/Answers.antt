use Rattle.std.proofs.Common.{◌≡◌, Bool, sym, subst}
use Rattle.std.specs.Prelude.{MatchBool}
use Rattle.patch_form.specs.declared.form.Form.TheVariants.{ReadAction}
use Rattle.patch_form.specs.Forms.{HasForm}
use Rattle.svd_values.specs.SchemaWords.{read_action_text}
use Rattle.patch_form.proofs.Deciding.{some_decides}
use Rattle.patch_form.proofs.form.is_read_action.Goals as goal

pub returns : goal.returns
returns c =
    subst (λ (formed : Bool). MatchBool formed (HasForm ReadAction c.args.text.now) (¬ (HasForm ReadAction c.args.text.now))) (sym c.is_some.ensures)
    (some_decides c.read_action.result (λ value. c.args.text.now ≡ read_action_text value) c.read_action.ensures)
