use Rattle.std.proofs.Common.{◌≡◌, Bool, sym, subst}
use Rattle.std.specs.Prelude.{MatchBool}
use Rattle.patch_form.specs.declared.form.Form.TheVariants.{WriteKind}
use Rattle.patch_form.specs.Forms.{HasForm}
use Rattle.svd_values.specs.SchemaWords.{write_kind_text}
use Rattle.patch_form.proofs.Deciding.{some_decides}
use Rattle.patch_form.proofs.form.is_write_kind.Goals as goal

pub returns : goal.returns
returns c =
    subst (λ (formed : Bool). MatchBool formed (HasForm WriteKind c.args.text.now) (¬ (HasForm WriteKind c.args.text.now))) (sym c.is_some.ensures)
    (some_decides c.write_kind.result (λ value. c.args.text.now ≡ write_kind_text value) c.write_kind.ensures)
