use Rattle.std.proofs.Common.{sym, subst}
use Rattle.register_form.specs.Numbers.{IsValid}
use Rattle.register_form.proofs.Valid.{form_valid}
use Rattle.register_form.proofs.form.register_form.Goals as goal

pub returns-clause-valid : goal.returns-clause-valid
returns-clause-valid c =
    let register = c.args.register.now in
    subst (IsValid register) (sym c.in_ok-made.ensures) (form_valid register c.requires.bits c.register_numbers.ensures)
