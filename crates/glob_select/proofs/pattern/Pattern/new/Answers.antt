use Rattle.std.proofs.Common.{◌≡◌, true, List, ℕ, sym, ap, subst, ◌∙◌}
use Rattle.std.proofs.lemmas.Result.{err_from_is_err_and}
use Rattle.glob_select.specs.Spelling.{SpellsPattern}
use Rattle.glob_select.specs.Reading.{after_led, is_last, alternatives_of}
use Rattle.glob_select.proofs.Alternatives.{pattern_takes, pattern_again, refused}
use Rattle.glob_select.proofs.pattern.Pattern.new.Goals as goal

pub returns-then-not-is_last-clause-refused : goal.returns-then-not-is_last-clause-refused
returns-then-not-is_last-clause-refused c =
    λ all. refused c.args.text.now (ap is_last (sym c.after_led-last.ensures) ∙ sym c.is_last.ensures ∙ c.if-not-is_last.true) all.0 all.1

pub returns-in_err-from_slice-clause-refused : goal.returns-in_err-from_slice-clause-refused
returns-in_err-from_slice-clause-refused c =
    let last : is_last (after_led c.args.text.now) ≡ true = ap is_last (sym c.after_led-last.ensures) ∙ sym c.is_last.ensures ∙ c.if-not-is_last.false in
    let p = err_from_is_err_and c.from_residual.result c.from_residual.ensures.1 in
    rw (p.1, p.2) (alternatives_of c.args.text.now, pattern_takes c.args.text.now last)

pub returns-clause-spelled : goal.returns-clause-spelled
returns-clause-spelled c =
    let last : is_last (after_led c.args.text.now) ≡ true = ap is_last (sym c.after_led-last.ensures) ∙ sym c.is_last.ensures ∙ c.if-not-is_last.false in
    subst (λ (text : List ℕ). SpellsPattern (alternatives_of text) c.args.text.now) (sym c.in_ok-from_slice.ensures.ok) (pattern_takes c.args.text.now last)

pub returns-clause-only : goal.returns-clause-only
returns-clause-only c = λ other spelled. (pattern_again other c.args.text.now spelled).1 ∙ ap alternatives_of (sym c.in_ok-from_slice.ensures.ok)
