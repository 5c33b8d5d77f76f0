use Rattle.std.proofs.Common.{◌≡◌, [], ap, sym, ◌∙◌, arith}
use Rattle.std.specs.Prelude.{reverse}
use Rattle.std.proofs.lemmas.List.{nil_from_length}
use Rattle.text_scan.specs.Classes.{has, is_blank}
use Rattle.text_scan.specs.Fronts.{rest_of}
use Rattle.patch_form.specs.Forms.{trimmed}
use Rattle.patch_form.proofs.Trimming.{blank_behind, kept_behind}
use Rattle.patch_form.proofs.form.trimmed.Goals as goal

pub rest-init : goal.rest-init
unfolding trimmed has
rest-init c = ap (λ text. reverse (rest_of is_blank (reverse text))) c.after_blanks-rest.ensures

pub rest-preserved : goal.rest-preserved
rest-preserved c = sym (blank_behind c.rest.rest.now c.in-Some.before.now c.in-Some.last.now c.in-Some.ensures.cases.0 (sym c.is_blank.ensures ∙ c.if-not-is_blank.false)) ∙ c.rest.invariant

pub returns-then-not-is_blank : goal.returns-then-not-is_blank
returns-then-not-is_blank c = sym (kept_behind c.rest.rest.now c.in-Some.before.now c.in-Some.last.now c.in-Some.ensures.cases.0 (sym c.is_blank.ensures ∙ c.if-not-is_blank.true)) ∙ c.rest.invariant

pub returns-in_default : goal.returns-in_default
unfolding rest_of
returns-in_default c =
    let none : c.rest.rest.now ≡ [] = nil_from_length c.rest.rest.now (omega (arith, c.in_default.ensures.cases)) in
    none ∙ sym (ap (λ text. reverse (rest_of is_blank (reverse text))) none) ∙ c.rest.invariant
