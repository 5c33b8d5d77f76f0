use Rattle.std.proofs.Common.{◌≡◌, ◌-◌, List, ℕ, ◌∷◌, length, take, drop, ap, sym, ◌∙◌, arith, length-drop}
use Rattle.std.proofs.lemmas.List.{nil_from_length, take_all}
use Rattle.patch_form.specs.Forms.{dotted_parts}
use Rattle.patch_form.proofs.Dots.{cut-last, cut-ended, cut-length}
use Rattle.patch_form.proofs.form.split_dot.Goals as goal

pub overflow_sub-text : goal.overflow_sub-text
overflow_sub-text c = cut-length c.args.text.now c.from_dot-rest.result.now c.from_dot-rest.ensures

pub returns-in-empty-clause-parts : goal.returns-in-empty-clause-parts
returns-in-empty-clause-parts c =
    cut-last c.args.text.now c.split_at.result.0.now c.from_dot-rest.result.now c.from_dot-rest.ensures c.split_at.ensures.front (nil_from_length c.from_dot-rest.result.now (omega (arith, c.in-empty.len_below)))

pub returns-in-len1-up-clause-parts : goal.returns-in-len1-up-clause-parts
returns-in-len1-up-clause-parts c =
    let rest = c.from_dot-rest.result.now in
    let all : take (length rest - 1) (drop 1 rest) ≡ drop 1 rest = take_all (length rest - 1) (drop 1 rest) (omega (arith, length-drop 1 rest)) in
    cut-ended c.args.text.now c.split_at.result.0.now rest c.from_dot-rest.ensures c.split_at.ensures.front (omega (arith, c.in-len1-up.len_at_least))
    ∙ ap (λ (t : List ℕ). c.split_at.result.0.now ∷ dotted_parts t) (sym all)

pub returns-in-len1-up-clause-shorter : goal.returns-in-len1-up-clause-shorter
returns-in-len1-up-clause-shorter c =
    let rest = c.from_dot-rest.result.now in
    let all : take (length rest - 1) (drop 1 rest) ≡ drop 1 rest = take_all (length rest - 1) (drop 1 rest) (omega (arith, length-drop 1 rest)) in
    omega (arith, ap length all, length-drop 1 rest, cut-length c.args.text.now rest c.from_dot-rest.ensures, c.in-len1-up.len_at_least)
