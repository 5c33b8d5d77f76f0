use Rattle.std.proofs.Common.{ℕ, Vec, Global, option_map, sym, ap, subst, ◌∙◌}
use Rattle.yaml_block.proofs.Answers.{if_ok}
use Rattle.patch_form.specs.Naming.{IsArrayNameOf, IsNameOf, IsPatternOf}
use Rattle.patch_form.proofs.ArrayNames.{no_array, array_named}
use Rattle.patch_form.proofs.naming.name_of_pattern.Goals as goal

pub returns-in_default-2 : goal.returns-in_default-2
returns-in_default-2 c =
    let text = c.args.text.now in
    let read = subst (IsPatternOf text) c.in-Some.is c.in_ok-pattern.ensures in
    no_array text c.in-Some.pattern read.0 (ap (option_map (λ (v : Vec ℕ Global). v.items)) (sym c.in_default-2.is) ∙ c.in_ok-plain.ensures)

pub returns : goal.returns
returns c =
    let text = c.args.text.now in
    let read = subst (IsPatternOf text) c.in-Some.is c.in_ok-pattern.ensures in
    if_ok c.name_or_none.result (IsNameOf c.as_slice.result.now) (IsArrayNameOf text)
    (λ name named. array_named text c.in-Some.pattern c.in-Some-2.plain.items c.as_slice.result.now name read.0
    (ap (option_map (λ (v : Vec ℕ Global). v.items)) (sym c.in-Some-2.is) ∙ c.in_ok-plain.ensures)
    (c.as_slice.ensures.value ∙ c.in_ok-extend_from_slice.ensures.items) read.1 named)
    c.name_or_none.ensures
