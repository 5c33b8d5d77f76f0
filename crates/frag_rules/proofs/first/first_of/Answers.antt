use Rattle.std.proofs.Common.{◌∙◌}
use Rattle.frag_rules.specs.Parts.{laid_in}
use Rattle.frag_rules.proofs.ByName.{none-left}
use Rattle.frag_rules.proofs.Firsts.{broken-first, kept-first, none-first}
use Rattle.frag_rules.proofs.first.first_of.Goals as goal

pub loop-rule-preserved : goal.loop-rule-preserved
loop-rule-preserved c =
    kept-first (laid_in c.args.parts.now) c.loop-rule.rest.now c.in-Some.others.now c.in-Some.rule.now c.in_ok-item.field-0 c.in-Some.ensures.cases.0 c.in-None.is c.in_ok-item.ensures ∙ c.loop-rule.invariant

pub returns-in-Some-2 : goal.returns-in-Some-2
returns-in-Some-2 c =
    broken-first (laid_in c.args.parts.now) c.loop-rule.rest.now c.in-Some.others.now c.in-Some.rule.now c.in_ok-item.field-0 c.in-Some-2.item c.in-Some.ensures.cases.0 c.in-Some-2.is c.in_ok-item.ensures ∙ c.loop-rule.invariant

pub returns : goal.returns
returns c = none-first (laid_in c.args.parts.now) c.loop-rule.rest.now (none-left _ c.in_default.ensures.cases) ∙ c.loop-rule.invariant
