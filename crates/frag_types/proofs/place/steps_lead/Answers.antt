use Rattle.std.proofs.Common.{refl, sym, ap, ◌∙◌, subst, Result, IfOk}
use Rattle.frag_index.specs.Sites.{IsNumbered, inner_tree}
use Rattle.frag_script.specs.declared.fault.ScriptTyping.{ScriptTyping}
use Rattle.frag_types.specs.declared.place.Reached.{Reached}
use Rattle.frag_types.specs.Refusals.{script_kind}
use Rattle.frag_types.specs.Telling.{told}
use Rattle.frag_types.proofs.Steps.{steps-done, steps-fail, steps-more}
use Rattle.frag_types.proofs.place.steps_lead.Goals as goal

pub loop-step-init : goal.loop-step-init
loop-step-init c = (c.requires.numbered, refl)

pub step_leads-requires-clause-numbered : goal.step_leads-requires-clause-numbered
step_leads-requires-clause-numbered c = c.loop-step.invariant.0

pub loop-step-preserved : goal.loop-step-preserved
loop-step-preserved c = (
  subst (λ (result : Result Reached ScriptTyping). IfOk result (λ at. IsNumbered c.args.index.now.tops.sites.items at.unit.now)) c.in-Ok.is c.step_leads.ensures.numbered,
  steps-more (inner_tree c.loop-step.at.unit.now) (inner_tree c.in-Ok.inner.unit.now) c.loop-step.rest.now c.in-Some.others.now c.in-Some.step.now c.in-Some.ensures.cases.0 (sym c.step_leads.ensures.same ∙ ap (told (λ (at : Reached). inner_tree at.unit.now)) c.in-Ok.is)
      ∙ c.loop-step.invariant.1,
)

pub returns-in-Err : goal.returns-in-Err
returns-in-Err c =
    steps-fail (inner_tree c.loop-step.at.unit.now) (script_kind c.in-Err.kind) c.loop-step.rest.now c.in-Some.others.now c.in-Some.step.now c.in-Some.ensures.cases.0 (sym c.step_leads.ensures.same ∙ ap (told (λ (at : Reached). inner_tree at.unit.now)) c.in-Err.is)
    ∙ c.loop-step.invariant.1

pub returns : goal.returns
returns c = steps-done (inner_tree c.loop-step.at.unit.now) c.loop-step.rest.now c.in_default.ensures.cases ∙ c.loop-step.invariant.1
