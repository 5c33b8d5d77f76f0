use Rattle.std.proofs.Common.{refl, ap, sym, subst, Option, List, option_map, ◌∙◌}
use Rattle.frag_tree.specs.declared.statement.Call.{Call}
use Rattle.frag_tree.specs.Trees.{block_tree}
use Rattle.frag_sem.specs.CallPlaces.{RegisterAt, leads}
use Rattle.frag_rules.proofs.ByName.{none-left}
use Rattle.frag_index.specs.Sites.{inner_tree}
use Rattle.frag_index.specs.Walks.{StartsBelow, found_seen}
use Rattle.frag_index.proofs.Walking.{ends_at_block, ends_at_register}
use Rattle.frag_index.proofs.place.leads.Goals as goal

pub loop-step-init : goal.loop-step-init
loop-step-init c = (c.requires.numbered, refl)

pub into-requires-clause-numbered : goal.into-requires-clause-numbered
into-requires-clause-numbered c = c.loop-step.invariant.0

pub loop-step-preserved : goal.loop-step-preserved
loop-step-preserved c =
    let goes = c.in_ok-at.ensures in
    (goes.numbered, goes.same c.in-Some.others.now ∙ (ap (λ (steps : List Call). leads steps (inner_tree c.loop-step.at.unit.now) c.loop-step.at.start) (sym c.in-Some.ensures.cases.0) ∙ c.loop-step.invariant.1))

pub returns-in_err-at : goal.returns-in_err-at
returns-in_err-at c =
    λ below.
    let front = ap (λ (steps : List Call). leads steps (inner_tree c.loop-step.at.unit.now) c.loop-step.at.start) (sym c.in-Some.ensures.cases.0) ∙ c.loop-step.invariant.1 in
    ap (option_map found_seen) c.from_residual.ensures
    ∙ sym (sym front ∙ c.in_err-at.ensures c.in-Some.others.now (subst (λ (o : Option RegisterAt). StartsBelow o) (sym front) below))

pub returns-in-Register : goal.returns-in-Register
returns-in-Register c =
    λ below.
    ends_at_register c.loop-step.rest.now (inner_tree c.loop-step.at.unit.now) c.in-Register.register c.loop-step.at.start (none-left c.loop-step.rest.now c.in_default.ensures.cases) (ap inner_tree c.in-Register.is) ∙ c.loop-step.invariant.1

pub returns-in-Block : goal.returns-in-Block
returns-in-Block c =
    λ below.
    ends_at_block c.loop-step.rest.now (inner_tree c.loop-step.at.unit.now) (block_tree c.in-Block.field-0.now) c.loop-step.at.start (none-left c.loop-step.rest.now c.in_default.ensures.cases) (ap inner_tree c.in-Block.is) ∙ c.loop-step.invariant.1
