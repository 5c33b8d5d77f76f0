use Rattle.std.proofs.Common.{sym, ap, ◌∙◌}
use Rattle.frag_sem.specs.TextSurface.{register_calls}
use Rattle.frag_types.specs.Refusals.{script_kind}
use Rattle.frag_types.specs.Telling.{names_of, told_held}
use Rattle.frag_types.proofs.Steps.{chain-done, chain-fails, chain-more}
use Rattle.frag_types.proofs.chain.chain_types.Goals as goal

pub loop-link-preserved : goal.loop-link-preserved
loop-link-preserved c =
    chain-more (names_of c.args.names.now) (register_calls c.args.unit.now) c.loop-link.rest.now c.in-Some.others.now c.in-Some.link.now c.in-Some.ensures.cases.0 (sym c.link_types.ensures ∙ ap told_held c.in-Ok.is)
    ∙ c.loop-link.invariant

pub returns-in-Err : goal.returns-in-Err
returns-in-Err c =
    chain-fails (names_of c.args.names.now) (register_calls c.args.unit.now) c.loop-link.rest.now c.in-Some.others.now c.in-Some.link.now (script_kind c.in-Err.kind) c.in-Some.ensures.cases.0 (sym c.link_types.ensures ∙ ap told_held c.in-Err.is)
    ∙ c.loop-link.invariant

pub returns : goal.returns
returns c = chain-done (names_of c.args.names.now) (register_calls c.args.unit.now) c.loop-link.rest.now c.in_default.ensures.cases ∙ c.loop-link.invariant
