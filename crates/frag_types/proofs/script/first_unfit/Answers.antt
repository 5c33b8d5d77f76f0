use Rattle.std.proofs.Common.{sym, ap, ◌∙◌}
use Rattle.frag_sem.specs.PlaceTyping.{module_scope}
use Rattle.frag_tree.specs.Trees.{crate_tree}
use Rattle.frag_types.specs.Refusals.{script_kind}
use Rattle.frag_types.specs.Telling.{bound_behind, names_in, told}
use Rattle.frag_types.proofs.Statements.{line-passed, line-stops, lines-end, script-begins}
use Rattle.frag_types.proofs.script.first_unfit.Goals as goal

pub loop-first-init : goal.loop-first-init
loop-first-init c = script-begins (crate_tree c.args.index.now.krate.now) c.args.script.now c.as_slice-rest.result.now c.new-bound.result c.as_slice-rest.ensures c.new-bound.ensures

pub loop-first-preserved : goal.loop-first-preserved
loop-first-preserved c =
    line-passed (module_scope (crate_tree c.args.index.now.krate.now)) c.loop-first.rest.now c.in-Some.others.now c.in-Some.first.now (names_in c.loop-first.bound) (names_in c.bind.new.bound) _ c.in-Some.ensures.cases.0
    (sym c.statement_types.ensures ∙ ap (told (bound_behind (names_in c.loop-first.bound) c.in-Some.first.now.statement)) c.in-Ok.is) c.in_ok-bind-in-Ok.ensures
    ∙ c.loop-first.invariant

pub returns-in-Err : goal.returns-in-Err
returns-in-Err c =
    line-stops (module_scope (crate_tree c.args.index.now.krate.now)) c.loop-first.rest.now c.in-Some.others.now c.in-Some.first.now (names_in c.loop-first.bound) (script_kind c.in-Err.kind) c.in-Some.ensures.cases.0
    (sym c.statement_types.ensures ∙ ap (told (bound_behind (names_in c.loop-first.bound) c.in-Some.first.now.statement)) c.in-Err.is)
    ∙ c.loop-first.invariant

pub returns : goal.returns
returns c = lines-end (module_scope (crate_tree c.args.index.now.krate.now)) c.loop-first.rest.now (names_in c.loop-first.bound) c.in_default.ensures.cases ∙ c.loop-first.invariant
