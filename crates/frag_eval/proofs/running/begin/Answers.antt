use Rattle.std.proofs.Common.{List, ◌++◌, subst}
use Rattle.frag_tree.specs.declared.event.Event.{Event}
use Rattle.frag_eval.specs.Runs.{Begins, Readied, StageIs}
use Rattle.frag_eval.specs.Stages.{stage_seen}
use Rattle.frag_eval.proofs.running.begin.Goals as goal

pub returns : goal.returns
returns c =
    let course = c.ready.inside.course in
    let came = c.go_on.ensures in
    subst (λ (ready : Readied). Begins ready (stage_seen c.go_on.result)) c.ready.view_is
    (record {
      said = came.0;
      are_said = came.1;
      stage_is = subst (λ (made : List Event). StageIs (stage_seen c.go_on.result) course.of.value course.script (made ++ came.0)) c.ready.invariant.none_made came.2;
    })
