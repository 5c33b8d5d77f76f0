use Rattle.std.proofs.Common.{◌<◌, subst, sym, ap, ◌∙◌}
use Rattle.frag_eval.specs.declared.stage.Stage.{Stage}
use Rattle.frag_eval.specs.Runs.{UnderWay}
use Rattle.frag_eval.specs.Stages.{stage_seen}
use Rattle.frag_eval.proofs.Stepping.{RunUpTo, begun, fewer, room_left, stepped, steps_left, stopped}
use Rattle.frag_eval.proofs.running.run.Goals as goal

pub loop-stage-init : goal.loop-stage-init
loop-stage-init g c = begun (g.B.Bus.told c.args.bus.now) c.args.ready (stage_seen c.begin-stage.result) c.begin-stage.ensures

pub step-requires : goal.step-requires
step-requires g c =
    room_left (g.B.Bus.told c.args.bus.now) (g.B.Bus.told c.loop-stage.bus) c.args.ready c.in-Running.running c.requires
    (subst (λ (stage : Stage). RunUpTo (g.B.Bus.told c.args.bus.now) (g.B.Bus.told c.loop-stage.bus) c.args.ready (stage_seen stage)) c.in-Running.is c.loop-stage.invariant)

pub loop-stage-smaller : goal.loop-stage-smaller
loop-stage-smaller g c =
    let so_far = subst (λ (stage : Stage). RunUpTo (g.B.Bus.told c.args.bus.now) (g.B.Bus.told c.loop-stage.bus) c.args.ready (stage_seen stage)) c.in-Running.is c.loop-stage.invariant in
    subst (λ (stage : Stage). steps_left (g.B.Bus.told c.args.bus.now).spare (stage_seen c.in-Ok.next) < steps_left (g.B.Bus.told c.args.bus.now).spare (stage_seen stage)) (sym c.in-Running.is)
    (fewer (g.B.Bus.told c.args.bus.now) (g.B.Bus.told c.loop-stage.bus) (g.B.Bus.told c.step.new.bus) c.args.ready c.in-Running.running (stage_seen c.in-Ok.next) c.requires so_far c.in-Ok.ensures)

pub loop-stage-preserved : goal.loop-stage-preserved
loop-stage-preserved g c =
    let so_far = subst (λ (stage : Stage). RunUpTo (g.B.Bus.told c.args.bus.now) (g.B.Bus.told c.loop-stage.bus) c.args.ready (stage_seen stage)) c.in-Running.is c.loop-stage.invariant in
    stepped (g.B.Bus.told c.args.bus.now) (g.B.Bus.told c.loop-stage.bus) (g.B.Bus.told c.step.new.bus) c.args.ready c.in-Running.running (stage_seen c.in-Ok.next) so_far c.in-Ok.ensures

pub returns-in-Err : goal.returns-in-Err
returns-in-Err g c =
    let so_far = subst (λ (stage : Stage). RunUpTo (g.B.Bus.told c.args.bus.now) (g.B.Bus.told c.loop-stage.bus) c.args.ready (stage_seen stage)) c.in-Running.is c.loop-stage.invariant in
    stopped (g.B.Bus.told c.args.bus.now) (g.B.Bus.told c.loop-stage.bus) (g.B.Bus.told c.step.new.bus) c.args.ready c.in-Running.running c.len.result c.into_made-events.result.list so_far c.in-Err.ensures.failed
    (c.into_made-events.ensures.same ∙ ap (λ (seen : UnderWay). seen.events) c.in-Err.ensures.same) c.len.ensures
