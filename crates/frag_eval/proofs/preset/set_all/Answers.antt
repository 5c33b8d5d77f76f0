use Rattle.frag_eval.proofs.Setting.{set_more}
use Rattle.frag_eval.proofs.preset.set_all.Goals as goal

pub loop-preset-preserved : goal.loop-preset-preserved
loop-preset-preserved g c =
    set_more (g.B.Bus.told c.args.bus.now) (g.B.Bus.told c.loop-preset.bus) (g.B.Bus.told c.preset.new.self) c.args.presets.now c.loop-preset.rest.now c.in-Some.others.now c.in-Some.field-0-0.now c.in-Some.ensures.cases.0 c.loop-preset.invariant c.in_ok-preset.ensures
