use Rattle.std.proofs.Common.{refl, sym, subst}
use Rattle.frag_tree.specs.declared.krate.Crate.{Crate}
use Rattle.frag_tree.specs.Trees.{crate_tree}
use Rattle.frag_sem.specs.CrateTyping.{CrateFits}
use Rattle.frag_eval.specs.Lowered.{AreAll}
use Rattle.frag_eval.proofs.Planning.{plan_is, prepared, presets_held, ready_course, refused}
use Rattle.frag_eval.proofs.plan.prepare.Goals as goal

pub make_ready-requires : goal.make_ready-requires
make_ready-requires g c =
    presets_held (crate_tree c.args.krate.now) c.args.script c.in-Ok.plan c.krate.ensures.fits (plan_is c.args.krate.now c.krate.result.now c.args.script c.script.result.now c.in-Ok.plan c.krate.ensures.same c.script.ensures c.in-Ok.ensures)

pub invariant_of-result : goal.invariant_of-result
invariant_of-result g c =
    let is = plan_is c.args.krate.now c.krate.result.now c.args.script c.script.result.now c.in-Ok.plan c.krate.ensures.same c.script.ensures c.in-Ok.ensures in
    ready_course (record { of = c.of.result; script = c.args.script; deeds = c.in-Ok.plan.deeds; next = 0; words = c.in-Ok.plan.words; made = c.in-Ok.plan.made })
    (subst (λ (krate : Crate). CrateFits (crate_tree krate)) (sym c.of.ensures) c.krate.ensures.fits) refl
    (subst (λ (krate : Crate). AreAll (crate_tree krate) c.args.script c.in-Ok.plan.deeds.items) (sym c.of.ensures) is.deeds) is.no_words is.words_room is.none_made is.room

pub returns-in-Ok-make_ready : goal.returns-in-Ok-make_ready
returns-in-Ok-make_ready g c =
    prepared (g.B.Bus.told c.args.bus.now) (g.B.Bus.told c.make_ready.new.bus) c.args.krate.now c.args.script c.in-Ok.plan (record { krate = c.of.result.value; script = c.args.script })
    (plan_is c.args.krate.now c.krate.result.now c.args.script c.script.result.now c.in-Ok.plan c.krate.ensures.same c.script.ensures c.in-Ok.ensures) c.in-Ok-make_ready.ensures c.of.ensures refl

pub returns-in-Err-make_ready : goal.returns-in-Err-make_ready
returns-in-Err-make_ready g c =
    refused (g.B.Bus.told c.args.bus.now) (g.B.Bus.told c.make_ready.new.bus) c.args.krate.now c.args.script c.in-Ok.plan
    (plan_is c.args.krate.now c.krate.result.now c.args.script c.script.result.now c.in-Ok.plan c.krate.ensures.same c.script.ensures c.in-Ok.ensures) c.in-Err-make_ready.ensures
