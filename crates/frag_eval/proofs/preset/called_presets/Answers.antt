use Rattle.std.proofs.Common.{map}
use Rattle.frag_tree.specs.Trees.{crate_tree}
use Rattle.frag_eval.specs.Called.{places_seen, preset_seen}
use Rattle.frag_eval.proofs.CalledPlaces.{gathered_all, gathered_call, gathered_start}
use Rattle.frag_eval.proofs.Lines.{none-left}
use Rattle.frag_eval.proofs.preset.called_presets.Goals as goal

pub loop-line-init : goal.loop-line-init
loop-line-init c = gathered_start (crate_tree c.args.index.now.krate.now) c.args.script.now.lines c.as_slice-rest.result.now c.new.result.keys c.new-2.result.items c.as_slice-rest.ensures c.new.ensures.empty c.new-2.ensures.items

pub loop-line-preserved-in_ok-add_place : goal.loop-line-preserved-in_ok-add_place
loop-line-preserved-in_ok-add_place c =
    gathered_call (crate_tree c.args.index.now.krate.now) c.args.script.now.lines c.loop-line.rest.now c.in-Some.others.now c.in-Some.line.now c.in-Some-called.place.now (places_seen c.loop-line.made) (places_seen c.add_place.new.called) (map preset_seen c.loop-line.made.presets.items) (map preset_seen c.add_place.new.called.presets.items)
    c.in-Some.ensures.cases.0 c.in-Some-called.ensures c.in_ok-add_place.ensures.places c.in_ok-add_place.ensures.presets c.loop-line.invariant

pub returns : goal.returns
returns c = gathered_all (crate_tree c.args.index.now.krate.now) c.args.script.now c.loop-line.rest.now (places_seen c.loop-line.made) (map preset_seen c.loop-line.made.presets.items) (none-left c.loop-line.rest.now c.in_default.ensures.cases) c.loop-line.invariant
