use Rattle.std.proofs.Common.{option_map, refl}
use Rattle.frag_index.specs.Walks.{found_seen}
use Rattle.frag_tree.specs.Trees.{crate_tree}
use Rattle.frag_eval.proofs.CalledPlaces.{place_again, place_new}
use Rattle.frag_eval.proofs.Growing.{if_ok_map}
use Rattle.frag_eval.proofs.preset.add_place.Goals as goal

pub returns-then-fresh : goal.returns-then-fresh
returns-then-fresh c =
    if_ok_map c.add_preset.result
    (λ done presets-are.
    place_new (crate_tree c.args.index.now.krate.now) c.args.place.now c.args.called.now (record { seen = c.take.new.seen; presets = c.add_preset.new.presets }) c.in_ok-fresh.fresh (option_map found_seen c.register_at.result)
    c.in_ok-fresh.ensures.new c.in_ok-fresh.ensures.kept c.if-fresh.true (c.register_at.ensures (c.requires.range c.args.place.now)) presets-are)
    c.add_preset.ensures

pub returns : goal.returns
returns c = place_again (crate_tree c.args.index.now.krate.now) c.args.place.now c.args.called.now (record { seen = c.take.new.seen; presets = c.args.called.now.presets }) c.in_ok-fresh.fresh c.in_ok-fresh.ensures.new c.in_ok-fresh.ensures.kept c.if-fresh.false refl
