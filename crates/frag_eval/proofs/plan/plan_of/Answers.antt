use Rattle.std.proofs.Common.{sym, subst, map, ◌≡◌, arith}
use Rattle.frag_tree.specs.declared.krate.Crate.{Crate}
use Rattle.frag_tree.specs.declared.statement.Place.{Place}
use Rattle.frag_tree.specs.Trees.{crate_tree}
use Rattle.frag_index.specs.Walks.{StartsBelow}
use Rattle.frag_sem.specs.CallPlaces.{register_at}
use Rattle.frag_sem.specs.TextMeaning.{text_presets}
use Rattle.frag_eval.specs.Called.{preset_seen}
use Rattle.frag_eval.specs.Lowered.{AreAll}
use Rattle.frag_eval.proofs.Planning.{starts_below}
use Rattle.frag_eval.proofs.plan.plan_of.Goals as goal

pub lower_script-requires-clause-index : goal.lower_script-requires-clause-index
lower_script-requires-clause-index c = c.in_ok-index.ensures.index

pub lower_script-requires-clause-range : goal.lower_script-requires-clause-range
lower_script-requires-clause-range c = subst (λ (krate : Crate). (place : Place) → StartsBelow (register_at (crate_tree krate) place)) (sym c.in_ok-index.ensures.krate) (starts_below (crate_tree c.args.krate.now) c.requires)

pub called_presets-requires-clause-index : goal.called_presets-requires-clause-index
called_presets-requires-clause-index c = c.in_ok-index.ensures.index

pub called_presets-requires-clause-range : goal.called_presets-requires-clause-range
called_presets-requires-clause-range c = subst (λ (krate : Crate). (place : Place) → StartsBelow (register_at (crate_tree krate) place)) (sym c.in_ok-index.ensures.krate) (starts_below (crate_tree c.args.krate.now) c.requires)

pub returns : goal.returns
returns c = record {
  deeds = subst (λ (krate : Crate). AreAll (crate_tree krate) c.args.script.now c.in_ok-deeds.deeds.items) c.in_ok-index.ensures.krate c.in_ok-deeds.ensures;
  no_words = c.in_ok-words.ensures.items;
  words_room = omega (arith, c.in_ok-words.ensures.exact, c.len.ensures);
  none_made = c.in_ok-made.ensures.list;
  room = omega (arith, c.in_ok-made.ensures.room, c.len-2.ensures);
  presets = subst (λ (krate : Crate). map preset_seen c.in_ok-presets.presets.items ≡ text_presets (crate_tree krate) c.args.script.now) c.in_ok-index.ensures.krate c.in_ok-presets.ensures;
}
