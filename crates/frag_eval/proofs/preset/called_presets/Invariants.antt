use Rattle.std.proofs.Common.{length, map}
use Rattle.frag_tree.specs.Trees.{crate_tree}
use Rattle.frag_eval.specs.Called.{places_seen, preset_seen}
use Rattle.frag_eval.proofs.CalledPlaces.{GatheredUpTo}
use Rattle.frag_eval.proofs.preset.called_presets.Given as goal

abbrev pub invariant-loop-line : goal.invariant-loop-line
invariant-loop-line l = GatheredUpTo (crate_tree l.fn.index.krate.now) l.fn.script.lines l.rest (places_seen l.made) (map preset_seen l.made.presets.items)

abbrev pub decreases-loop-line : goal.decreases-loop-line
decreases-loop-line l = length l.rest
