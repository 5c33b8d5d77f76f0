-- Places as a map tells them apart.
use Rattle.std.specs.Prelude.{map}
use Rattle.frag_eval.specs.declared.keys.PlaceKey.{PlaceKey}
use Rattle.frag_eval.specs.declared.keys.StepKey.{StepKey}
use Rattle.frag_tree.specs.declared.statement.Call.{Call}
use Rattle.frag_tree.specs.declared.statement.Place.{Place}

abbrev pub step_seen : StepKey → Call
step_seen key = record { name = key.name.now; index = key.index }

abbrev pub key_seen : PlaceKey → Place
key_seen key = record { slot = key.slot.now; steps = map step_seen key.steps.items }
