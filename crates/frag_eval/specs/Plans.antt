-- What a run needs, before the bus is made ready for it.
use Rattle.std.specs.Prelude.{◌≡◌, ◌≤◌, [], length, map, Result, Ok, Err}
use Rattle.std.specs.Vec.{vec_capacity}
use Rattle.pac_base.specs.declared.memory.NoMemory.{NoMemory}
use Rattle.pac_bus.specs.Acts.Act.{sets}
use Rattle.pac_bus.specs.Telling.{BusTold, Did}
use Rattle.frag_tree.specs.declared.script.Script.{Script}
use Rattle.frag_tree.specs.Trees.{CrateTree}
use Rattle.frag_sem.specs.TextMeaning.{text_presets}
use Rattle.frag_eval.specs.declared.plan.Plan.{Plan}
use Rattle.frag_eval.specs.Called.{SetSome, preset_seen}
use Rattle.frag_eval.specs.Lowered.{AreAll}

-- A plan has all that a script does against a crate, with room for it, and the script's presets.
pub record IsPlan (krate : CrateTree) (script : Script) (plan : Plan) : Type 0 where
  pub deeds : AreAll krate script plan.deeds.items
  pub no_words : plan.words.items ≡ []
  pub words_room : length plan.deeds.items ≤ vec_capacity plan.words
  pub none_made : plan.made.list ≡ []
  pub room : length plan.deeds.items ≤ plan.made.spare
  pub presets : map preset_seen plan.presets.items ≡ text_presets krate script

-- exactly the presets were made, and there is room for each deed
pub record IsMadeReady (old now : BusTold) (plan : Plan) : Type 0 where
  pub preset : Did old now (map sets plan.presets.items)
  pub room : length plan.deeds.items ≤ now.spare

-- a bus is ready for a plan, or the first of its presets were made
abbrev pub MakesReady : {T : Type 0} → Result T NoMemory → BusTold → BusTold → Plan → Type 0
MakesReady (Ok value) old now plan = IsMadeReady old now plan
MakesReady (Err fault) old now plan = SetSome old now plan.presets.items
