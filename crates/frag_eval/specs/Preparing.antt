-- What preparing a script does, case by case (this project's own rule).
use Rattle.std.specs.Prelude.{◌≡◌, List, ◌++◌, map, Result, Ok, Err}
use Rattle.pac_base.specs.declared.back.Back.{Back}
use Rattle.pac_base.specs.declared.memory.NoMemory.{NoMemory}
use Rattle.pac_bus.specs.Acts.{Act}
use Rattle.pac_bus.specs.Acts.Act.{sets}
use Rattle.pac_bus.specs.Answers.{a_preset}
use Rattle.pac_bus.specs.Telling.{BusTold, Did}
use Rattle.frag_tree.specs.declared.krate.Crate.{Crate}
use Rattle.frag_tree.specs.declared.script.Script.{Script}
use Rattle.frag_tree.specs.Trees.{crate_tree}
use Rattle.frag_sem.specs.Presets.{Preset}
use Rattle.frag_sem.specs.TextMeaning.{text_presets}
use Rattle.frag_eval.specs.Runs.{HasSpare, Readied}

-- what a preset does on a bus
abbrev pub set_by : Preset → Act
set_by preset = sets (a_preset preset.address preset.width preset.value)

-- what presets do on a bus, one after the other
abbrev pub set_by_all : List Preset → List Act
set_by_all presets = map set_by presets

-- The script is ready against the crate: exactly its presets were made on the bus, in their order, and there is room for each access.
pub record Prepared (old now : BusTold) (krate : Crate) (script : Script) (ready : Readied) : Type 0 where
  pub of_crate : ready.krate ≡ krate
  pub of_script : ready.script ≡ script
  pub preset : Did old now (set_by_all (text_presets (crate_tree krate) script))
  pub room : HasSpare now ready

-- Memory was wanting: the script is as it was, and of its presets the first were made, or none, or all.
pub record Refused (old now : BusTold) (krate : Crate) (script back : Script) : Type 0 where
  pub same : back ≡ script
  pub made : List Preset
  pub later : List Preset
  pub first : text_presets (crate_tree krate) script ≡ made ++ later
  pub preset : Did old now (set_by_all made)

abbrev pub Prepares : Result Readied (Back Script NoMemory) → BusTold → BusTold → Crate → Script → Type 0
Prepares (Ok ready) old now krate script = Prepared old now krate script ready
Prepares (Err back) old now krate script = Refused old now krate script back.state
