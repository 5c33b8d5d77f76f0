-- What each call of a run answers, case by case (this project's own rule).
use Rattle.std.specs.Prelude.{Result, Ok, Err}
use Rattle.pac_base.specs.declared.back.Back.{Back}
use Rattle.pac_bus.specs.declared.access.BusFailed.{BusFailed}
use Rattle.pac_bus.specs.Telling.{BusTold}
use Rattle.frag_tree.specs.EventLists.{EventList}
use Rattle.frag_eval.specs.declared.stage.BusFault.{BusFault}
use Rattle.frag_eval.specs.declared.stage.Stage.{Stage}
use Rattle.frag_eval.specs.Runs.{IsHeld, IsStepped, Ran, Readied, Stopped, UnderWay}
use Rattle.frag_eval.specs.Stages.{stage_seen}

abbrev pub Steps : Result Stage (Back UnderWay BusFailed) → BusTold → BusTold → UnderWay → Type 0
Steps (Ok stage) old now running = IsStepped old now running (stage_seen stage)
Steps (Err back) old now running = IsHeld old now running back.state

abbrev pub Runs : Result EventList BusFault → BusTold → BusTold → Readied → Type 0
Runs (Ok events) old now ready = Ran old now ready.krate ready.script events.list
Runs (Err fault) old now ready = Stopped old now ready.krate ready.script fault.done fault.events.list
