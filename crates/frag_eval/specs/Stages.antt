-- How contracts see what is ready, and the stages of a run.
use Rattle.std.specs.Prelude.{List, ◌++◌}
use Rattle.frag_tree.specs.declared.event.Event.{Event}
use Rattle.frag_eval.specs.declared.course.Course.{Course}
use Rattle.frag_eval.specs.declared.stage.Stage.{Stage}
use Rattle.frag_eval.specs.declared.stage.Stage.TheVariants.{Running, Done}
use Rattle.frag_eval.specs.Prefixes.{AreSaid}
use Rattle.frag_eval.specs.Runs.{StageIs, StageSeen, under_way, done}

-- a stage, as contracts see its run or its events
abbrev pub stage_seen : Stage → StageSeen
stage_seen (Running running) = under_way running
stage_seen (Done events) = done events.list

-- a run that was put under way is at an access, or at its end
abbrev pub Arrives : Course → StageSeen → Type 0
Arrives course stage = (said : List Event) × AreSaid said × StageIs stage course.of.value course.script (course.made.list ++ said)
