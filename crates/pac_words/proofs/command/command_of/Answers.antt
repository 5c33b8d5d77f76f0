use Rattle.std.proofs.Common.{ap, sym, map, ◌∙◌}
use Rattle.std.proofs.lemmas.Result.{IfOk-weaker}
use Rattle.clap.specs.Words.{app_of, found_of, kind_of, rows_of}
use Rattle.pac_words.specs.Commands.{chosen}
use Rattle.pac_words.proofs.Readings.{accepted, met, refused}
use Rattle.pac_words.proofs.command.command_of.Goals.{in-OutOfMemory, in_default}
use Rattle.pac_words.proofs.command.command_of.Goals as goal

pub returns-in-Err : goal.returns-in-Err
returns-in-Err c = elim c.match-kind.branch [
  | in-OutOfMemory w ↦ rw w.result-is tt
  | in_default w ↦ rw w.result-is
      (sym (refused (app_of c.in_ok-command.command) _ c.args.words.now (kind_of c.in-Err.error) c.in_ok-command.ensures
      (ap (map (λ text. text.now)) c.as_slice.ensures.value ∙ c.in_ok-texts.ensures) c.in-Err.ensures.kinds (λ e. w.in_default.not-OutOfMemory (c.kind.ensures ∙ e))))
]

pub returns-in-Some : goal.returns-in-Some
returns-in-Some c =
    IfOk-weaker c.told.result _ _
    (λ command is. is ∙ sym (accepted (app_of c.in_ok-command.command) _ c.args.words.now c.in-Ok.matches c.in_ok-command.ensures
    (ap (map (λ text. text.now)) c.as_slice.ensures.value ∙ c.in_ok-texts.ensures) c.in-Ok.ensures.kinds c.in-Ok.ensures.matches
    ∙ ap chosen (met c.in-Ok.matches c.in-Some.name.now (rows_of (found_of c.in-Some.inner.now)) c.in-Some.ensures.name c.in-Some.ensures.rows)))
    c.told.ensures
