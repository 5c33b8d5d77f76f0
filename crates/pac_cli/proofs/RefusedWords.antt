-- What a command and its inputs decide is never a refusal of the words, so such a refusal comes of the words alone.
use Rattle.std.proofs.Common.{ℕ, ◌≡◌, Bool, true, false, List, [], ◌∷◌, Option, Some, None, option_map, refl, ap, ◌∙◌}
use Rattle.pac_cli.specs.Answers.{Answer, AnswersAsked, AnswersNumbered, AnswersOnCrate, AnswersOnRows, AnswersOnSample, AnswersWithout, Decides, DecidesOn, DecidesRun, DecidesSample, DecidesSource, DecidesText, IsAnswer, Plan, bad_number, does, file_too_long, generated, has_numbers, listed, no_bus, no_command, no_crate_text, no_script, refused, scripted, table_plan, table_sum, text_plan, unless_mistyped, unresolved}
use Rattle.pac_cli.specs.Buses.{bus_of, missing_kind}
use Rattle.frag_sem.specs.ScriptTyping.{LineFault, script_fault}
use Rattle.frag_sem.specs.Surfaces.{Surface}
use Rattle.frag_sem.specs.TextSurface.{text_surface}
use Rattle.table_sem.specs.TableSurface.{table_surface}
use Rattle.frag_tree.specs.declared.script.Script.{Script}
use Rattle.pac_cli.specs.Resolving.{Resolution, stopped, resolved}
use Rattle.pac_cli.specs.Scripts.{CrateReading, untyped, typed, ScriptReading, unread, spelled}
use Rattle.pac_inputs.specs.Gathering.{FileMap, Gathering, inputs_are, is_too_long}
use Rattle.pac_sample.specs.Wanted.{numbers_given}
use Rattle.pac_words.specs.Commands.{command_of}
use Rattle.pac_words.specs.declared.command.Command.{Command}
use Rattle.pac_words.specs.declared.command.Command.TheVariants.{Executing, Generating, Listing, Running, Sampling}
use Rattle.pac_words.specs.declared.command.BusKind.{BusKind}
use Rattle.pac_words.specs.declared.command.Source.{Source}

-- the words themselves are refused, not what they name
abbrev blames_words : Answer → Bool
blames_words (refused no_command) = true
blames_words (refused bad_number) = true
blames_words (refused (no_bus kind)) = true
blames_words (refused (file_too_long name limit)) = false
blames_words (refused (unresolved why)) = false
blames_words (refused (no_crate_text why)) = false
blames_words (refused (no_script why)) = false
blames_words (does plan) = false

by_listing : (resolution : Resolution) → blames_words (listed resolution) ≡ false
unfolding listed
by_listing (stopped why) = refl
by_listing (resolved rows) = refl

by_generating : (resolution : Resolution) → blames_words (generated resolution) ≡ false
unfolding generated
by_generating (stopped why) = refl
by_generating (resolved rows) = refl

by_source : (made : Resolution → Answer) → ((resolution : Resolution) → blames_words (made resolution) ≡ false)
    → (source : Source) (inputs : List (List ℕ)) (answer : Answer) → DecidesSource made source inputs answer → blames_words answer ≡ false
by_source made blames source [] answer h = absurd h
by_source made blames source (svd ∷ []) answer h = ap blames_words h.answered ∙ blames h.resolution
by_source made blames source (svd ∷ patch ∷ []) answer h = ap blames_words h.answered ∙ blames h.resolution
by_source made blames source (svd ∷ patch ∷ next ∷ inputs) answer h = absurd h

by_typing : (fault : Option LineFault) (plan : Plan) → blames_words (unless_mistyped fault plan) ≡ false
by_typing None plan = refl
by_typing (Some fault) plan = refl

by_script : (surface : Surface) (plan : Script → Plan) (reading : ScriptReading) → blames_words (scripted surface plan reading) ≡ false
unfolding scripted
by_script surface plan (unread why) = refl
by_script surface plan (spelled script) = by_typing (script_fault surface script) (plan script)

by_crate : (reading : CrateReading) (script : List ℕ) (answer : Answer) → AnswersOnCrate reading script answer → blames_words answer ≡ false
by_crate (untyped why) script answer h = ap blames_words h
by_crate (typed krate) script answer h = ap blames_words h.answered ∙ by_script (text_surface krate) (text_plan krate) h.reading

by_text : (inputs : List (List ℕ)) (answer : Answer) → DecidesText inputs answer → blames_words answer ≡ false
by_text [] answer h = absurd h
by_text (krate ∷ []) answer h = absurd h
by_text (krate ∷ script ∷ []) answer h = by_crate h.reading script answer h.answered
by_text (krate ∷ script ∷ next ∷ inputs) answer h = absurd h

by_rows : (resolution : Resolution) (script : List ℕ) (answer : Answer) → AnswersOnRows resolution script answer → blames_words answer ≡ false
by_rows (stopped why) script answer h = ap blames_words h
by_rows (resolved rows) script answer h = ap blames_words h.answered ∙ by_script (table_surface rows) (table_plan rows) h.reading

by_run : (source : Source) (inputs : List (List ℕ)) (answer : Answer) → DecidesRun source inputs answer → blames_words answer ≡ false
by_run source [] answer h = absurd h
by_run source (svd ∷ []) answer h = absurd h
by_run source (svd ∷ script ∷ []) answer h = by_rows h.resolution script answer h.answered
by_run source (svd ∷ patch ∷ script ∷ []) answer h = by_rows h.resolution script answer h.answered
by_run source (svd ∷ patch ∷ script ∷ next ∷ inputs) answer h = absurd h

by_sample : (count : ℕ) (resolution : Resolution) (answer : Answer) → AnswersOnSample count resolution answer → blames_words answer ≡ false
by_sample count (stopped why) answer h = ap blames_words h
by_sample count (resolved rows) answer h = ap blames_words h.answered ∙ by_script (table_surface rows) (table_sum count rows) h.reading

by_numbers : (numbers : Option (ℕ × ℕ)) (inputs : List (List ℕ)) (answer : Answer) → DecidesSample numbers inputs answer → blames_words answer ≡ false
by_numbers None inputs answer h = absurd h
by_numbers (Some numbers) [] answer h = by_sample numbers.1 h.resolution answer h.answered
by_numbers (Some numbers) (bytes ∷ inputs) answer h = absurd h

by_command : (command : Command) (inputs : List (List ℕ)) (answer : Answer) → Decides command inputs answer → blames_words answer ≡ false
by_command (Listing source) inputs answer h = by_source listed by_listing source inputs answer h
by_command (Generating source) inputs answer h = by_source generated by_generating source inputs answer h
by_command (Executing krate run) inputs answer h = by_text inputs answer h
by_command (Running source run) inputs answer h = by_run source inputs answer h
by_command (Sampling number count) inputs answer h = by_numbers (numbers_given number count) inputs answer h

by_gathering : (command : Command) (gathering : Gathering) (answer : Answer) → DecidesOn command gathering answer → blames_words answer ≡ false
by_gathering command (inputs_are inputs) answer h = by_command command inputs answer h
by_gathering command (is_too_long file) answer h = ap blames_words h

-- ---- words of no command

no_command_without : (missing : Option BusKind) (command : Command) (told : Option FileMap) → AnswersWithout missing command told (refused no_command) → ⊥
no_command_without (Some kind) command told h = cc h
no_command_without None command told h = cc (by_gathering command h.gathering (refused no_command) h.decided)

no_command_numbered : (has : Bool) (command : Command) (kinds : List BusKind) (told : Option FileMap) → AnswersNumbered has command kinds told (refused no_command) → ⊥
no_command_numbered false command kinds told h = cc h
no_command_numbered true command kinds told h = no_command_without (missing_kind (bus_of command) kinds) command told h

no_command_asked : (asked : Option Command) (kinds : List BusKind) (told : Option FileMap) → AnswersAsked asked kinds told (refused no_command) → asked ≡ None
no_command_asked None kinds told h = refl
no_command_asked (Some command) kinds told h = absurd (no_command_numbered (has_numbers command) command kinds told h)

pub refused_words_lem : (words : List (List ℕ)) (kinds : List BusKind) (told : Option FileMap) → IsAnswer words kinds told (refused no_command) → command_of words ≡ None
refused_words_lem words kinds told h = no_command_asked (command_of words) kinds told h

-- ---- words without numbers

bad_number_without : (missing : Option BusKind) (command : Command) (told : Option FileMap) → AnswersWithout missing command told (refused bad_number) → ⊥
bad_number_without (Some kind) command told h = cc h
bad_number_without None command told h = cc (by_gathering command h.gathering (refused bad_number) h.decided)

bad_number_numbered : (has : Bool) (command : Command) (kinds : List BusKind) (told : Option FileMap) → AnswersNumbered has command kinds told (refused bad_number) → has ≡ false
bad_number_numbered false command kinds told h = refl
bad_number_numbered true command kinds told h = absurd (bad_number_without (missing_kind (bus_of command) kinds) command told h)

bad_number_asked : (asked : Option Command) (kinds : List BusKind) (told : Option FileMap) → AnswersAsked asked kinds told (refused bad_number) → option_map has_numbers asked ≡ Some false
bad_number_asked None kinds told h = cc h
bad_number_asked (Some command) kinds told h = ap Some (bad_number_numbered (has_numbers command) command kinds told h)

pub refused_numbers_lem : (words : List (List ℕ)) (kinds : List BusKind) (told : Option FileMap) → IsAnswer words kinds told (refused bad_number) → option_map has_numbers (command_of words) ≡ Some false
refused_numbers_lem words kinds told h = bad_number_asked (command_of words) kinds told h
