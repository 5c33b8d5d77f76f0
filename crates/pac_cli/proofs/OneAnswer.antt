-- The words, the lent buses and the files decide one answer at most, so the one that comes is that one.
use Rattle.std.proofs.Common.{ℕ, ◌≡◌, ◌⊎◌, Bool, true, false, List, [], ◌∷◌, Option, Some, None, IfSome, refl, sym, ap, ◌∙◌, subst, inl, inr}
use Rattle.svd_reader.specs.Described.{Answer as Reading, HasAnswer}
use Rattle.pac_words.specs.Commands.{command_of}
use Rattle.pac_words.specs.declared.command.Command.{Command}
use Rattle.pac_words.specs.declared.command.Command.TheVariants.{Executing, Generating, Listing, Running, Sampling}
use Rattle.pac_words.specs.declared.command.BusKind.{BusKind}
use Rattle.pac_fault.specs.Classes.{Class, no_memory, bad_words, bad_read, bad_write, bad_bus, long_file, bad_input, class_of}
use Rattle.pac_fault.specs.declared.fault.PacFault.{PacFault}
use Rattle.pac_fault.specs.declared.fault.PacFault.TheVariants.{Memory}
use Rattle.pac_bus.specs.Telling.{BusTold}
use Rattle.pac_io.specs.Rose.{Rose}
use Rattle.frag_sem.specs.Surfaces.{Surface}
use Rattle.frag_sem.specs.TextSurface.{text_surface}
use Rattle.frag_tree.specs.declared.event.Event.{Event}
use Rattle.frag_tree.specs.declared.script.Script.{Script}
use Rattle.pac_bus.specs.Acts.{Act}
use Rattle.pac_cli.specs.Answers.{Cause, Plan, Answer, refused, does, generated, listed, scripted, table_plan, table_sum, text_plan, sample_bytes, has_numbers, AnswersNumbered, AnswersOnCrate, AnswersOnRows, AnswersOnSample, AnswersRun, AnswersScript, Decides, DecidesOn, DecidesRun, DecidesSample, DecidesSource, DecidesText, AnswersAsked, AnswersCommand, AnswersWithout, IsAnswer}
use Rattle.pac_cli.specs.Buses.{bus_of, kinds_of, missing_kind}
use Rattle.pac_cli.specs.Scripts.{CrateReading, untyped, typed}
use Rattle.pac_sample.specs.Script.{sample_script}
use Rattle.pac_sample.specs.Wanted.{numbers_given}
use Rattle.pac_inputs.specs.Gathering.{FileMap, Gathering, inputs_are, is_too_long, Gathered, gathered_from}
use Rattle.pac_inputs.specs.declared.gathering.Wanted.{Wanted}
use Rattle.pac_cli.specs.Inputs.{files_of}
use Rattle.pac_words.specs.declared.command.Source.{Source}
use Rattle.pac_cli.specs.Resolving.{Resolution, stopped, resolved, then_by, by_reading, by_patching, patched_to, SourceBytes, bytes_of, WherePassed, IsPatch, IsJudged, ComeTo, resolution_of}
use Rattle.pac_cli.proofs.Stopping.{Rows}
use Rattle.derived_rows.proofs.OneFault.{no_fault, one_fault}
use Rattle.derived_rows.specs.Faults.{Fault as DeriveFault}
use Rattle.overlap_check.specs.declared.fault.Policy.{Policy}
use Rattle.patch_model.proofs.OneReading.{one_read}
use Rattle.patch_model.specs.Readings.{Reading as PatchReading}
use Rattle.table_sem.specs.TableSurface.{table_surface}
use Rattle.pac_cli.specs.Showing.{Shows}
use Rattle.pac_cli.specs.Stages.{BrokeOn, MakesFirst}
use Rattle.pac_cli.specs.Standing.{StandsIn, Stands, Refuses, Comes, IsSpared, IsComplete, RoseOn}
use Rattle.pac_cli.specs.Worlds.{World, desk_of}
use Rattle.pac_cli.proofs.OneReading.{one_crate_reading, one_script_reading}

-- no bytes of a description have two answers
abbrev pub OneReading : Type 0
OneReading = (bytes : List ℕ) (one other : Reading) → HasAnswer bytes one → HasAnswer bytes other → one ≡ other

-- a patch comes to one thing at most
one_patch : (bytes : Option (List ℕ)) (one other : Option PatchReading) → IsPatch bytes one → IsPatch bytes other → one ≡ other
one_patch None None None a b = refl
one_patch None None (Some other) a b = absurd b
one_patch None (Some one) other a b = absurd a
one_patch (Some bytes) None other a b = absurd a
one_patch (Some bytes) (Some one) None a b = absurd b
one_patch (Some bytes) (Some one) (Some other) a b = ap Some (one_read bytes one other a b)

-- and deriving to one
one_judged : (all : Rows) (one other : Option DeriveFault) → IsJudged one all → IsJudged other all → one ≡ other
one_judged all None None a b = refl
one_judged all None (Some other) a b = absurd (no_fault all other a b)
one_judged all (Some one) None a b = absurd (no_fault all one b a)
one_judged all (Some one) (Some other) a b = ap Some (one_fault all one other a b)

same_patched : (source : SourceBytes) (reading : Reading) (come : Resolution) (one other : Option PatchReading) → by_reading reading ≡ come → WherePassed (λ all. IsPatch source.patch one) come → WherePassed (λ all. IsPatch source.patch other) come
    → patched_to one reading ≡ patched_to other reading
same_patched source reading (stopped why) one other is a b = ap (then_by (by_patching one)) is ∙ sym (ap (then_by (by_patching other)) is)
same_patched source reading (resolved all) one other is a b = ap (λ (patch : Option PatchReading). patched_to patch reading) (one_patch source.patch one other a b)

same_judged : (policy : Policy) (before : Resolution) (one other : Option DeriveFault) → WherePassed (IsJudged one) before → WherePassed (IsJudged other) before → resolution_of policy one before ≡ resolution_of policy other before
unfolding resolution_of
same_judged policy (stopped why) one other a b = refl
same_judged policy (resolved all) one other a b = ap (λ (fault : Option DeriveFault). resolution_of policy fault (resolved all)) (one_judged all one other a b)

same_resolution : OneReading → (source : SourceBytes) (one other : Resolution) → ComeTo source one → ComeTo source other → one ≡ other
same_resolution read source one other a b =
    let same : b.reading ≡ a.reading = read source.svd b.reading a.reading b.read a.read in
    let also : WherePassed (λ all. IsPatch source.patch b.patch) (by_reading a.reading) = subst (λ (reading : Reading). WherePassed (λ all. IsPatch source.patch b.patch) (by_reading reading)) same b.spelled in
    let before : patched_to b.patch b.reading ≡ patched_to a.patch a.reading = ap (patched_to b.patch) same ∙ same_patched source a.reading (by_reading a.reading) b.patch a.patch refl also a.spelled in
    a.comes
    ∙ same_judged source.policy (patched_to a.patch a.reading) a.fault b.fault a.judged (subst (WherePassed (IsJudged b.fault)) before b.judged)
    ∙ ap (resolution_of source.policy b.fault) (sym before)
    ∙ sym b.comes

one_for_source : OneReading → (made : Resolution → Answer) (source : Source) (inputs : List (List ℕ)) (one other : Answer) → DecidesSource made source inputs one → DecidesSource made source inputs other → one ≡ other
one_for_source read made source [] one other a b = absurd a
one_for_source read made source (svd ∷ []) one other a b = a.answered ∙ ap made (same_resolution read (bytes_of source svd None) a.resolution b.resolution a.comes b.comes) ∙ sym b.answered
one_for_source read made source (svd ∷ patch ∷ []) one other a b = a.answered ∙ ap made (same_resolution read (bytes_of source svd (Some patch)) a.resolution b.resolution a.comes b.comes) ∙ sym b.answered
one_for_source read made source (svd ∷ patch ∷ next ∷ inputs) one other a b = absurd a

one_for_script : (surface : Surface) (plan : Script → Plan) (bytes : List ℕ) (one other : Answer) → AnswersScript surface plan bytes one → AnswersScript surface plan bytes other → one ≡ other
one_for_script surface plan bytes one other a b =
    a.answered ∙ (ap (scripted surface plan) (one_script_reading bytes a.reading b.reading a.comes b.comes) ∙ sym b.answered)

one_on_crate : (reading : CrateReading) (script : List ℕ) (one other : Answer) → AnswersOnCrate reading script one → AnswersOnCrate reading script other → one ≡ other
one_on_crate (untyped why) script one other a b = a ∙ sym b
one_on_crate (typed krate) script one other a b = one_for_script (text_surface krate) (text_plan krate) script one other a b

one_for_text : (inputs : List (List ℕ)) (one other : Answer) → DecidesText inputs one → DecidesText inputs other → one ≡ other
one_for_text [] one other a b = absurd a
one_for_text (krate ∷ []) one other a b = absurd a
one_for_text (krate ∷ script ∷ []) one other a b =
    one_on_crate b.reading script one other
    (subst (λ (reading : CrateReading). AnswersOnCrate reading script one) (one_crate_reading krate a.reading b.reading a.comes b.comes) a.answered) b.answered
one_for_text (krate ∷ script ∷ next ∷ inputs) one other a b = absurd a

one_on_rows : (resolution : Resolution) (script : List ℕ) (one other : Answer) → AnswersOnRows resolution script one → AnswersOnRows resolution script other → one ≡ other
one_on_rows (stopped why) script one other a b = a ∙ sym b
one_on_rows (resolved rows) script one other a b = one_for_script (table_surface rows) (table_plan rows) script one other a b

one_run : OneReading → (source : SourceBytes) (script : List ℕ) (one other : Answer) → AnswersRun source script one → AnswersRun source script other → one ≡ other
one_run read source script one other a b =
    one_on_rows b.resolution script one other
    (subst (λ (resolution : Resolution). AnswersOnRows resolution script one) (same_resolution read source a.resolution b.resolution a.comes b.comes) a.answered) b.answered

one_for_run : OneReading → (source : Source) (inputs : List (List ℕ)) (one other : Answer) → DecidesRun source inputs one → DecidesRun source inputs other → one ≡ other
one_for_run read source [] one other a b = absurd a
one_for_run read source (svd ∷ []) one other a b = absurd a
one_for_run read source (svd ∷ script ∷ []) one other a b = one_run read (bytes_of source svd None) script one other a b
one_for_run read source (svd ∷ patch ∷ script ∷ []) one other a b = one_run read (bytes_of source svd (Some patch)) script one other a b
one_for_run read source (svd ∷ patch ∷ script ∷ next ∷ inputs) one other a b = absurd a

one_on_sample : (count : ℕ) (resolution : Resolution) (one other : Answer) → AnswersOnSample count resolution one → AnswersOnSample count resolution other → one ≡ other
one_on_sample count (stopped why) one other a b = a ∙ sym b
one_on_sample count (resolved rows) one other a b = one_for_script (table_surface rows) (table_sum count rows) (sample_script count) one other a b

one_for_sample : OneReading → (numbers : Option (ℕ × ℕ)) (inputs : List (List ℕ)) (one other : Answer) → DecidesSample numbers inputs one → DecidesSample numbers inputs other → one ≡ other
one_for_sample read None inputs one other a b = absurd a
one_for_sample read (Some numbers) [] one other a b =
    one_on_sample numbers.1 b.resolution one other
    (subst (λ (resolution : Resolution). AnswersOnSample numbers.1 resolution one)
    (same_resolution read (sample_bytes numbers.0 numbers.1) a.resolution b.resolution a.comes b.comes) a.answered) b.answered
one_for_sample read (Some numbers) (bytes ∷ inputs) one other a b = absurd a

-- a command and its inputs decide one answer at most
pub one_decision_lem : OneReading → (command : Command) (inputs : List (List ℕ)) (one other : Answer) → Decides command inputs one → Decides command inputs other → one ≡ other
one_decision_lem read (Listing source) inputs one other a b = one_for_source read listed source inputs one other a b
one_decision_lem read (Generating source) inputs one other a b = one_for_source read generated source inputs one other a b
one_decision_lem read (Executing krate run) inputs one other a b = one_for_text inputs one other a b
one_decision_lem read (Running source run) inputs one other a b = one_for_run read source inputs one other a b
one_decision_lem read (Sampling number count) inputs one other a b = one_for_sample read (numbers_given number count) inputs one other a b

one_on : OneReading → (command : Command) (gathering : Gathering) (one other : Answer) → DecidesOn command gathering one → DecidesOn command gathering other → one ≡ other
one_on read command (inputs_are inputs) one other a b = one_decision_lem read command inputs one other a b
one_on read command (is_too_long file) one other a b = a ∙ sym b

-- what told files are to a command
told_as : (files : FileMap) (wanted : List Wanted) (gathering : Gathering) → Gathered (Some files) wanted gathering → gathered_from files wanted ≡ Some gathering
told_as files wanted (inputs_are inputs) h = h.1
told_as files wanted (is_too_long file) h = h

same_gathering : (found : Option Gathering) (one other : Gathering) → found ≡ Some one → found ≡ Some other → one ≡ other
same_gathering found one other a b = let e : Some one ≡ Some other = sym a ∙ b in cc

one_for_command : OneReading → (command : Command) (files : FileMap) (one other : Answer) → AnswersCommand command (Some files) one → AnswersCommand command (Some files) other → one ≡ other
one_for_command read command files one other a b =
    one_on read command b.gathering one other
    (subst (λ (gathering : Gathering). DecidesOn command gathering one)
    (same_gathering (gathered_from files (files_of command)) a.gathering b.gathering (told_as files (files_of command) a.gathering a.gathered)
    (told_as files (files_of command) b.gathering b.gathered)) a.decided)
    b.decided

one_without : OneReading → (missing : Option BusKind) (command : Command) (files : FileMap) (one other : Answer) → AnswersWithout missing command (Some files) one
    → AnswersWithout missing command (Some files) other → one ≡ other
one_without read (Some kind) command files one other a b = a ∙ sym b
one_without read None command files one other a b = one_for_command read command files one other a b

one_numbered : OneReading → (has : Bool) (command : Command) (kinds : List BusKind) (files : FileMap) (one other : Answer) → AnswersNumbered has command kinds (Some files) one
    → AnswersNumbered has command kinds (Some files) other → one ≡ other
one_numbered read false command kinds files one other a b = a ∙ sym b
one_numbered read true command kinds files one other a b = one_without read (missing_kind (bus_of command) kinds) command files one other a b

one_for : OneReading → (asked : Option Command) (kinds : List BusKind) (files : FileMap) (one other : Answer) → AnswersAsked asked kinds (Some files) one → AnswersAsked asked kinds (Some files) other → one ≡ other
one_for read None kinds files one other a b = a ∙ sym b
one_for read (Some command) kinds files one other a b = one_numbered read (has_numbers command) command kinds files one other a b

-- the words, the kinds of the lent buses and the files decide one answer at most
pub one_answer_lem : OneReading → (words : List (List ℕ)) (kinds : List BusKind) (files : FileMap) (one other : Answer) → IsAnswer words kinds (Some files) one → IsAnswer words kinds (Some files) other → one ≡ other
one_answer_lem read words kinds files one other a b = one_for read (command_of words) kinds files one other a b

-- ---- completeness

-- what an answer that stands has for the answer to told files
abbrev DecidedAt : List (List ℕ) → World → World → Option PacFault → Option FileMap → Type 0
DecidedAt words old new found told = IfSome told (λ files. (answer : Answer) → IsAnswer words (kinds_of old.slots) (Some files) answer → IsSpared words old new → Comes answer found)

abbrev AcceptedAt : List (List ℕ) → World → World → Option PacFault → Option FileMap → Type 0
AcceptedAt words old new found told = IfSome told (λ files. ((cause : Cause) → IsAnswer words (kinds_of old.slots) (Some files) (refused cause) → ⊥) → IsSpared words old new → (found ≡ None) ⊎ (found ≡ Some Memory))

-- want of memory comes in the place of any answer
memory_comes : (answer : Answer) (found : Option PacFault) → found ≡ Some Memory → Comes answer found
memory_comes (refused cause) found is = inr is
memory_comes (does plan) found is = inr is

done_decides : OneReading → (words : List (List ℕ)) (old new : World) (plan : Plan) (told : Option FileMap) → IsAnswer words (kinds_of old.slots) told (does plan) → DecidedAt words old new None told
done_decides read words old new plan None h = tt
done_decides read words old new plan (Some files) h = λ answer is spared. subst (λ (a : Answer). Comes a None) (one_answer_lem read words (kinds_of old.slots) files (does plan) answer h is) (inl refl)

done_accepts : (words : List (List ℕ)) (old new : World) (told : Option FileMap) → AcceptedAt words old new None told
done_accepts words old new None = tt
done_accepts words old new (Some files) = λ free spared. inl refl

refusal_decides : OneReading → (words : List (List ℕ)) (old new : World) (fault : PacFault) (cause : Cause) (told : Option FileMap) → IsAnswer words (kinds_of old.slots) told (refused cause) → Shows cause fault → DecidedAt words old new (Some fault) told
refusal_decides read words old new fault cause None h shown = tt
refusal_decides read words old new fault cause (Some files) h shown =
    λ answer is spared. subst (λ (a : Answer). Comes a (Some fault)) (one_answer_lem read words (kinds_of old.slots) files (refused cause) answer h is) (inl shown)

refusal_accepts : (words : List (List ℕ)) (old new : World) (fault : PacFault) (cause : Cause) (told : Option FileMap) → IsAnswer words (kinds_of old.slots) told (refused cause) → AcceptedAt words old new (Some fault) told
refusal_accepts words old new fault cause None h = tt
refusal_accepts words old new fault cause (Some files) h = λ free spared. absurd (free cause h)

memory_decides : (words : List (List ℕ)) (old new : World) (fault : PacFault) (told : Option FileMap) → fault ≡ Memory → DecidedAt words old new (Some fault) told
memory_decides words old new fault None is = tt
memory_decides words old new fault (Some files) is = λ answer has spared. memory_comes answer (Some fault) (ap Some is)

memory_accepts : (words : List (List ℕ)) (old new : World) (fault : PacFault) (told : Option FileMap) → fault ≡ Memory → AcceptedAt words old new (Some fault) told
memory_accepts words old new fault None is = tt
memory_accepts words old new fault (Some files) is = λ free spared. inr (ap Some is)

-- where a count of faults rose, nothing is decided
rose_decides : (words : List (List ℕ)) (old new : World) (found : Option PacFault) (told : Option FileMap) → (IsSpared words old new → ⊥) → DecidedAt words old new found told
rose_decides words old new found None rose = tt
rose_decides words old new found (Some files) rose = λ answer is spared. absurd (rose spared)

rose_accepts : (words : List (List ℕ)) (old new : World) (found : Option PacFault) (told : Option FileMap) → (IsSpared words old new → ⊥) → AcceptedAt words old new found told
rose_accepts words old new found None rose = tt
rose_accepts words old new found (Some files) rose = λ free spared. absurd (rose spared)

refusal_complete : OneReading → (words : List (List ℕ)) (old new : World) (fault : PacFault) → Refuses words old new fault → IsComplete words old new (Some fault)
refusal_complete read words old new fault h = record {
  decided = refusal_decides read words old new fault h.refusal.cause old.shelf.files h.refusal.decided h.refusal.shown;
  accepted = refusal_accepts words old new fault h.refusal.cause old.shelf.files h.refusal.decided;
}

rose_complete : (words : List (List ℕ)) (old new : World) (fault : PacFault) → (IsSpared words old new → ⊥) → IsComplete words old new (Some fault)
rose_complete words old new fault rose = record { decided = rose_decides words old new (Some fault) old.shelf.files rose; accepted = rose_accepts words old new (Some fault) old.shelf.files rose }

-- where the bus failed, its count of faults rose
rose_at : (old new : Option BusTold) (acts : List Act) → BrokeOn old new acts → RoseOn old new
rose_at None None acts h = absurd h
rose_at None (Some now) acts h = absurd h
rose_at (Some was) None acts h = absurd h
rose_at (Some was) (Some now) acts h = subst (λ (n : ℕ). Rose n now.faults) h.acted.no_fault h.failed.rose

rose_on : (old new : Option BusTold) (plan : Plan) (events : List Event) → MakesFirst plan events old new → RoseOn old new
rose_on old new plan events h = rose_at old new _ h.broke

complete_in : OneReading → (class : Class) (words : List (List ℕ)) (old new : World) (fault : PacFault) → StandsIn class words old new fault → IsComplete words old new (Some fault)
complete_in read no_memory words old new fault h = record { decided = memory_decides words old new fault old.shelf.files h.lacks.told_as; accepted = memory_accepts words old new fault old.shelf.files h.lacks.told_as }
complete_in read bad_words words old new fault h = refusal_complete read words old new fault h.1
complete_in read (bad_read name) words old new fault h = rose_complete words old new fault (λ spared. spared.reads h.rose)
complete_in read bad_write words old new fault h = rose_complete words old new fault (λ spared. spared.writes h.1.rose)
complete_in read (bad_bus done) words old new fault h = rose_complete words old new fault (λ spared. spared.bus (rose_on (desk_of words old).bus (desk_of words new).bus h.1.plan h.1.events h.1.makes))
complete_in read (long_file name limit) words old new fault h = refusal_complete read words old new fault h.1
complete_in read bad_input words old new fault h = refusal_complete read words old new fault h.1

-- what stands is complete
pub complete : OneReading → (words : List (List ℕ)) (old new : World) (found : Option PacFault) → Stands words old new found → IsComplete words old new found
complete read words old new None h = record { decided = done_decides read words old new h.done.plan old.shelf.files h.done.decided; accepted = done_accepts words old new old.shelf.files }
complete read words old new (Some fault) h = complete_in read (class_of fault) words old new fault h
