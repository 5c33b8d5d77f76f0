-- The inputs of a command over a description: from its files to what they decide.
use Rattle.std.proofs.Common.{ℕ, ◌≡◌, ◌≤◌, ◌+◌, ◌-◌, List, [], ◌∷◌, ◌++◌, length, take, slice_index_or, Option, Some, None, Result, IfOk, sym, ap, ◌∙◌, subst, arith}
use Rattle.std.proofs.lemmas.List.{take_all, take_more}
use Rattle.std.proofs.lemmas.Result.{IfOk-weaker}
use Rattle.pac_cli.specs.Answers.{Answer, AnswersRun, AnswersSource, Decides, DecidesRun, DecidesSource, generated, listed}
use Rattle.pac_cli.specs.Buses.{Slot, bus_of, lent_for}
use Rattle.pac_cli.specs.Headline.{WritesText, WritesTextFor}
use Rattle.pac_cli.specs.Inputs.{files_of, run_files, script_file, source_files}
use Rattle.pac_cli.specs.Resolving.{Resolution, SourceBytes, bytes_from, bytes_of}
use Rattle.pac_cli.specs.Stages.{Does}
use Rattle.pac_cli.specs.Worlds.{Paper, alone, desk}
use Rattle.pac_cli.proofs.Doing.{does_otherwise}
use Rattle.pac_fault.specs.declared.fault.PacFault.{PacFault}
use Rattle.pac_inputs.specs.Gathering.{FitLimits}
use Rattle.pac_inputs.specs.declared.gathering.Wanted.{Wanted}
use Rattle.pac_words.specs.declared.command.Command.{Command}
use Rattle.pac_words.specs.declared.command.Command.TheVariants.{Generating, Listing, Running}
use Rattle.pac_words.specs.declared.command.Run.{Run}
use Rattle.pac_words.specs.declared.command.Source.{Source}

-- ---- limits

none_left : (files : List Wanted) (last : Wanted) → FitLimits (files ++ last ∷ []) [] → ⊥
none_left [] last h = h
none_left (file ∷ files) last h = h

-- the last input is within the limit of the last file, and those before it within theirs
split_limits : (files : List Wanted) (last : Wanted) (inputs : List (List ℕ)) (bytes : List ℕ) → FitLimits (files ++ last ∷ []) (inputs ++ bytes ∷ []) → FitLimits files inputs × (length bytes ≤ last.limit)
split_limits [] last [] bytes h = (tt, h.0)
split_limits [] last (input ∷ []) bytes h = absurd h.1
split_limits [] last (input ∷ other ∷ inputs) bytes h = absurd h.1
split_limits (file ∷ files) last [] bytes h = absurd (none_left files last h.1)
split_limits (file ∷ files) last (input ∷ inputs) bytes h = let rest = split_limits files last inputs bytes h.1 in ((h.0, rest.0), rest.1)

-- the files of a command
pub listing_limits : (command : Command) (source : Source) (inputs : List (List ℕ)) → command ≡ Listing source → FitLimits (files_of command) inputs → FitLimits (source_files source) inputs
listing_limits command source inputs is h = subst (λ (c : Command). FitLimits (files_of c) inputs) is h

pub generating_limits : (command : Command) (source : Source) (inputs : List (List ℕ)) → command ≡ Generating source → FitLimits (files_of command) inputs → FitLimits (source_files source) inputs
generating_limits command source inputs is h = subst (λ (c : Command). FitLimits (files_of c) inputs) is h

pub running_limits : (command : Command) (source : Source) (run : Run) (inputs files : List (List ℕ)) (script : List ℕ) → command ≡ Running source run → inputs ≡ files ++ script ∷ [] → FitLimits (files_of command) inputs
    → FitLimits (source_files source) files × (length script ≤ 67108864)
running_limits command source run inputs files script is are h =
    split_limits (source_files source) (script_file run) files script
    (subst (λ (all : List (List ℕ)). FitLimits (run_files source run) all) are (subst (λ (c : Command). FitLimits (files_of c) inputs) is h))

-- the inputs are all but the last, and the last
pub last_input : (inputs : List (List ℕ)) (one : List ℕ) → 1 ≤ length inputs → one ≡ slice_index_or inputs (length inputs - 1) one → inputs ≡ take (length inputs - 1) inputs ++ one ∷ []
last_input inputs one some is =
    let whole : take (length inputs - 1 + 1) inputs ≡ inputs = take_all (length inputs - 1 + 1) inputs (omega (arith, some)) in
    sym whole ∙ take_more inputs (length inputs - 1) one (omega (arith, some)) ∙ ap (λ (input : List ℕ). take (length inputs - 1) inputs ++ input ∷ []) (sym is)

-- ---- answers

these : (one other : SourceBytes) → Some one ≡ Some other → one ≡ other
these one other is = cc is

pub decides_source : (made : Resolution → Answer) (source : Source) (inputs : List (List ℕ)) (given : SourceBytes) → bytes_from source inputs ≡ Some given
    → (answer : Answer) → AnswersSource made given answer → DecidesSource made source inputs answer
decides_source made source [] given is answer h = absurd (cc is)
decides_source made source (svd ∷ []) given is answer h = subst (λ (from : SourceBytes). AnswersSource made from answer) (sym (these (bytes_of source svd None) given is)) h
decides_source made source (svd ∷ patch ∷ []) given is answer h = subst (λ (from : SourceBytes). AnswersSource made from answer) (sym (these (bytes_of source svd (Some patch)) given is)) h
decides_source made source (svd ∷ patch ∷ next ∷ inputs) given is answer h = absurd (cc is)

decides_with : (source : Source) (files : List (List ℕ)) (script : List ℕ) (given : SourceBytes) → bytes_from source files ≡ Some given
    → (answer : Answer) → AnswersRun given script answer → DecidesRun source (files ++ script ∷ []) answer
decides_with source [] script given is answer h = absurd (cc is)
decides_with source (svd ∷ []) script given is answer h = subst (λ (from : SourceBytes). AnswersRun from script answer) (sym (these (bytes_of source svd None) given is)) h
decides_with source (svd ∷ patch ∷ []) script given is answer h = subst (λ (from : SourceBytes). AnswersRun from script answer) (sym (these (bytes_of source svd (Some patch)) given is)) h
decides_with source (svd ∷ patch ∷ next ∷ files) script given is answer h = absurd (cc is)

pub decides_run : (source : Source) (inputs files : List (List ℕ)) (script : List ℕ) (given : SourceBytes) → inputs ≡ files ++ script ∷ [] → bytes_from source files ≡ Some given
    → (answer : Answer) → AnswersRun given script answer → DecidesRun source inputs answer
decides_run source inputs files script given are is answer h = subst (λ (all : List (List ℕ)). DecidesRun source all answer) (sym are) (decides_with source files script given is answer h)

-- ---- commands

-- listing a description is what the command decides
pub has_listed : {T : Type 0} (command : Command) (source : Source) (inputs : List (List ℕ)) (given : SourceBytes) (before after : Paper) (old new : List Slot) (result : Result T PacFault) → command ≡ Listing source
    → bytes_from source inputs ≡ Some given → Does (AnswersSource listed given) (alone before) (alone after) result
    → Does (Decides command inputs) (desk before (lent_for (bus_of command) old)) (desk after (lent_for (bus_of command) new)) result
has_listed command source inputs given before after old new result is from h =
    subst (λ (c : Command). Does (Decides c inputs) (desk before (lent_for (bus_of c) old)) (desk after (lent_for (bus_of c) new)) result) (sym is)
    (does_otherwise (AnswersSource listed given) (DecidesSource listed source inputs) (decides_source listed source inputs given from) (alone before) (alone after) result h)

-- and generating its crate text
pub has_generated : {T : Type 0} (command : Command) (source : Source) (inputs : List (List ℕ)) (given : SourceBytes) (before after : Paper) (old new : List Slot) (result : Result T PacFault) → command ≡ Generating source
    → bytes_from source inputs ≡ Some given → Does (AnswersSource generated given) (alone before) (alone after) result
    → Does (Decides command inputs) (desk before (lent_for (bus_of command) old)) (desk after (lent_for (bus_of command) new)) result
has_generated command source inputs given before after old new result is from h =
    subst (λ (c : Command). Does (Decides c inputs) (desk before (lent_for (bus_of c) old)) (desk after (lent_for (bus_of c) new)) result) (sym is)
    (does_otherwise (AnswersSource generated given) (DecidesSource generated source inputs) (decides_source generated source inputs given from) (alone before) (alone after) result h)

writes_from : (source : Source) (inputs : List (List ℕ)) (given : SourceBytes) (old new : Option (List ℕ)) → bytes_from source inputs ≡ Some given → WritesTextFor given old new → WritesText (Generating source) inputs old new
writes_from source [] given old new is h = absurd (cc is)
writes_from source (svd ∷ []) given old new is h = subst (λ (from : SourceBytes). WritesTextFor from old new) (sym (these (bytes_of source svd None) given is)) h
writes_from source (svd ∷ patch ∷ []) given old new is h = subst (λ (from : SourceBytes). WritesTextFor from old new) (sym (these (bytes_of source svd (Some patch)) given is)) h
writes_from source (svd ∷ patch ∷ next ∷ inputs) given old new is h = absurd (cc is)

-- the text that was written is that of the command
pub has_written : {T : Type 0} (command : Command) (source : Source) (inputs : List (List ℕ)) (given : SourceBytes) (old new : Option (List ℕ)) (result : Result T PacFault) → command ≡ Generating source
    → bytes_from source inputs ≡ Some given → IfOk result (λ _. WritesTextFor given old new) → IfOk result (λ _. WritesText command inputs old new)
has_written command source inputs given old new result is from h =
    IfOk-weaker result (λ _. WritesTextFor given old new) (λ _. WritesText command inputs old new)
    (λ _ writes. subst (λ (c : Command). WritesText c inputs old new) (sym is) (writes_from source inputs given old new from writes)) h
