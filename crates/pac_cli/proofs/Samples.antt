-- A sample: from its run to what was done, and from its two words to what they decide.
use Rattle.std.proofs.Common.{ℕ, ◌≡◌, ◌≤◌, length, List, [], ◌∷◌, Option, Some, None, Result, IfSome, true, refl, sym, ap, ◌∙◌, subst, inl, inr, is_some}
use Rattle.std.specs.Prelude.{◌↔◌}
use Rattle.frag_emit.specs.Standing.{StandsFor}
use Rattle.frag_eval.specs.Preparing.{Prepared, Refused}
use Rattle.frag_eval.specs.Runs.{Ran, Readied, Stopped}
use Rattle.frag_sem.specs.Surfaces.{Surface}
use Rattle.frag_sem.specs.TextSurface.{text_surface}
use Rattle.frag_tree.specs.Trees.{CrateTree, crate_tree}
use Rattle.frag_tree.specs.declared.event.Event.{Event}
use Rattle.frag_tree.specs.declared.krate.Crate.{Crate}
use Rattle.frag_tree.specs.declared.script.Script.{Script}
use Rattle.pac_bus.specs.Telling.{BusTold}
use Rattle.pac_fault.specs.Classes.{class_of}
use Rattle.pac_fault.specs.declared.fault.PacFault.{PacFault}
use Rattle.pac_fault.specs.declared.fault.PacFault.TheVariants.{Memory}
use Rattle.pac_io.proofs.WrittenUpTo.{none_written}
use Rattle.overlap_check.specs.declared.fault.Policy.TheVariants.{Loose}
use Rattle.pac_sample.proofs.Lengths.{script_length, text_length}
use Rattle.pac_sample.specs.Description.{sample_text}
use Rattle.pac_sample.specs.Script.{sample_script}
use Rattle.pac_sample.specs.Summary.{summary}
use Rattle.pac_sample.specs.Wanted.{AreNumbers, IsCount, numbers_given}
use Rattle.svd_model.specs.Keys.{Key}
use Rattle.svd_model.specs.Steps.{Step}
use Rattle.svd_rows.specs.Rows.{Row}
use Rattle.pac_cli.specs.Answers.{Answer, AnswersSample, AnswersScript, Decides, DecidesSample, Plan, does, has_numbers, refused, sample_bytes, table_sum, text_sum, unresolved}
use Rattle.pac_cli.specs.Buses.{OthersStay, Slot, bus_of, lent_for}
use Rattle.pac_cli.specs.Inputs.{files_of}
use Rattle.pac_cli.specs.Resolving.{ComeTo, FitsLimits, SourceBytes, Unresolved, resolved, stopped}
use Rattle.pac_cli.specs.Stages.{Does, DoesNot, MakesAll, MakesFirst}
use Rattle.pac_cli.specs.Worlds.{Paper, desk}
use Rattle.pac_cli.proofs.Scripts.{makes_all, makes_first}
use Rattle.pac_inputs.specs.Gathering.{FitLimits}
use Rattle.pac_words.specs.declared.command.BusKind.TheVariants as bus
use Rattle.pac_words.specs.declared.command.Command.{Command}
use Rattle.pac_words.specs.declared.command.Command.TheVariants.{Sampling}

-- ---- a run that is summed up

module _ (count : ℕ) (krate : Crate) (text : Script) (was ready : BusTold) (of : Readied) (prepared : Prepared was ready krate text of) where
  -- a run that came to its end made all events
  pub sums_all : (now : BusTold) (events : List Event) → Ran ready now of.krate of.script events → MakesAll (text_sum count (crate_tree krate) text) events (Some was) (Some now)
  sums_all now events ran = let all = makes_all krate text was ready of prepared now events ran in record { whole = all.whole; acted = all.acted }

  -- where the bus failed, the first were made
  pub sums_first : (now : BusTold) (done : ℕ) (events : List Event) → Stopped ready now of.krate of.script done events → MakesFirst (text_sum count (crate_tree krate) text) events (Some was) (Some now)
  sums_first now done events broken =
      let made = makes_first krate text was ready of prepared now done events broken in
      record { next = made.next; later = made.later; first = made.first; is_access = made.is_access; broke = made.broke }

-- memory was wanting to prepare it
pub not_summed : (count : ℕ) (krate : Crate) (text back : Script) (was now : BusTold) (decides : Answer → Type 0) (paper : Paper) (fault : PacFault) → fault ≡ Memory
    → decides (does (text_sum count (crate_tree krate) text)) → Refused was now krate text back → DoesNot (class_of fault) decides (desk paper (Some was)) (desk paper (Some now)) fault
not_summed count krate text back was now decides paper fault is decided h =
    subst (λ (f : PacFault). DoesNot (class_of f) decides (desk paper (Some was)) (desk paper (Some now)) f) (sym is) (record {
      told_as = refl;
      count = refl;
      output = inr (record {
        plan = text_sum count (crate_tree krate) text;
        decided = decided;
        events = [];
        makes = inl (record { none = refl; made = h.made; later = h.later; first = h.first; acted = h.preset });
        part = none_written paper.written (summary count []);
      });
    })

-- ---- a description

-- a script does against a crate that stands for rows what it does against their register table
same_sum : (count : ℕ) (rows : List (Row Step Key)) (made : CrateTree) → StandsFor rows made → text_sum count made ≡ table_sum count rows
same_sum count rows made stands = λ i text. record { presets = stands.presets text i; events = λ answers. stands.meaning text answers i; text = summary count; left = λ events. [] }

-- a sample whose description comes to no rows is refused
pub stops_sample : (number count : ℕ) (why : Unresolved) → ComeTo (sample_bytes number count) (stopped why) → AnswersSample number count (refused (unresolved why))
stops_sample number count why comes = record { resolution = stopped why; comes = comes; answered = refl }

-- the answers of the sample's script against its crate are those of the sample
pub answers_sample : (number count : ℕ) (rows : List (Row Step Key)) (made : CrateTree) (answer : Answer) → ComeTo (sample_bytes number count) (resolved rows) → StandsFor rows made
    → AnswersScript (text_surface made) (text_sum count made) (sample_script count) answer → AnswersSample number count answer
answers_sample number count rows made answer comes stands h = record {
  resolution = resolved rows;
  comes = comes;
  answered =
      subst (λ (surface : Surface). AnswersScript surface (table_sum count rows) (sample_script count) answer) stands.surface
      (subst (λ (plan : Script → Plan). AnswersScript (text_surface made) plan (sample_script count) answer) (same_sum count rows made stands) h);
}

-- ---- the words

-- the count that words give is one
pub counted : (number_word count_word : List ℕ) (found : Option (ℕ × ℕ)) → ((n count : ℕ) → (found ≡ Some (n, count)) ↔ AreNumbers number_word count_word n count) → IfSome found (λ numbers. IsCount numbers.1)
counted number_word count_word None exactly = tt
counted number_word count_word (Some numbers) exactly = ((exactly numbers.0 numbers.1).0 refl).is_count.1

-- ---- a command

-- `sample` has no files, so there are no inputs
pub no_inputs : (command : Command) (number count : List ℕ) (inputs : List (List ℕ)) → command ≡ Sampling number count → FitLimits (files_of command) inputs → inputs ≡ []
no_inputs command number count inputs is fit = none inputs (subst (λ (c : Command). FitLimits (files_of c) inputs) is fit)
  where
    none : (inputs : List (List ℕ)) → FitLimits [] inputs → inputs ≡ []
    none [] fit = refl
    none (bytes ∷ inputs) fit = absurd fit

-- words that have numbers give some
pub gives_some : (command : Command) (number count : List ℕ) → command ≡ Sampling number count → has_numbers command ≡ true → is_some (numbers_given number count) ≡ true
gives_some command number count is has = sym (ap has_numbers is) ∙ has

-- a sample of the numbers that the words give is what the command decides
pub sampled : {T : Type 0} (command : Command) (number_word count_word : List ℕ) (inputs : List (List ℕ)) (numbers : ℕ × ℕ) (before after : Paper) (old new : List Slot) (was now : BusTold)
    (result : Result T PacFault) → command ≡ Sampling number_word count_word → inputs ≡ [] → numbers_given number_word count_word ≡ Some numbers
    → lent_for (Some bus.Memory) old ≡ Some was → lent_for (Some bus.Memory) new ≡ Some now
    → Does (AnswersSample numbers.0 numbers.1) (desk before (Some was)) (desk after (Some now)) result
    → Does (Decides command inputs) (desk before (lent_for (bus_of command) old)) (desk after (lent_for (bus_of command) new)) result
sampled command number_word count_word inputs numbers before after old new was now result is none given first last h =
    subst (λ (c : Command). Does (Decides c inputs) (desk before (lent_for (bus_of c) old)) (desk after (lent_for (bus_of c) new)) result) (sym is)
    (subst (λ (all : List (List ℕ)). Does (Decides (Sampling number_word count_word) all) (desk before (lent_for (Some bus.Memory) old)) (desk after (lent_for (Some bus.Memory) new)) result) (sym none)
    (subst (λ (found : Option (ℕ × ℕ)). Does (DecidesSample found []) (desk before (lent_for (Some bus.Memory) old)) (desk after (lent_for (Some bus.Memory) new)) result) (sym given)
    (subst (λ (told : Option BusTold). Does (AnswersSample numbers.0 numbers.1) (desk before told) (desk after (lent_for (Some bus.Memory) new)) result) (sym first)
    (subst (λ (told : Option BusTold). Does (AnswersSample numbers.0 numbers.1) (desk before (Some was)) (desk after told) result) (sym last) h))))

-- and the other lent buses are those of the command
pub others_sampled : (command : Command) (number_word count_word : List ℕ) (old new : List Slot) → command ≡ Sampling number_word count_word → OthersStay (Some bus.Memory) old new → OthersStay (bus_of command) old new
others_sampled command number_word count_word old new is h = subst (λ (c : Command). OthersStay (bus_of c) old new) (sym is) h

-- ---- the bytes of a sample

-- these bytes, without a patch and where no overlaps are asked for
abbrev pub loosely : List ℕ → SourceBytes
loosely svd = record { svd = svd; patch = None; policy = Loose }

-- those that are made of numbers are the sample's, and within the limits
pub made_bytes : (svd : List ℕ) (number count : ℕ) → svd ≡ sample_text number count → loosely svd ≡ sample_bytes number count
made_bytes svd number count is = ap loosely is

pub made_fits : (svd : List ℕ) (number count : ℕ) → IsCount count → svd ≡ sample_text number count → FitsLimits (loosely svd)
made_fits svd number count is made = record { svd = subst (λ (text : List ℕ). length text ≤ 67108864) (sym made) (text_length number count is); patch = tt }

pub script_fits : (script : List ℕ) (count : ℕ) → IsCount count → script ≡ sample_script count → length script ≤ 67108864
script_fits script count is made = subst (λ (text : List ℕ). length text ≤ 67108864) (sym made) (script_length count is)
