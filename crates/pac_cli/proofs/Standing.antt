-- From what each stage of a command leaves to what stands after the call.
use Rattle.std.proofs.Common.{ℕ, ◌≡◌, Bool, true, false, List, [], ◌++◌, Option, Some, None, IfSome, Result, Ok, Err, refl, sym, ap, subst, inl}
use Rattle.std.proofs.lemmas.List.{append-nil}
use Rattle.std.specs.Result.{result_err}
use Rattle.pac_words.specs.Commands.{command_of}
use Rattle.pac_words.specs.declared.command.BusKind.{BusKind}
use Rattle.pac_words.specs.declared.command.Command.{Command}
use Rattle.pac_fault.specs.Classes.{Class, no_memory, bad_words, bad_read, bad_write, bad_bus, long_file, bad_input, class_of}
use Rattle.pac_fault.specs.declared.fault.PacFault.{PacFault}
use Rattle.pac_fault.specs.declared.fault.PacFault.TheVariants.{Memory, Words}
use Rattle.pac_fault.specs.declared.fault.WordsFault.TheVariants.{BadNumber, NoBus}
use Rattle.pac_cli.specs.Answers.{bad_number, no_bus, no_command, file_too_long, Answer, refused, AnswersAsked, AnswersNumbered, AnswersWithout, has_numbers, Decides, DecidesOn, IsAnswer}
use Rattle.pac_cli.specs.Buses.{OthersStay, Slot, bus_asked, bus_of, kinds_of, lent_for, missing_kind}
use Rattle.pac_inputs.specs.Gathering.{FileMap, Gathering, inputs_are, is_too_long, Gathered}
use Rattle.pac_inputs.specs.Reads.{GathersAll, GathersNot}
use Rattle.pac_inputs.specs.Shelves.{Shelf, Asks, AsksSome, AsksUpTo}
use Rattle.pac_inputs.specs.declared.gathering.Wanted.{Wanted}
use Rattle.pac_cli.specs.Inputs.{files_of, wanted_by}
use Rattle.pac_cli.specs.Standing.{Answered, ReadsAll, wanted, StandsIn, Stands}
use Rattle.pac_cli.specs.Stages.{AsksNot, Does, DoesNot, LacksMemoryToDo}
use Rattle.pac_cli.specs.Worlds.{Desk, Paper, World, desk, desk_of, world}
use Rattle.pac_cli.proofs.Doing.{does_otherwise, nothing_done}

asks_none : (old : Option (List (List ℕ))) → IfSome old (λ before. old ≡ Some (before ++ []))
asks_none None = tt
asks_none (Some names) = ap Some (sym (append-nil names))

pub asks_nothing : (now : Shelf) → Asks now now []
asks_nothing now = record { same_files = refl; asked_for = asks_none now.asked }

asks_no_file : (files : List Wanted) (now : Shelf) → AsksSome files now now
asks_no_file files now = record { before = []; later = files; first = refl; asks = asks_nothing now }

-- memory was wanting before anything was done
lacks_yet : (decides : Answer → Type 0) (now : Desk) (fault : PacFault) → fault ≡ Memory → LacksMemoryToDo decides now now fault
lacks_yet decides now fault is = record { told_as = is; count = refl; output = inl (nothing_done now) }

-- the words were refused, or memory was wanting for them
not_asked : (class : Class) (words : List (List ℕ)) (now : World) (fault : PacFault) → AsksNot class words fault → StandsIn class words now now fault
not_asked no_memory words now fault h = record { asks = asks_no_file (wanted words) now.shelf; reads = refl; lacks = lacks_yet (Answered words now) (desk_of words now) fault h }
not_asked bad_words words now fault h = (
  asks_nothing now.shelf,
  record {
    reads = refl;
    refusal = record {
      nothing = nothing_done (desk_of words now);
      cause = no_command;
      decided = subst (λ (asked : Option Command). AnswersAsked asked (kinds_of now.slots) now.shelf.files (refused no_command)) (sym h.0) refl;
      shown = h.1;
    };
  },
)
not_asked (bad_read name) words now fault h = absurd h
not_asked bad_write words now fault h = absurd h
not_asked (bad_bus done) words now fault h = absurd h
not_asked (long_file name limit) words now fault h = absurd h
not_asked bad_input words now fault h = absurd h

pub not_commanded : (words : List (List ℕ)) (now : World) (fault : PacFault) → AsksNot (class_of fault) words fault → Stands words now now (Some fault)
not_commanded words now fault h = not_asked (class_of fault) words now fault h

-- memory was wanting before anything was read
pub no_memory_yet : (words : List (List ℕ)) (now : World) → Stands words now now (Some Memory)
no_memory_yet words now = not_asked no_memory words now Memory refl

-- the command of the words
module _ (words : List (List ℕ)) (command : Command) (taken : command_of words ≡ Some command) where
  the_files : files_of command ≡ wanted words
  the_files = ap wanted_by (sym taken)

  -- what the command has before it is what the words have
  the_desk : (now : World) → desk now.paper (lent_for (bus_of command) now.slots) ≡ desk_of words now
  the_desk now = ap (λ (asked : Option Command). desk now.paper (lent_for (bus_asked asked) now.slots)) (sym taken)

  -- the command hasn't its numbers
  pub no_numbers : (now : World) (fault : PacFault) → has_numbers command ≡ false → fault ≡ Words BadNumber → Stands words now now (Some fault)
  no_numbers now fault has is = subst (λ (f : PacFault). Stands words now now (Some f)) (sym is) (
    asks_nothing now.shelf,
    record {
      reads = refl;
      refusal = record {
        nothing = nothing_done (desk_of words now);
        cause = bad_number;
        decided = subst (λ (asked : Option Command). AnswersAsked asked (kinds_of now.slots) now.shelf.files (refused bad_number)) (sym taken)
            (subst (λ (b : Bool). AnswersNumbered b command (kinds_of now.slots) now.shelf.files (refused bad_number)) (sym has) refl);
        shown = refl;
      };
    },
  )

  -- no bus is lent of the kind that the command wants
  pub no_bus_lent : (numbered : has_numbers command ≡ true) (now : World) (fault : PacFault) (kind : BusKind) → missing_kind (bus_of command) (kinds_of now.slots) ≡ Some kind → fault ≡ Words (NoBus kind)
      → Stands words now now (Some fault)
  no_bus_lent numbered now fault kind missing is = subst (λ (f : PacFault). Stands words now now (Some f)) (sym is) (
    asks_nothing now.shelf,
    record {
      reads = refl;
      refusal = record {
        nothing = nothing_done (desk_of words now);
        cause = no_bus kind;
        decided = subst (λ (asked : Option Command). AnswersAsked asked (kinds_of now.slots) now.shelf.files (refused (no_bus kind))) (sym taken)
            (subst (λ (b : Bool). AnswersNumbered b command (kinds_of now.slots) now.shelf.files (refused (no_bus kind))) (sym numbered)
            (subst (λ (found : Option BusKind). AnswersWithout found command now.shelf.files (refused (no_bus kind))) (sym missing) refl));
        shown = refl;
      };
    },
  )

  -- the other lent buses are those of the command
  pub others_of : (old new : List Slot) → OthersStay (bus_of command) old new → OthersStay (bus_asked (command_of words)) old new
  others_of old new h = subst (λ (asked : Option Command). OthersStay (bus_asked asked) old new) (sym taken) h

  module _ (slots : List Slot) (numbered : has_numbers command ≡ true) (lent : missing_kind (bus_of command) (kinds_of slots) ≡ None) where
    -- the answer to the words is that of their command
    the_answer : (told : Option FileMap) (answer : Answer) (gathering : Gathering) → Gathered told (files_of command) gathering → DecidesOn command gathering answer
        → IsAnswer words (kinds_of slots) told answer
    the_answer told answer gathering gathered decided =
        subst (λ (asked : Option Command). AnswersAsked asked (kinds_of slots) told answer) (sym taken)
        (subst (λ (b : Bool). AnswersNumbered b command (kinds_of slots) told answer) (sym numbered)
        (subst (λ (found : Option BusKind). AnswersWithout found command told answer) (sym lent) (record { gathering = gathering; gathered = gathered; decided = decided })))

    -- the files weren't read
    not_read : (class : Class) (old new : Shelf) (paper : Paper) (fault : PacFault) → GathersNot class (files_of command) old new fault
        → StandsIn class words (world old paper slots) (world new paper slots) fault
    not_read no_memory old new paper fault h = record {
      asks = subst (λ (files : List Wanted). AsksSome files old new) the_files h.asks;
      reads = h.count;
      lacks = lacks_yet (Answered words (world old paper slots)) (desk_of words (world old paper slots)) fault h.told_as;
    }
    not_read bad_words old new paper fault h = absurd h
    not_read (bad_read name) old new paper fault h = record {
      file = h.file;
      named = h.named;
      asks = subst (λ (files : List Wanted). AsksUpTo h.file files old new) the_files h.asks;
      rose = h.rose;
      nothing = nothing_done (desk_of words (world old paper slots));
    }
    not_read bad_write old new paper fault h = absurd h
    not_read (bad_bus done) old new paper fault h = absurd h
    not_read (long_file name limit) old new paper fault h =
        let file : Wanted = record { name = name; limit = limit } in (
          subst (λ (files : List Wanted). AsksUpTo file files old new) the_files h.asks,
          record {
            reads = h.count;
            refusal = record {
              nothing = nothing_done (desk_of words (world old paper slots));
              cause = file_too_long name limit;
              decided = the_answer old.files (refused (file_too_long name limit)) (is_too_long file) h.gathered refl;
              shown = h.told_as;
            };
          },
        )
    not_read bad_input old new paper fault h = absurd h

    pub not_gathered : (old new : Shelf) (paper : Paper) (fault : PacFault) → GathersNot (class_of fault) (files_of command) old new fault
        → Stands words (world old paper slots) (world new paper slots) (Some fault)
    not_gathered old new paper fault h = not_read (class_of fault) old new paper fault h

    -- what is done stands for any command whose files were read
    module _ (inputs : List (List ℕ)) (old new : Shelf) (read : GathersAll (files_of command) inputs old new) where
      asks_all : Asks old new (wanted words)
      asks_all = subst (λ (files : List Wanted). Asks old new files) the_files read.asks

      reads_all : (paper later : Paper) (after : List Slot) → ReadsAll words (world old paper slots) (world new later after)
      reads_all paper later after = record { asks = asks_all; reads = read.count }

      not_done : (class : Class) (paper later : Paper) (after : List Slot) (fault : PacFault)
          → DoesNot class (Answered words (world old paper slots)) (desk_of words (world old paper slots)) (desk_of words (world new later after)) fault
          → StandsIn class words (world old paper slots) (world new later after) fault
      not_done no_memory paper later after fault h = record {
        asks = record { before = wanted words; later = []; first = append-nil (wanted words); asks = asks_all };
        reads = read.count;
        lacks = h;
      }
      not_done bad_words paper later after fault h = absurd h
      not_done (bad_read name) paper later after fault h = absurd h
      not_done bad_write paper later after fault h = (reads_all paper later after, h)
      not_done (bad_bus done) paper later after fault h = (reads_all paper later after, h)
      not_done (long_file name limit) paper later after fault h = absurd h
      not_done bad_input paper later after fault h = (asks_all, record { reads = read.count; refusal = h })

      stands_done : {T : Type 0} (paper later : Paper) (after : List Slot) (result : Result T PacFault)
          → Does (Answered words (world old paper slots)) (desk_of words (world old paper slots)) (desk_of words (world new later after)) result
          → Stands words (world old paper slots) (world new later after) (result_err result)
      stands_done paper later after (Ok value) h = record { read = reads_all paper later after; done = h }
      stands_done paper later after (Err fault) h = not_done (class_of fault) paper later after fault h

      pub performed : {T : Type 0} (paper later : Paper) (after : List Slot) (result : Result T PacFault)
          → Does (Decides command inputs) (desk paper (lent_for (bus_of command) slots)) (desk later (lent_for (bus_of command) after)) result
          → Stands words (world old paper slots) (world new later after) (result_err result)
      performed paper later after result h =
          stands_done paper later after result
          (does_otherwise (Decides command inputs) (Answered words (world old paper slots)) (λ answer decided. the_answer old.files answer (inputs_are inputs) read.gathered decided)
          (desk_of words (world old paper slots)) (desk_of words (world new later after)) result
          (subst (λ (d : Desk). Does (Decides command inputs) d (desk_of words (world new later after)) result) (the_desk (world old paper slots))
          (subst (λ (d : Desk). Does (Decides command inputs) (desk paper (lent_for (bus_of command) slots)) d result) (the_desk (world new later after)) h)))
