use Rattle.std.proofs.Common.{ℕ, List, ap, sym, ◌∙◌, subst}
use Rattle.std.proofs.lemmas.Result.{IfOk-weaker, err_from_is_err_and}
use Rattle.pac_cli.specs.Headline.{WordsHaveText, WritesText}
use Rattle.pac_cli.proofs.Doing.{has_text}
use Rattle.pac_words.specs.Commands.{command_of}
use Rattle.pac_fault.specs.Classes.{class_of}
use Rattle.pac_inputs.specs.Reads.{GathersAll, GathersNot}
use Rattle.pac_inputs.specs.Shelves.{shelf}
use Rattle.pac_inputs.specs.declared.gathering.Wanted.{Wanted}
use Rattle.pac_cli.specs.Answers.{Decides}
use Rattle.pac_cli.specs.Buses.{bus_asked, bus_of, kinds_of, lent_for, missing_kind, slots_of}
use Rattle.pac_cli.proofs.Slots.{none_changes}
use Rattle.pac_cli.specs.Stages.{Does}
use Rattle.pac_cli.specs.Worlds.{desk, paper, world}
use Rattle.pac_cli.proofs.Standing.{no_bus_lent, no_memory_yet, no_numbers, not_commanded, not_gathered, others_of, performed}
use Rattle.pac_cli.proofs.run.answer.Goals as goal

pub returns-in_err-command-clause-others : goal.returns-in_err-command-clause-others
returns-in_err-command-clause-others g c = none_changes (bus_asked (command_of c.args.words.now)) (slots_of g.B.Bus.told c.args.buses.now.items)

pub returns-in_err-check_numbers-clause-others : goal.returns-in_err-check_numbers-clause-others
returns-in_err-check_numbers-clause-others g c = none_changes (bus_asked (command_of c.args.words.now)) (slots_of g.B.Bus.told c.args.buses.now.items)

pub returns-in_err-find_bus-clause-others : goal.returns-in_err-find_bus-clause-others
returns-in_err-find_bus-clause-others g c = none_changes (bus_asked (command_of c.args.words.now)) (slots_of g.B.Bus.told c.args.buses.now.items)

pub returns-in_err-wanted-clause-others : goal.returns-in_err-wanted-clause-others
returns-in_err-wanted-clause-others g c = none_changes (bus_asked (command_of c.args.words.now)) (slots_of g.B.Bus.told c.args.buses.now.items)

pub returns-in_err-inputs-clause-others : goal.returns-in_err-inputs-clause-others
returns-in_err-inputs-clause-others g c = none_changes (bus_asked (command_of c.args.words.now)) (slots_of g.B.Bus.told c.args.buses.now.items)

pub returns-in_err-command-clause-stands : goal.returns-in_err-command-clause-stands
returns-in_err-command-clause-stands g c =
    let p = err_from_is_err_and c.from_residual.result c.from_residual.ensures.1 in
    rw (p.1, p.2) (not_commanded c.args.words.now
    (world (shelf (g.F.Files.told c.args.files.now) (g.F.Files.asked c.args.files.now) (g.F.Files.faults c.args.files.now)) (paper (g.S.Sink.written c.args.out.now) (g.S.Sink.faults c.args.out.now)) (slots_of g.B.Bus.told c.args.buses.now.items))
    c.in_err-command.field-0.0 c.in_err-command.ensures)

pub returns-in_err-wanted-clause-stands : goal.returns-in_err-wanted-clause-stands
returns-in_err-wanted-clause-stands g c =
    let p = err_from_is_err_and c.from_residual-in_err-wanted.result c.from_residual-in_err-wanted.ensures.1 in
    rw (p.1, p.2) (no_memory_yet c.args.words.now
    (world (shelf (g.F.Files.told c.args.files.now) (g.F.Files.asked c.args.files.now) (g.F.Files.faults c.args.files.now)) (paper (g.S.Sink.written c.args.out.now) (g.S.Sink.faults c.args.out.now)) (slots_of g.B.Bus.told c.args.buses.now.items)))

pub returns-in_err-check_numbers-clause-stands : goal.returns-in_err-check_numbers-clause-stands
returns-in_err-check_numbers-clause-stands g c =
    let p = err_from_is_err_and c.from_residual-in_err-check_numbers.result c.from_residual-in_err-check_numbers.ensures.1 in
    rw (p.1, p.2) (no_numbers c.args.words.now c.in_ok-command.command c.in_ok-command.ensures
    (world (shelf (g.F.Files.told c.args.files.now) (g.F.Files.asked c.args.files.now) (g.F.Files.faults c.args.files.now)) (paper (g.S.Sink.written c.args.out.now) (g.S.Sink.faults c.args.out.now)) (slots_of g.B.Bus.told c.args.buses.now.items))
    c.in_err-check_numbers.field-0.0 c.in_err-check_numbers.ensures.0 c.in_err-check_numbers.ensures.1)

pub returns-in_err-find_bus-clause-stands : goal.returns-in_err-find_bus-clause-stands
returns-in_err-find_bus-clause-stands g c =
    let p = err_from_is_err_and c.from_residual-in_err-find_bus.result c.from_residual-in_err-find_bus.ensures.1 in
    let now = world (shelf (g.F.Files.told c.args.files.now) (g.F.Files.asked c.args.files.now) (g.F.Files.faults c.args.files.now))
    (paper (g.S.Sink.written c.args.out.now) (g.S.Sink.faults c.args.out.now)) (slots_of g.B.Bus.told c.args.buses.now.items) in
    let missing = ap (λ (all : List _). missing_kind (bus_of c.in_ok-command.command) (kinds_of (slots_of g.B.Bus.told all))) (sym c.as_slice.ensures.value) in
    rw (p.1, p.2) (no_bus_lent c.args.words.now c.in_ok-command.command c.in_ok-command.ensures c.in_ok-check_numbers.ensures now c.in_err-find_bus.field-0.0 c.in_err-find_bus.ensures.0 (missing ∙ c.in_err-find_bus.ensures.1) c.in_err-find_bus.ensures.2)

pub returns-in_err-inputs-clause-stands : goal.returns-in_err-inputs-clause-stands
returns-in_err-inputs-clause-stands g c =
    let p = err_from_is_err_and c.from_residual-in_err-inputs.result c.from_residual-in_err-inputs.ensures.1 in
    let old = shelf (g.F.Files.told c.args.files.now) (g.F.Files.asked c.args.files.now) (g.F.Files.faults c.args.files.now) in
    let new = shelf (g.F.Files.told c.gather.new.files) (g.F.Files.asked c.gather.new.files) (g.F.Files.faults c.gather.new.files) in
    rw (p.1, p.2) (not_gathered c.args.words.now c.in_ok-command.command c.in_ok-command.ensures (slots_of g.B.Bus.told c.args.buses.now.items) c.in_ok-check_numbers.ensures
    (ap (λ (all : List _). missing_kind (bus_of c.in_ok-command.command) (kinds_of (slots_of g.B.Bus.told all))) (sym c.as_slice.ensures.value) ∙ c.in_ok-find_bus.ensures)
    old new (paper (g.S.Sink.written c.args.out.now) (g.S.Sink.faults c.args.out.now)) c.in_err-inputs.field-0.0
    (subst (λ (files : List Wanted). GathersNot (class_of c.in_err-inputs.field-0.0) files old new c.in_err-inputs.field-0.0) c.in_ok-wanted.ensures c.in_err-inputs.ensures))

pub returns-clause-stands : goal.returns-clause-stands
returns-clause-stands g c =
    let old = shelf (g.F.Files.told c.args.files.now) (g.F.Files.asked c.args.files.now) (g.F.Files.faults c.args.files.now) in
    let new = shelf (g.F.Files.told c.gather.new.files) (g.F.Files.asked c.gather.new.files) (g.F.Files.faults c.gather.new.files) in
    let before = paper (g.S.Sink.written c.args.out.now) (g.S.Sink.faults c.args.out.now) in
    let after = paper (g.S.Sink.written c.perform.new.out) (g.S.Sink.faults c.perform.new.out) in
    let slots = slots_of g.B.Bus.told c.args.buses.now.items in
    let later = slots_of g.B.Bus.told c.perform.new.buses.items in
    let bus = bus_of c.in_ok-command.command in
    performed c.args.words.now c.in_ok-command.command c.in_ok-command.ensures slots c.in_ok-check_numbers.ensures
    (ap (λ (all : List _). missing_kind bus (kinds_of (slots_of g.B.Bus.told all))) (sym c.as_slice.ensures.value) ∙ c.in_ok-find_bus.ensures) c.in_ok-inputs.inputs old new
    (subst (λ (files : List Wanted). GathersAll files c.in_ok-inputs.inputs old new) c.in_ok-wanted.ensures c.in_ok-inputs.ensures)
    before after later c.perform.result
    (subst (λ (inputs : List (List ℕ)). Does (Decides c.in_ok-command.command inputs) (desk before (lent_for bus slots)) (desk after (lent_for bus later)) c.perform.result)
    c.as_slice-2.ensures c.perform.ensures.does)

pub returns-clause-others : goal.returns-clause-others
returns-clause-others g c = others_of c.args.words.now c.in_ok-command.command c.in_ok-command.ensures (slots_of g.B.Bus.told c.args.buses.now.items) (slots_of g.B.Bus.told c.perform.new.buses.items) c.perform.ensures.others

pub returns-clause-headline : goal.returns-clause-headline
returns-clause-headline g c =
    let told = g.F.Files.told c.args.files.now in
    let new = shelf (g.F.Files.told c.gather.new.files) (g.F.Files.asked c.gather.new.files) (g.F.Files.faults c.gather.new.files) in
    let old = shelf told (g.F.Files.asked c.args.files.now) (g.F.Files.faults c.args.files.now) in
    let before = g.S.Sink.written c.args.out.now in
    let after = g.S.Sink.written c.perform.new.out in
    let gathered = subst (λ (files : List Wanted). GathersAll files c.in_ok-inputs.inputs old new) c.in_ok-wanted.ensures c.in_ok-inputs.ensures in
    IfOk-weaker c.perform.result (λ _. WritesText c.in_ok-command.command c.as_slice-2.result.now before after) (λ _. WordsHaveText (command_of c.args.words.now) told before after)
    (λ _ writes. has_text c.args.words.now c.in_ok-command.command told c.in_ok-inputs.inputs before after c.in_ok-command.ensures gathered.gathered
    (subst (λ (inputs : List (List ℕ)). WritesText c.in_ok-command.command inputs before after) c.as_slice-2.ensures writes))
    c.perform.ensures.headline

pub perform-requires-clause-lent : goal.perform-requires-clause-lent
perform-requires-clause-lent g c =
    ap (λ (all : List _). missing_kind (bus_of c.in_ok-command.command) (kinds_of (slots_of g.B.Bus.told all))) (sym c.as_slice.ensures.value) ∙ c.in_ok-find_bus.ensures
