use Rattle.std.proofs.Common.{subst, sym, Option, ◌∙◌}
use Rattle.svd_reader.proofs.OneDescription.{one_description_lem}
use Rattle.pac_fault.specs.declared.fault.PacFault.{PacFault}
use Rattle.pac_cli.specs.Buses.{slots_of}
use Rattle.pac_cli.specs.Standing.{Stands}
use Rattle.pac_inputs.specs.Shelves.{shelf}
use Rattle.pac_cli.specs.Worlds.{paper, world}
use Rattle.pac_cli.proofs.Doing.{where_none}
use Rattle.pac_cli.proofs.OneAnswer.{complete}
use Rattle.pac_cli.proofs.run.run_pac.Goals as goal

pub returns-clause-complete : goal.returns-clause-complete
returns-clause-complete g c =
    let old = world (shelf (g.F.Files.told c.args.files.now) (g.F.Files.asked c.args.files.now) (g.F.Files.faults c.args.files.now)) (paper (g.S.Sink.written c.args.out.now) (g.S.Sink.faults c.args.out.now)) (slots_of g.B.Bus.told c.args.buses.now.items) in
    let new = world (shelf (g.F.Files.told c.answer.new.files) (g.F.Files.asked c.answer.new.files) (g.F.Files.faults c.answer.new.files)) (paper (g.S.Sink.written c.answer.new.out) (g.S.Sink.faults c.answer.new.out)) (slots_of g.B.Bus.told c.answer.new.buses.items) in
    complete one_description_lem c.args.words.now old new c.err-fault.result (subst (λ (found : Option PacFault). Stands c.args.words.now old new found) (sym c.err-fault.ensures.value) c.answer.ensures.stands)

pub returns-clause-headline : goal.returns-clause-headline
returns-clause-headline g c = λ none. where_none c.answer.result (sym c.err-fault.ensures.value ∙ none) c.answer.ensures.headline
