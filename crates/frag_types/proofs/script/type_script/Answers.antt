use Rattle.std.proofs.Common.{sym, ap, ◌∙◌, option_map}
use Rattle.frag_sem.proofs.Walking.{faults_by_modules}
use Rattle.frag_sem.specs.PlaceTyping.{module_fault}
use Rattle.frag_tree.specs.Trees.{crate_tree}
use Rattle.frag_types.specs.Lines.{fault_seen}
use Rattle.frag_types.proofs.script.type_script.Goals as goal

pub returns-in-Ok-None-clause-fits : goal.returns-in-Ok-None-clause-fits
returns-in-Ok-None-clause-fits c =
    faults_by_modules (crate_tree c.args.krate.now) c.krate.ensures.fits.distinct_names c.krate.ensures.fits.slot_modules c.args.script
    ∙ (ap (λ krate. module_fault (crate_tree krate) c.args.script) (sym c.krate.ensures.same) ∙ (sym c.in-Ok-None.ensures ∙ ap (option_map fault_seen) c.in-Ok-None.field-0-is))

pub returns-in-Ok-Some-clause-fault : goal.returns-in-Ok-Some-clause-fault
returns-in-Ok-Some-clause-fault c =
    faults_by_modules (crate_tree c.args.krate.now) c.krate.ensures.fits.distinct_names c.krate.ensures.fits.slot_modules c.args.script
    ∙ (ap (λ krate. module_fault (crate_tree krate) c.args.script) (sym c.krate.ensures.same) ∙ (sym c.in-Ok-Some.ensures ∙ ap (option_map fault_seen) c.in-Ok-Some.field-0-is))
