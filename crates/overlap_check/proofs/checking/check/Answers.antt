-- No fault is found where there is none; what is found is the first.
use Rattle.std.proofs.Common.{sym, ap, ◌∙◌}
use Rattle.overlap_check.specs.declared.fault.Policy.TheVariants.{Loose}
use Rattle.overlap_check.specs.Ruled.{first_fault_of}
use Rattle.overlap_check.proofs.FirstFault.{faultless, is-first, found-first, less-asked, none-asked}
use Rattle.svd_model.specs.Trees.{device_rows}
use Rattle.overlap_check.proofs.checking.check.Goals as goal

pub new-requires : goal.new-requires
new-requires c = record {
  unfolded = c.into_device.ensures.fact;
  faultless =
      faultless (device_rows c.into_device.result)
      (less-asked c.args.policy c.device.result.now (sym c.in-Ok-None.field-0-is ∙ c.in-Ok-None.ensures) ∙ found-first Loose c.device.result.now c.device.ensures.fact ∙ ap (first_fault_of Loose) (c.device.ensures.rows ∙ sym c.into_device.ensures.rows));
}

pub returns-in-Ok-None-clause-asked : goal.returns-in-Ok-None-clause-asked
returns-in-Ok-None-clause-asked c =
    none-asked c.args.policy c.new.result
    (sym c.in-Ok-None.field-0-is ∙ c.in-Ok-None.ensures ∙ found-first c.args.policy c.device.result.now c.device.ensures.fact ∙ ap (first_fault_of c.args.policy) (c.device.ensures.rows ∙ sym c.into_device.ensures.rows ∙ sym c.new.ensures))

pub returns-in-Ok-Some-clause-fault : goal.returns-in-Ok-Some-clause-fault
returns-in-Ok-Some-clause-fault c =
    is-first c.args.policy c.args.state c.in-Ok-Some.fault
    (sym c.in-Ok-Some.field-0-is ∙ c.in-Ok-Some.ensures ∙ found-first c.args.policy c.device.result.now c.device.ensures.fact ∙ ap (first_fault_of c.args.policy) c.device.ensures.rows)
