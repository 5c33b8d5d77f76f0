use Rattle.patch_form.specs.Mappings.{mapping_demands}
use Rattle.patch_form.proofs.Finding.{Past}
use Rattle.patch_form.proofs.FromPlace.{from}
use Rattle.patch_form.proofs.mapping.+mappings.Given as goal

abbrev pub invariant-mapping_fault-loop-entry : goal.invariant-mapping_fault-loop-entry
invariant-mapping_fault-loop-entry l = Past (from (mapping_demands l.device) l.entries 0) (from (mapping_demands l.device) l.entries l.entry-index) l.found
