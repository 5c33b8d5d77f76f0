use Rattle.patch_form.specs.Mappings.{word_entries}
use Rattle.patch_form.proofs.Finding.{Past}
use Rattle.patch_form.proofs.FromPlace.{from}
use Rattle.patch_form.proofs.mapping.word_faults.Given as goal

abbrev pub invariant-loop-entry : goal.invariant-loop-entry
invariant-loop-entry l = Past (from (word_entries l.word l.device) l.entries 0) (from (word_entries l.word l.device) l.entries l.entry-index) l.found
