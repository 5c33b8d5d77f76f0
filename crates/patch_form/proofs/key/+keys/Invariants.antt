use Rattle.patch_form.proofs.Finding.{Past}
use Rattle.patch_form.proofs.Keys.{keys_from, additions_from}
use Rattle.patch_form.proofs.key.+keys.Given as goal

abbrev pub invariant-addition_faults-loop-entry : goal.invariant-addition_faults-loop-entry
invariant-addition_faults-loop-entry l = Past (additions_from l.entries 0) (additions_from l.entries l.entry-index) l.found

abbrev pub invariant-key_faults-loop-entry : goal.invariant-key_faults-loop-entry
invariant-key_faults-loop-entry l = Past (keys_from l.entries 0) (keys_from l.entries l.entry-index) l.found
