use Rattle.std.proofs.Common.{◌≡◌}
use Rattle.patch_form.proofs.Placing.{at_from}
use Rattle.patch_form.proofs.place.at_key.Given as goal

abbrev pub invariant-loop-entry : goal.invariant-loop-entry
invariant-loop-entry l = at_from l.key l.entries l.entry-index ≡ at_from l.key l.entries 0
