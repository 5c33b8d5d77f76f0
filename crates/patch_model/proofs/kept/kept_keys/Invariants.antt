use Rattle.std.proofs.Common.{◌≡◌, ◌++◌}
use Rattle.patch_model.specs.Orders.{kept_keys}
use Rattle.patch_form.proofs.FromPlace.{from}
use Rattle.patch_model.proofs.kept.kept_keys.Given as goal

abbrev pub invariant-loop-entry : goal.invariant-loop-entry
invariant-loop-entry l = l.keys ++ from (kept_keys l.purpose) l.entries l.entry-index ≡ from (kept_keys l.purpose) l.entries 0
