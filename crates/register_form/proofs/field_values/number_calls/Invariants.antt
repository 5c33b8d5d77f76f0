use Rattle.std.proofs.Common.{◌≡◌, take}
use Rattle.register_form.proofs.field_values.number_calls.Given as goal

abbrev pub invariant-loop-call : goal.invariant-loop-call
invariant-loop-call l = l.copied ≡ take l.call-index l.calls
