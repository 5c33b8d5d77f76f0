use Rattle.std.proofs.Common.{◌≡◌, take}
use Rattle.std.proofs.Common.{map}
use Rattle.register_form.specs.Fields.{truth_call_of}
use Rattle.register_form.proofs.field_values.truth_calls.Given as goal

abbrev pub invariant-loop-call : goal.invariant-loop-call
invariant-loop-call l = l.made ≡ map truth_call_of (take l.call-index l.calls)
