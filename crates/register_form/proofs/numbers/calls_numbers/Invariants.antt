use Rattle.std.proofs.Common.{drop}
use Rattle.std.specs.List.{AllByRecursion}
use Rattle.register_form.specs.Numbers.{CallIsNumbered}
use Rattle.register_form.proofs.numbers.calls_numbers.Given as goal

abbrev pub invariant-loop-call : goal.invariant-loop-call
invariant-loop-call l = AllByRecursion CallIsNumbered (drop l.call-index l.calls) → AllByRecursion CallIsNumbered l.calls
