-- Each element has a name where those that are left have one.
use Rattle.std.specs.List.{AllByRecursion}
use Rattle.crate_form.specs.Elements.{HasName}
use Rattle.crate_form.proofs.register.some_names.Given as goal

abbrev pub invariant-loop-key : goal.invariant-loop-key
invariant-loop-key l = AllByRecursion HasName l.key-iterator → AllByRecursion HasName l.elements.entries
