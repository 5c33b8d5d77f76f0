use Rattle.std.proofs.Common.{drop}
use Rattle.std.specs.List.{AllByRecursion}
use Rattle.register_form.specs.Numbers.{FieldIsNumbered}
use Rattle.register_form.proofs.numbers.fields_numbers.Given as goal

abbrev pub invariant-loop-field : goal.invariant-loop-field
invariant-loop-field l = AllByRecursion FieldIsNumbered (drop l.field-index l.fields) → AllByRecursion FieldIsNumbered l.fields
