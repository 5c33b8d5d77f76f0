-- The fields that are made, and those of the elements and rows that are left, are the fields of all; the names that are left are identifiers.
use Rattle.std.proofs.Common.{◌≡◌, ◌++◌, map}
use Rattle.std.specs.List.{AllByRecursion}
use Rattle.crate_form.specs.Elements.{FieldIsReady, IsMarked, entry_marker}
use Rattle.crate_form.specs.Registers.{marked}
use Rattle.crate_form.proofs.register.fields.Given as goal

abbrev pub invariant-loop-key : goal.invariant-loop-key
invariant-loop-key l = record {
  made : l.made ++ marked (map entry_marker l.key-iterator) l.left ≡ marked (map entry_marker l.elements.entries) l.fn.rows;
  marked : AllByRecursion IsMarked l.key-iterator;
  ready : AllByRecursion FieldIsReady l.left;
}
