use Rattle.std.proofs.Common.{◌≡◌, drop, take}
use Rattle.std.specs.List.{AllByRecursion}
use Rattle.block_form.specs.Forms.{accessors_for, taken_of}
use Rattle.block_form.specs.Numbers.{IsNumbered}
use Rattle.block_form.proofs.form.block_form.Given as goal

abbrev pub invariant-loop-child : goal.invariant-loop-child
invariant-loop-child l = record {
  accessors : l.accessors ≡ accessors_for (taken_of l.children) (take l.child-index l.children);
  numbers : AllByRecursion IsNumbered (drop l.child-index l.children) → AllByRecursion IsNumbered l.children;
}
