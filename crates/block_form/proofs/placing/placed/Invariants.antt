use Rattle.std.proofs.Common.{◌≤◌, drop, map}
use Rattle.std.specs.List.{AllByRecursion}
use Rattle.block_form.specs.Children.{IsSound}
use Rattle.block_form.specs.Fields.{taken_from}
use Rattle.block_form.specs.Placings.{IsPart}
use Rattle.block_form.proofs.placing.placed.Given as goal

abbrev pub invariant-loop-child : goal.invariant-loop-child
invariant-loop-child l = record {
  part : IsPart l.placing (taken_from l.placing.end (map (λ child. child.now) (drop l.child-index l.child-items))) (taken_from 0 (map (λ child. child.now) l.child-items));
  sound : AllByRecursion IsSound (map (λ child. child.now) (drop l.child-index l.child-items));
  few : l.placing.gaps ≤ l.child-index;
}
