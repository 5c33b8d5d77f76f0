-- What is kept, and what the rest comes to; and the names that were passed.
use Rattle.std.proofs.Common.{◌≡◌, ◌++◌, [], take, drop}
use Rattle.derive_build.specs.Children.{children_of, HoldsNames}
use Rattle.derived_rows.specs.Merging.{kept}
use Rattle.derive_build.proofs.children.keep_all.Given as goal

abbrev pub invariant-loop-child : goal.invariant-loop-child
invariant-loop-child l = record {
  made : children_of l.owns l.made.items ++ kept (children_of l.owns (take l.child-index l.source)) (children_of l.owns (drop l.child-index l.source)) (children_of l.owns l.own) ≡ kept [] (children_of l.owns l.source) (children_of l.owns l.own);
  passed : HoldsNames (children_of l.owns (take l.child-index l.source)) l.passed;
}
