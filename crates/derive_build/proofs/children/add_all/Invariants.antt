-- What is added, and what the rest comes to; and the names that were passed.
use Rattle.std.proofs.Common.{◌≡◌, ◌++◌, ℕ, List, [], take, drop}
use Rattle.derive_build.specs.Children.{children_of, HoldsNames}
use Rattle.derived_rows.specs.Merging.{added}
use Rattle.derive_build.proofs.children.add_all.Given as goal

abbrev pub invariant-loop-child : goal.invariant-loop-child
invariant-loop-child l = record {
  made : (theirs : List ℕ) → HoldsNames (children_of l.owns theirs) l.source → children_of l.owns l.made.items ++ added (children_of l.owns (take l.child-index l.own)) (children_of l.owns theirs) (children_of l.owns (drop l.child-index l.own)) ≡ children_of l.owns l.fn.made.items ++ added [] (children_of l.owns theirs) (children_of l.owns l.own);
  passed : HoldsNames (children_of l.owns (take l.child-index l.own)) l.passed;
}
