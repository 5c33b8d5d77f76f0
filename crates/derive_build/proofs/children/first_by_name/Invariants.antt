-- The first children from a place on are in the index.
use Rattle.std.proofs.Common.{◌≡◌, ◌≤◌, ℕ, List, drop, length}
use Rattle.std.specs.Map.{lookup}
use Rattle.std.specs.Str.{bytes_eq}
use Rattle.derive_build.specs.Children.{children_of, first_named}
use Rattle.derive_build.proofs.children.first_by_name.Given as goal

abbrev pub invariant-loop-past : goal.invariant-loop-past
invariant-loop-past l = record {
  inside : l.past ≤ length l.children;
  held : (text : List ℕ) → lookup (bytes_eq text) l.index ≡ first_named (children_of l.owns (drop l.past l.children)) text;
}

abbrev pub decreases-loop-past : goal.decreases-loop-past
decreases-loop-past l = l.past
