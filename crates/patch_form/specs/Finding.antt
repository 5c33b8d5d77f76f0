-- The first fault that was found, against the demands.
use Rattle.std.specs.Prelude.{ℕ, List, Option, Some, None, if◌then◌else◌}
use Rattle.patch_form.specs.declared.fault.Fault.{Fault}
use Rattle.patch_form.specs.Unmet.{AllMet, IsFirstUnmet, is_before}
use Rattle.patch_form.specs.Demands.{Demand, At, absent, present}
use Rattle.std.specs.Borrow.{Bor}
use Rattle.yaml_block.specs.declared.node.Node.{Node}
use Rattle.yaml_block.specs.Nodes.{node_tree}

-- all demands are met, or this is the first that isn't
abbrev pub First : List Demand → Option Fault → Type 0
First demands None = AllMet demands
First demands (Some fault) = IsFirstUnmet demands fault.line fault.kind

abbrev pub earlier_of : Option Fault → Option Fault → Option Fault
earlier_of None other = other
earlier_of (Some fault) None = Some fault
earlier_of (Some fault) (Some other) = if is_before other.line other.kind fault.line fault.kind then Some other else Some fault

-- an entry that was found
abbrev pub at_of : Option (Bor (ℕ × List ℕ × Node)) → At
at_of None = absent
at_of (Some entry) = present entry.now.0 (node_tree entry.now.2)
