-- How much there is in a value: what falls where a pass goes on into a value.
use Rattle.std.proofs.Common.{◌≡◌, ◌<◌, ◌≤◌, ℕ, zero, suc, ◌+◌, List, [], ◌∷◌, map, length, drop, get_or, arith}
use Rattle.yaml_block.specs.declared.node.Node.{Node}
use Rattle.yaml_block.specs.declared.node.Node.TheVariants.{Map}
use Rattle.yaml_block.specs.declared.node.Entries.{Entries, out-Entries}
use Rattle.yaml_block.specs.Nodes.{entry_under, node_tree}
use Rattle.yaml_block.specs.Trees.{Tree, EntryTrees, nothing, scalar, list, mapping, no_entries, entry, entries_of}
use Rattle.patch_form.proofs.Arms.{in_map}
use Rattle.patch_form.proofs.FromPlace.{from-here}

abbrev mutual
  pub weight : Tree → ℕ
  weight nothing = 1
  weight (scalar text) = 1
  weight (list items) = 1
  weight (mapping named) = 1 + weights named

  pub weights : EntryTrees → ℕ
  weights no_entries = 0
  weights (entry line key tree others) = 2 + weight tree + weights others

abbrev pub weights_under : List (ℕ × List ℕ × Node) → ℕ
weights_under named = weights (entries_of (map entry_under named))

weights-drop : (i : ℕ) (named : List (ℕ × List ℕ × Node)) → weights_under (drop i named) ≤ weights_under named
weights-drop zero named = omega arith
weights-drop (suc i) [] = omega arith
weights-drop (suc i) (one ∷ others) = omega (arith, weights-drop i others)

-- what an entry holds is less than all
pub less_at : (named : List (ℕ × List ℕ × Node)) (i : ℕ) (one : ℕ × List ℕ × Node) → i < length named → one ≡ get_or named i one → weight (node_tree one.2) + 1 < weights_under named
less_at named i one within is = omega (arith, from-here weights named i one within is, weights-drop i named)

-- the entries of a mapping are less than it
pub less_inside : (node : Node) (named : Entries) (slice : List (ℕ × List ℕ × Node)) → node ≡ Map named → slice ≡ (out-Entries named).entries.items → weights_under slice < weight (node_tree node)
less_inside node named slice is same = in_map (λ (tree : Tree). weights_under slice < weight tree) node named slice is same (omega arith)
