-- The entries from a place on, whatever is asked of them.
use Rattle.std.proofs.Common.{◌≡◌, ◌<◌, ◌≤◌, ℕ, ◌+◌, List, [], ◌++◌, map, length, drop, get_or, sym, ap, ◌∙◌, append_assoc, append-nil}
use Rattle.std.proofs.lemmas.List.{drop_all}
use Rattle.yaml_block.proofs.Places.{from_place}
use Rattle.yaml_block.specs.declared.node.Node.{Node}
use Rattle.yaml_block.specs.Nodes.{entry_under, item_under, node_tree}
use Rattle.yaml_block.specs.Trees.{EntryTrees, ItemTrees, entries_of, items_of, entry, item, no_entries, no_items}

abbrev pub from : {X : Type 0} → (EntryTrees → X) → List (ℕ × List ℕ × Node) → ℕ → X
from ask named i = ask (entries_of (map entry_under (drop i named)))

abbrev pub items_from : {X : Type 0} → (ItemTrees → X) → List (ℕ × Node) → ℕ → X
items_from ask items i = ask (items_of (map item_under (drop i items)))

module _ {X : Type 0} (ask : EntryTrees → X) (named : List (ℕ × List ℕ × Node)) (i : ℕ) where
  pub from-done : length named ≤ i → from ask named i ≡ ask no_entries
  from-done past = ap (λ (rest : List (ℕ × List ℕ × Node)). ask (entries_of (map entry_under rest))) (drop_all i named past)

  pub from-here : (one : ℕ × List ℕ × Node) → i < length named → one ≡ get_or named i one → from ask named i ≡ ask (entry one.0 one.1 (node_tree one.2) (entries_of (map entry_under (drop (i + 1) named))))
  from-here one within is = ap (λ (rest : List (ℕ × List ℕ × Node)). ask (entries_of (map entry_under rest))) (from_place named i one within is)

module _ {X : Type 0} (ask : ItemTrees → X) (items : List (ℕ × Node)) (i : ℕ) where
  pub items-done : length items ≤ i → items_from ask items i ≡ ask no_items
  items-done past = ap (λ (rest : List (ℕ × Node)). ask (items_of (map item_under rest))) (drop_all i items past)

  pub items-here : (one : ℕ × Node) → i < length items → one ≡ get_or items i one → items_from ask items i ≡ ask (item one.0 (node_tree one.1) (items_of (map item_under (drop (i + 1) items))))
  items-here one within is = ap (λ (rest : List (ℕ × Node)). ask (items_of (map item_under rest))) (from_place items i one within is)

-- a list that is made, with what is still to come
pub made-more : {X : Type 0} (made now mine here rest all : List X) → now ≡ made ++ mine → here ≡ mine ++ rest → made ++ here ≡ all → now ++ rest ≡ all
made-more {X} made now mine here rest all more is whole =
    ap (λ (xs : List X). xs ++ rest) more ∙ append_assoc made mine rest ∙ ap (λ (xs : List X). made ++ xs) (sym is) ∙ whole

pub made-done : {X : Type 0} (made rest all : List X) → rest ≡ [] → made ++ rest ≡ all → made ≡ all
made-done {X} made rest all none whole = sym (append-nil made) ∙ ap (λ (xs : List X). made ++ xs) (sym none) ∙ whole
