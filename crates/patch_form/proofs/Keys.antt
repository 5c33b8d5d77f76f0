-- What the keys of an element are held to, key by key.
use Rattle.std.proofs.Common.{◌≡◌, ◌<◌, ◌≤◌, ℕ, ◌+◌, List, [], ◌++◌, Option, Some, None, map, length, drop, get_or, refl, sym, ap, ◌∙◌}
use Rattle.std.proofs.lemmas.List.{drop_all}
use Rattle.yaml_block.proofs.Places.{from_place}
use Rattle.yaml_block.specs.declared.node.Node.{Node}
use Rattle.yaml_block.specs.Nodes.{entry_under, node_tree}
use Rattle.yaml_block.specs.Trees.{Tree, entries_of, nothing, scalar, list, mapping}
use Rattle.patch_form.specs.declared.fault.FaultKind.TheVariants.{UnknownKey, BadValue}
use Rattle.patch_form.specs.declared.form.Form.{Form}
use Rattle.patch_form.specs.declared.form.Form.TheVariants.{Name}
use Rattle.patch_form.specs.declared.form.KeyKind.{KeyKind}
use Rattle.patch_form.specs.declared.form.KeyKind.TheVariants.{Used, Children, PassedOver}
use Rattle.patch_form.specs.Demands.{Demand, addition_demands, each_key, element_demands, key_demands, never, of_form, one, value_of_form}
use Rattle.patch_form.specs.Words.{key_kind}

pub unknown : (kind : Option KeyKind) (line : ℕ) (tree : Tree) → kind ≡ None → one line UnknownKey never ≡ key_demands kind line tree
unknown kind line tree is = by_tree tree ∙ ap (λ k. key_demands k line tree) (sym is)
  where
    by_tree : (t : Tree) → one line UnknownKey never ≡ key_demands None line t
    by_tree nothing = refl
    by_tree (scalar text) = refl
    by_tree (list items) = refl
    by_tree (mapping named) = refl

pub passed : (kind : Option KeyKind) (line : ℕ) (tree : Tree) → kind ≡ Some PassedOver → [] ≡ key_demands kind line tree
passed kind line tree is = by_tree tree ∙ ap (λ k. key_demands k line tree) (sym is)
  where
    by_tree : (t : Tree) → [] ≡ key_demands (Some PassedOver) line t
    by_tree nothing = refl
    by_tree (scalar text) = refl
    by_tree (list items) = refl
    by_tree (mapping named) = refl

pub used : (kind : Option KeyKind) (form : Form) (line : ℕ) (tree : Tree) → kind ≡ Some (Used form) → value_of_form line form tree ≡ key_demands kind line tree
used kind form line tree is = by_tree tree ∙ ap (λ k. key_demands k line tree) (sym is)
  where
    by_tree : (t : Tree) → value_of_form line form t ≡ key_demands (Some (Used form)) line t
    by_tree nothing = refl
    by_tree (scalar text) = refl
    by_tree (list items) = refl
    by_tree (mapping named) = refl

-- what a value with children is, with the kind and the tree apart
pub children : (kind : Option KeyKind) (line : ℕ) (tree other : Tree) → kind ≡ Some Children → tree ≡ other → key_demands (Some Children) line other ≡ key_demands kind line tree
children kind line tree other is same = λ i. key_demands (sym is i) line (sym same i)

-- ---- the keys from a place on

abbrev pub keys_from : List (ℕ × List ℕ × Node) → ℕ → List Demand
keys_from named i = each_key (entries_of (map entry_under (drop i named)))

abbrev pub additions_from : List (ℕ × List ℕ × Node) → ℕ → List Demand
additions_from named i = addition_demands (entries_of (map entry_under (drop i named)))

module _ (named : List (ℕ × List ℕ × Node)) (i : ℕ) where
  pub keys-done : length named ≤ i → keys_from named i ≡ []
  keys-done past = ap (λ (rest : List (ℕ × List ℕ × Node)). each_key (entries_of (map entry_under rest))) (drop_all i named past)

  pub additions-done : length named ≤ i → additions_from named i ≡ []
  additions-done past = ap (λ (rest : List (ℕ × List ℕ × Node)). addition_demands (entries_of (map entry_under rest))) (drop_all i named past)

  pub keys-here : (entry : ℕ × List ℕ × Node) → i < length named → entry ≡ get_or named i entry → keys_from named i ≡ key_demands (key_kind entry.1) entry.0 (node_tree entry.2) ++ keys_from named (i + 1)
  keys-here entry within is = ap (λ (rest : List (ℕ × List ℕ × Node)). each_key (entries_of (map entry_under rest))) (from_place named i entry within is)

  pub additions-here : (entry : ℕ × List ℕ × Node) → i < length named → entry ≡ get_or named i entry → additions_from named i ≡ (one entry.0 BadValue (of_form Name entry.1) ++ element_demands entry.0 (node_tree entry.2)) ++ additions_from named (i + 1)
  additions-here entry within is = ap (λ (rest : List (ℕ × List ℕ × Node)). addition_demands (entries_of (map entry_under rest))) (from_place named i entry within is)
