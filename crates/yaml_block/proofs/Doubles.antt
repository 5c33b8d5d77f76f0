-- The first key that comes again, entry by entry.
use Rattle.std.proofs.Common.{◌≡◌, ◌<◌, ◌≤◌, ℕ, ◌+◌, Bool, true, false, List, [], ◌∷◌, ◌++◌, Some, None, map, length, drop, get_or, refl, sym, ap, ◌∙◌, not, ◌||◌}
use Rattle.std.specs.List.{list_any}
use Rattle.std.specs.Str.{bytes_eq}
use Rattle.std.proofs.lemmas.List.{drop_all}
use Rattle.yaml_block.specs.declared.node.Node.{Node}
use Rattle.yaml_block.specs.Nesting.{again, doubles_among, doubles_behind, doubles_in, first}
use Rattle.yaml_block.specs.Nodes.{entry_under, item_under, node_tree}
use Rattle.yaml_block.specs.Trees.{entries_of, items_of}
use Rattle.yaml_block.proofs.Places.{from_place}

pub first-none : (xs ys : List ℕ) → first xs ≡ None → first (xs ++ ys) ≡ first ys
first-none [] ys none = refl
first-none (x ∷ xs) ys none = absurd cc

pub first-some : (xs ys : List ℕ) (line : ℕ) → first xs ≡ Some line → first (xs ++ ys) ≡ Some line
first-some [] ys line some = absurd cc
first-some (x ∷ xs) ys line some = some

-- the keys in the items from a place on
abbrev pub among_from : List (ℕ × Node) → ℕ → List ℕ
among_from items i = doubles_among (items_of (map item_under (drop i items)))

among-here : (items : List (ℕ × Node)) (i : ℕ) (item : ℕ × Node) → i < length items → item ≡ get_or items i item → among_from items i ≡ doubles_in (node_tree item.1) ++ among_from items (i + 1)
among-here items i item within is = ap (λ (rest : List (ℕ × Node)). doubles_among (items_of (map item_under rest))) (from_place items i item within is)

pub among-goes_on : (items : List (ℕ × Node)) (i : ℕ) (item : ℕ × Node) → i < length items → item ≡ get_or items i item → first (doubles_in (node_tree item.1)) ≡ None → first (among_from items (i + 1)) ≡ first (among_from items i)
among-goes_on items i item within is none =
    sym (ap first (among-here items i item within is) ∙ first-none (doubles_in (node_tree item.1)) (among_from items (i + 1)) none)

pub among-stops : (items : List (ℕ × Node)) (i : ℕ) (item : ℕ × Node) (line : ℕ) → i < length items → item ≡ get_or items i item → first (doubles_in (node_tree item.1)) ≡ Some line → Some line ≡ first (among_from items i)
among-stops items i item line within is some =
    sym (ap first (among-here items i item within is) ∙ first-some (doubles_in (node_tree item.1)) (among_from items (i + 1)) line some)

pub among-done : (items : List (ℕ × Node)) (i : ℕ) → length items ≤ i → None ≡ first (among_from items i)
among-done items i past = sym (ap (λ (rest : List (ℕ × Node)). first (doubles_among (items_of (map item_under rest)))) (drop_all i items past))

-- the keys in the entries from a place on, where these stood before
abbrev pub behind_from : List (List ℕ) → List (ℕ × List ℕ × Node) → ℕ → List ℕ
behind_from before entries i = doubles_behind before (entries_of (map entry_under (drop i entries)))

behind-here : (before : List (List ℕ)) (entries : List (ℕ × List ℕ × Node)) (i : ℕ) (entry : ℕ × List ℕ × Node) → i < length entries → entry ≡ get_or entries i entry → behind_from before entries i ≡ again before entry.0 entry.1 ++ (doubles_in (node_tree entry.2) ++ behind_from (before ++ entry.1 ∷ []) entries (i + 1))
behind-here before entries i entry within is = ap (λ (rest : List (ℕ × List ℕ × Node)). doubles_behind before (entries_of (map entry_under rest))) (from_place entries i entry within is)

pub behind-again : (before : List (List ℕ)) (entries : List (ℕ × List ℕ × Node)) (i : ℕ) (entry : ℕ × List ℕ × Node) → i < length entries → entry ≡ get_or entries i entry → list_any (bytes_eq entry.1) before ≡ true → Some entry.0 ≡ first (behind_from before entries i)
behind-again before entries i entry within is seen = sym (ap first (behind-here before entries i entry within is) ∙ rw seen refl)

behind-new : (before : List (List ℕ)) (entries : List (ℕ × List ℕ × Node)) (i : ℕ) (entry : ℕ × List ℕ × Node) → i < length entries → entry ≡ get_or entries i entry → list_any (bytes_eq entry.1) before ≡ false → behind_from before entries i ≡ doubles_in (node_tree entry.2) ++ behind_from (before ++ entry.1 ∷ []) entries (i + 1)
behind-new before entries i entry within is fresh = behind-here before entries i entry within is ∙ rw fresh refl

pub behind-stops : (before : List (List ℕ)) (entries : List (ℕ × List ℕ × Node)) (i : ℕ) (entry : ℕ × List ℕ × Node) (line : ℕ) → i < length entries → entry ≡ get_or entries i entry → list_any (bytes_eq entry.1) before ≡ false → first (doubles_in (node_tree entry.2)) ≡ Some line → Some line ≡ first (behind_from before entries i)
behind-stops before entries i entry line within is fresh some =
    sym (ap first (behind-new before entries i entry within is fresh) ∙ first-some (doubles_in (node_tree entry.2)) (behind_from (before ++ entry.1 ∷ []) entries (i + 1)) line some)

pub behind-goes_on : (before after : List (List ℕ)) (entries : List (ℕ × List ℕ × Node)) (i : ℕ) (entry : ℕ × List ℕ × Node) → i < length entries → entry ≡ get_or entries i entry → list_any (bytes_eq entry.1) before ≡ false → after ≡ before ++ entry.1 ∷ [] → first (doubles_in (node_tree entry.2)) ≡ None → first (behind_from after entries (i + 1)) ≡ first (behind_from before entries i)
behind-goes_on before after entries i entry within is fresh more none =
    ap (λ keys. first (behind_from keys entries (i + 1))) more
    ∙ sym (ap first (behind-new before entries i entry within is fresh) ∙ first-none (doubles_in (node_tree entry.2)) (behind_from (before ++ entry.1 ∷ []) entries (i + 1)) none)

pub behind-done : (before : List (List ℕ)) (entries : List (ℕ × List ℕ × Node)) (i : ℕ) → length entries ≤ i → None ≡ first (behind_from before entries i)
behind-done before entries i past = sym (ap (λ (rest : List (ℕ × List ℕ × Node)). first (doubles_behind before (entries_of (map entry_under rest)))) (drop_all i entries past))

-- a key that is not new is among those before, and a new one isn't
pub is_seen : (seen fresh : Bool) → fresh ≡ not seen → fresh ≡ false → seen ≡ true
is_seen true fresh is old = refl
is_seen false fresh is old = absurd cc

pub is_fresh : (seen fresh : Bool) → fresh ≡ not seen → fresh ≡ true → seen ≡ false
is_fresh true fresh is new = absurd cc
is_fresh false fresh is new = refl

pub list_any-map : {A B : Type 0} (test : B → Bool) (of : A → B) (xs : List A) → list_any test (map of xs) ≡ list_any (λ x. test (of x)) xs
list_any-map test of [] = refl
list_any-map test of (x ∷ xs) = ap (λ (b : Bool). test (of x) || b) (list_any-map test of xs)
