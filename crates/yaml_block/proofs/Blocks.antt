-- The runs of lines that spell entries: so no lines spell two forests.
use Rattle.std.proofs.Common.{◌≡◌, ◌<◌, ◌≤◌, ℕ, true, false, eqb, List, [], ◌∷◌, ◌++◌, refl, sym, ap, subst, ◌∙◌, arith, append_assoc}
use Rattle.std.specs.Prelude.{nat_le, nat_lt}
use Rattle.std.proofs.lemmas.Bool.{eq-eqb, ne_eqb}
use Rattle.std.proofs.lemmas.Bool.Decides.{nat_tests}
use Rattle.yaml_block.specs.declared.value.Value.{Value}
use Rattle.yaml_block.specs.declared.line.Line.{Line}
use Rattle.yaml_block.specs.Blocks.{Forest, ended, valued, keyed, listed, nested, is_ended, item_lines, Spells}
use Rattle.yaml_block.specs.Runs.{Run, listing, mapping, with_item, with_entry, with_key, grouped}

-- the runs behind entries at an indent: none, or entries at a lower one
abbrev Below : ℕ → List Run → Type 0
Below indent [] = Unit {0}
Below indent (listing other first items ∷ runs) = ⊥
Below indent (mapping other forest ∷ runs) = other < indent

-- the entries as a run in front of others, where there are entries
abbrev pub begun : ℕ → Forest → List Run → List Run
begun indent ended runs = runs
begun indent (valued number key value others) runs = mapping indent (valued number key value others) ∷ runs
begun indent (keyed number key others) runs = mapping indent (keyed number key others) ∷ runs
begun indent (listed number key first items others) runs = mapping indent (listed number key first items others) ∷ runs
begun indent (nested number key inside others) runs = mapping indent (nested number key inside others) ∷ runs

begun-some : (indent : ℕ) (forest : Forest) (runs : List Run) → is_ended forest ≡ false → begun indent forest runs ≡ mapping indent forest ∷ runs
begun-some indent ended runs some = absurd cc
begun-some indent (valued number key value others) runs some = refl
begun-some indent (keyed number key others) runs some = refl
begun-some indent (listed number key first items others) runs some = refl
begun-some indent (nested number key inside others) runs some = refl

differs : (a b : ℕ) → b < a → eqb a b ≡ false
differs a b less = ne_eqb a b (λ same. omega arith)

not_less : (a b : ℕ) → b ≤ a → nat_lt a b ≡ false
not_less a b less = grind (arith, nat_tests, less)

is_less : (a b : ℕ) → a < b → nat_lt a b ≡ true
is_less a b less = grind (arith, nat_tests, less)

is_within : (a b : ℕ) → a ≤ b → nat_le a b ≡ true
is_within a b less = grind (arith, nat_tests, less)

entry-same : (indent : ℕ) (entry : Forest → Forest) (forest : Forest) (runs : List Run) → with_entry indent entry (mapping indent forest ∷ runs) ≡ mapping indent (entry forest) ∷ runs
unfolding with_entry
entry-same indent entry forest runs = rw (eq-eqb indent indent refl) refl

entry-below : (indent : ℕ) (entry : Forest → Forest) (runs : List Run) → Below indent runs → with_entry indent entry runs ≡ mapping indent (entry ended) ∷ runs
unfolding with_entry
entry-below indent entry [] below = refl
entry-below indent entry (listing other first items ∷ runs) below = absurd below
entry-below indent entry (mapping other forest ∷ runs) below = rw (differs indent other below) refl

-- an entry in front of the others
entry-begun : (indent : ℕ) (entry : Forest → Forest) (others : Forest) (runs : List Run) → Below indent runs → with_entry indent entry (begun indent others runs) ≡ mapping indent (entry others) ∷ runs
entry-begun indent entry ended runs below = entry-below indent entry runs below
entry-begun indent entry (valued number key value others) runs below = entry-same indent entry (valued number key value others) runs
entry-begun indent entry (keyed number key others) runs below = entry-same indent entry (keyed number key others) runs
entry-begun indent entry (listed number key first items others) runs below = entry-same indent entry (listed number key first items others) runs
entry-begun indent entry (nested number key inside others) runs below = entry-same indent entry (nested number key inside others) runs

key-same : (indent number : ℕ) (key : List ℕ) (forest : Forest) (runs : List Run) → with_key indent number key (mapping indent forest ∷ runs) ≡ mapping indent (keyed number key forest) ∷ runs
unfolding with_key
key-same indent number key forest runs = rw (not_less indent indent (omega arith)) (entry-same indent (keyed number key) forest runs)

key-below : (indent number : ℕ) (key : List ℕ) (runs : List Run) → Below indent runs → with_key indent number key runs ≡ mapping indent (keyed number key ended) ∷ runs
unfolding with_key
key-below indent number key [] below = entry-below indent (keyed number key) [] tt
key-below indent number key (listing other first items ∷ runs) below = absurd below
key-below indent number key (mapping other forest ∷ runs) below = rw (not_less indent other (omega (arith, below))) (entry-below indent (keyed number key) (mapping other forest ∷ runs) below)

key-begun : (indent number : ℕ) (key : List ℕ) (others : Forest) (runs : List Run) → Below indent runs → with_key indent number key (begun indent others runs) ≡ mapping indent (keyed number key others) ∷ runs
key-begun indent number key ended runs below = key-below indent number key runs below
key-begun indent number key (valued n k value others) runs below = key-same indent number key (valued n k value others) runs
key-begun indent number key (keyed n k others) runs below = key-same indent number key (keyed n k others) runs
key-begun indent number key (listed n k first items others) runs below = key-same indent number key (listed n k first items others) runs
key-begun indent number key (nested n k inside others) runs below = key-same indent number key (nested n k inside others) runs

key-listing : (indent number : ℕ) (key : List ℕ) (deeper : ℕ) (first : ℕ × Value) (items : List (ℕ × Value)) (runs : List Run) → indent ≤ deeper → with_key indent number key (listing deeper first items ∷ runs) ≡ with_entry indent (listed number key first items) runs
unfolding with_key
key-listing indent number key deeper first items runs within = rw (is_within indent deeper within) refl

key-mapping : (indent number : ℕ) (key : List ℕ) (deeper : ℕ) (forest : Forest) (runs : List Run) → indent < deeper → with_key indent number key (mapping deeper forest ∷ runs) ≡ with_entry indent (nested number key forest) runs
unfolding with_key
key-mapping indent number key deeper forest runs less = rw (is_less indent deeper less) refl

-- runs that begin with no list
abbrev NoListing : List Run → Type 0
NoListing [] = Unit {0}
NoListing (listing other first items ∷ runs) = ⊥
NoListing (mapping other forest ∷ runs) = Unit {0}

below_no_listing : (indent : ℕ) (runs : List Run) → Below indent runs → NoListing runs
below_no_listing indent [] below = tt
below_no_listing indent (listing other first items ∷ runs) below = absurd below
below_no_listing indent (mapping other forest ∷ runs) below = tt

begun_no_listing : (indent : ℕ) (forest : Forest) (runs : List Run) → Below indent runs → NoListing (begun indent forest runs)
begun_no_listing indent ended runs below = below_no_listing indent runs below
begun_no_listing indent (valued number key value others) runs below = tt
begun_no_listing indent (keyed number key others) runs below = tt
begun_no_listing indent (listed number key first items others) runs below = tt
begun_no_listing indent (nested number key inside others) runs below = tt

below_more : (indent deeper : ℕ) (runs : List Run) → indent < deeper → Below indent runs → Below deeper runs
below_more indent deeper [] less below = tt
below_more indent deeper (listing other first items ∷ runs) less below = absurd below
below_more indent deeper (mapping other forest ∷ runs) less below = omega (arith, less, below)

begun_below : (indent deeper : ℕ) (forest : Forest) (runs : List Run) → indent < deeper → Below indent runs → Below deeper (begun indent forest runs)
begun_below indent deeper ended runs less below = below_more indent deeper runs less below
begun_below indent deeper (valued number key value others) runs less below = less
begun_below indent deeper (keyed number key others) runs less below = less
begun_below indent deeper (listed number key first items others) runs less below = less
begun_below indent deeper (nested number key inside others) runs less below = less

item-alone : (indent : ℕ) (item : ℕ × Value) (runs : List Run) → NoListing runs → with_item indent item runs ≡ listing indent item [] ∷ runs
unfolding with_item
item-alone indent item [] apart = refl
item-alone indent item (listing other first items ∷ runs) apart = absurd apart
item-alone indent item (mapping other forest ∷ runs) apart = refl

item-more : (indent : ℕ) (item first : ℕ × Value) (items : List (ℕ × Value)) (runs : List Run) → with_item indent item (listing indent first items ∷ runs) ≡ listing indent item (first ∷ items) ∷ runs
unfolding with_item
item-more indent item first items runs = rw (eq-eqb indent indent refl) refl

grouped-items : (indent : ℕ) (first : ℕ × Value) (items : List (ℕ × Value)) (tail : List Line) → NoListing (grouped tail) → grouped (item_lines indent (first ∷ items) ++ tail) ≡ listing indent first items ∷ grouped tail
unfolding grouped
grouped-items indent first [] tail apart = item-alone indent first (grouped tail) apart
grouped-items indent first (next ∷ items) tail apart = ap (with_item indent first) (grouped-items indent next items tail apart) ∙ item-more indent first next items (grouped tail)

pub grouped-spelled : (indent : ℕ) (forest : Forest) (lines tail : List Line) → Spells indent forest lines → Below indent (grouped tail) → grouped (lines ++ tail) ≡ begun indent forest (grouped tail)
unfolding grouped
grouped-spelled indent ended lines tail spells below = ap (λ (ls : List Line). grouped (ls ++ tail)) spells
grouped-spelled indent (valued number key value others) lines tail spells below =
    ap (λ (ls : List Line). grouped (ls ++ tail)) spells.2
    ∙ ap (with_entry indent (valued number key value)) (grouped-spelled indent others spells.0 tail spells.1 below)
    ∙ entry-begun indent (valued number key value) others (grouped tail) below
grouped-spelled indent (keyed number key others) lines tail spells below =
    ap (λ (ls : List Line). grouped (ls ++ tail)) spells.2
    ∙ ap (with_key indent number key) (grouped-spelled indent others spells.0 tail spells.1 below)
    ∙ key-begun indent number key others (grouped tail) below
grouped-spelled indent (listed number key first items others) lines tail spells below =
    let rest = grouped-spelled indent others spells.0 tail spells.3 below in
    let apart : NoListing (grouped (spells.0 ++ tail)) = subst NoListing (sym rest) (begun_no_listing indent others (grouped tail) below) in
    ap (λ (ls : List Line). grouped (ls ++ tail)) spells.4
    ∙ ap (λ (ls : List Line). with_key indent number key (grouped ls)) (append_assoc (item_lines spells.1 (first ∷ items)) spells.0 tail)
    ∙ ap (with_key indent number key) (grouped-items spells.1 first items (spells.0 ++ tail) apart)
    ∙ key-listing indent number key spells.1 first items (grouped (spells.0 ++ tail)) spells.2
    ∙ ap (with_entry indent (listed number key first items)) rest
    ∙ entry-begun indent (listed number key first items) others (grouped tail) below
grouped-spelled indent (nested number key inside others) lines tail spells below =
    let rest = grouped-spelled indent others spells.0 tail spells.6 below in
    let deeper_below : Below spells.1 (grouped (spells.0 ++ tail)) = subst (Below spells.1) (sym rest) (begun_below indent spells.1 others (grouped tail) spells.3 below) in
    ap (λ (ls : List Line). grouped (ls ++ tail)) spells.7
    ∙ ap (λ (ls : List Line). with_key indent number key (grouped ls)) (append_assoc spells.2 spells.0 tail)
    ∙ ap (with_key indent number key) (grouped-spelled spells.1 inside spells.2 (spells.0 ++ tail) spells.5 deeper_below ∙ begun-some spells.1 inside (grouped (spells.0 ++ tail)) spells.4)
    ∙ key-mapping indent number key spells.1 inside (grouped (spells.0 ++ tail)) spells.3
    ∙ ap (with_entry indent (nested number key inside)) rest
    ∙ entry-begun indent (nested number key inside) others (grouped tail) below

-- the entries of the first run
abbrev entries_of : List Run → Forest
entries_of [] = ended
entries_of (listing other first items ∷ runs) = ended
entries_of (mapping other forest ∷ runs) = forest

entries-begun : (forest : Forest) → entries_of (begun 0 forest []) ≡ forest
entries-begun ended = refl
entries-begun (valued number key value others) = refl
entries-begun (keyed number key others) = refl
entries-begun (listed number key first items others) = refl
entries-begun (nested number key inside others) = refl

-- the entries are what the runs of their lines say
spelled-entries : (forest : Forest) (lines : List Line) → Spells 0 forest lines → entries_of (grouped (lines ++ [])) ≡ forest
unfolding grouped
spelled-entries forest lines spells = ap entries_of (grouped-spelled 0 forest lines [] spells tt) ∙ entries-begun forest

pub one_spelled : (one other : Forest) (lines : List Line) → Spells 0 one lines → Spells 0 other lines → one ≡ other
one_spelled one other lines first second = sym (spelled-entries one lines first) ∙ spelled-entries other lines second
