-- Lines pass exactly where their runs fit what is open: passing from the first line on says what the runs from the last line on say.
use Rattle.std.proofs.Common.{◌≡◌, ◌<◌, ◌≤◌, ℕ, ◌+◌, Bool, true, false, eqb, List, [], ◌∷◌, ◌++◌, Option, Some, None, map, length, refl, sym, ap, subst, ◌∙◌, arith, append-nil}
use Rattle.std.specs.Prelude.{◌==◌, nat_le, nat_lt, if◌then◌else◌}
use Rattle.std.proofs.lemmas.Bool.{eq-eqb, ne_eqb}
use Rattle.std.proofs.lemmas.Bool.Decides.{nat_tests}
use Rattle.text_scan.specs.Steps.{◌>>=◌}
use Rattle.yaml_block.specs.declared.value.Value.{Value}
use Rattle.yaml_block.specs.declared.value.Value.TheVariants.{Scalar, Sequence, Mapping}
use Rattle.yaml_block.specs.declared.content.Content.{Content}
use Rattle.yaml_block.specs.declared.content.Content.TheVariants.{Item, Key, Entry}
use Rattle.yaml_block.specs.declared.line.Line.{Line}
use Rattle.yaml_block.specs.declared.pass.Behind.{Behind}
use Rattle.yaml_block.specs.declared.pass.Behind.TheVariants as behind
use Rattle.yaml_block.specs.declared.pass.Verdict.{Verdict}
use Rattle.yaml_block.specs.declared.pass.Verdict.TheVariants.{Right, Wrong}
use Rattle.yaml_block.specs.Blocks.{Forest, ended, valued, keyed, listed, nested}
use Rattle.yaml_block.specs.Meanings.{value_tree, item_tree, entries_in}
use Rattle.yaml_block.specs.Nesting.{too_deep, deep_tree, deep_items, deep_entries}
use Rattle.yaml_block.specs.Passing.{State, down_to, or_first, deep_flow, is_collection, noted, opened, placed, entry_step, list_at, item_step, content_step, step, verdict, verdict_behind}
use Rattle.yaml_block.specs.Runs.{Run, listing, mapping, with_item, with_entry, with_key, with_content, grouped}
use Rattle.yaml_block.specs.Trees.{Tree, nothing, scalar, list, items_of, entries_of}
use Rattle.yaml_block.specs.Trees as trees
use Rattle.yaml_block.proofs.Passing.{down_to-here, not_less_test}

-- ---- the first of several lines

or_first-nothing : (known : Option ℕ) → or_first known [] ≡ known
or_first-nothing None = refl
or_first-nothing (Some line) = refl

or_first-append : (known : Option ℕ) (xs ys : List ℕ) → or_first (or_first known xs) ys ≡ or_first known (xs ++ ys)
or_first-append (Some line) xs ys = refl
or_first-append None [] ys = refl
or_first-append None (x ∷ xs) ys = refl

-- ---- what stands too deep in entries, items and values

abbrev pub deep_of : ℕ → Forest → List ℕ
deep_of level forest = deep_entries level (entries_of (entries_in forest))

abbrev deep_list : ℕ → List (ℕ × Value) → List ℕ
deep_list level items = deep_items level (items_of (map item_tree items))

scalars_shallow : (level line : ℕ) (texts : List (List ℕ)) → deep_items level (items_of (map (λ text. (line, scalar text)) texts)) ≡ []
scalars_shallow level line [] = refl
scalars_shallow level line (text ∷ texts) = scalars_shallow level line texts

pairs_shallow : (level line : ℕ) (pairs : List (List ℕ × List ℕ)) → deep_entries level (entries_of (map (λ pair. (line, pair.0, scalar pair.1)) pairs)) ≡ []
pairs_shallow level line [] = refl
pairs_shallow level line (pair ∷ pairs) = pairs_shallow level line pairs

deep_flow-is : (level line : ℕ) (value : Value) → deep_flow (is_collection value) level line ≡ deep_tree level line (value_tree line value)
deep_flow-is level line (Scalar text) = refl
deep_flow-is level line (Sequence texts) = sym (ap (λ inside. too_deep level line ++ inside) (scalars_shallow (level + 1) line texts) ∙ append-nil (too_deep level line))
deep_flow-is level line (Mapping pairs) = sym (ap (λ inside. too_deep level line ++ inside) (pairs_shallow (level + 1) line pairs) ∙ append-nil (too_deep level line))

-- ---- whether runs fit what is open, and the first line too deep

abbrev pub weigh_rest : ℕ → List ℕ → Option ℕ → List Run → Option (Option ℕ)
weigh_rest top outer known [] = Some known
weigh_rest top outer known (listing indent item items ∷ runs) = None
weigh_rest top outer known (mapping indent forest ∷ runs) =
    if (down_to indent top outer).0 == indent
    then weigh_rest (down_to indent top outer).0 (down_to indent top outer).1 (or_first known (deep_of (length (down_to indent top outer).1 + 1) forest)) runs
    else None

-- behind a key without a value
abbrev weigh_key : ℕ → ℕ → List ℕ → Option ℕ → List Run → Option (Option ℕ)
weigh_key number top outer known [] = Some known
weigh_key number top outer known (listing indent item items ∷ runs) =
    if nat_le top indent then weigh_rest top outer (or_first (or_first known (too_deep (length outer + 1) number)) (deep_list (length outer + 1 + 1) (item ∷ items))) runs else None
weigh_key number top outer known (mapping indent forest ∷ runs) =
    if nat_lt top indent
    then weigh_rest indent (top ∷ outer) (or_first known (too_deep (length outer + 1) number)) (mapping indent forest ∷ runs)
    else weigh_rest top outer known (mapping indent forest ∷ runs)

-- behind an item
abbrev weigh_item : ℕ → ℕ → List ℕ → Option ℕ → List Run → Option (Option ℕ)
weigh_item other top outer known [] = Some known
weigh_item other top outer known (listing indent item items ∷ runs) =
    if other == indent then weigh_rest top outer (or_first known (deep_list (length outer + 1 + 1) (item ∷ items))) runs else None
weigh_item other top outer known (mapping indent forest ∷ runs) = weigh_rest top outer known (mapping indent forest ∷ runs)

abbrev weigh_behind : Behind → ℕ → List ℕ → Option ℕ → List Run → Option (Option ℕ)
weigh_behind behind.Value top outer known runs = weigh_rest top outer known runs
weigh_behind (behind.Key number) top outer known runs = weigh_key number top outer known runs
weigh_behind (behind.Item other) top outer known runs = weigh_item other top outer known runs

abbrev pub weigh : State → List Run → Option (Option ℕ)
weigh state runs = weigh_behind state.last state.top state.outer state.deep runs

if_same : {X : Type 0} (b : Bool) (x y : Option X) → (b ≡ true → x ≡ y) → (if b then x else None) ≡ (if b then y else None)
if_same true x y same = same refl
if_same false x y same = refl

-- ---- an entry in front of runs

module _ (entry : Forest → Forest) (line : ℕ) (key : List ℕ) (tree : Tree) (enters : (forest : Forest) → entries_in (entry forest) ≡ (line, key, tree) ∷ entries_in forest) where
  deep_entered : (level : ℕ) (forest : Forest) → deep_of level (entry forest) ≡ deep_tree level line tree ++ deep_of level forest
  deep_entered level forest = ap (λ (entries : List (ℕ × List ℕ × Tree)). deep_entries level (entries_of entries)) (enters forest)

  -- the runs behind an entry
  abbrev behind_entry : ℕ → ℕ → List ℕ → Option ℕ → List Run → Option (Option ℕ)
  behind_entry indent top outer known runs =
      if (down_to indent top outer).0 == indent
      then weigh_rest (down_to indent top outer).0 (down_to indent top outer).1 (or_first known (deep_tree (length (down_to indent top outer).1 + 1) line tree)) runs
      else None

  entry-apart : (indent top : ℕ) (outer : List ℕ) (known : Option ℕ) (runs : List Run) → weigh_rest top outer known (mapping indent (entry ended) ∷ runs) ≡ behind_entry indent top outer known runs
  entry-apart indent top outer known runs =
      ap (λ (lines : List ℕ). if (down_to indent top outer).0 == indent then weigh_rest (down_to indent top outer).0 (down_to indent top outer).1 (or_first known lines) runs else None)
      (deep_entered (length (down_to indent top outer).1 + 1) ended ∙ append-nil (deep_tree (length (down_to indent top outer).1 + 1) line tree))

  -- an entry in front of more entries of the mapping that is open
  entry-more : (indent top : ℕ) (outer : List ℕ) (known : Option ℕ) (forest : Forest) (runs : List Run) → eqb top indent ≡ true → weigh_rest top outer (or_first known (deep_of (length outer + 1) (entry forest))) runs ≡ weigh_rest top outer (or_first known (deep_tree (length outer + 1) line tree)) (mapping indent forest ∷ runs)
  entry-more indent top outer known forest runs at =
      let same : top ≡ indent = eq_from_eqb top indent at in
      let here : down_to indent top outer ≡ (top, outer) = down_to-here indent top outer (not_less_test indent top (omega arith)) in
      ap (λ known'. weigh_rest top outer known' runs) (ap (or_first known) (deep_entered (length outer + 1) forest) ∙ sym (or_first-append known (deep_tree (length outer + 1) line tree) (deep_of (length outer + 1) forest)))
      ∙ sym (ap (λ (found : ℕ × List ℕ). if found.0 == indent then weigh_rest found.0 found.1 (or_first (or_first known (deep_tree (length outer + 1) line tree)) (deep_of (length found.1 + 1) forest)) runs else None) here ∙ rw at refl)
    where
      eq_from_eqb : (a b : ℕ) → eqb a b ≡ true → a ≡ b
      eq_from_eqb a b same = grind (arith, nat_tests, same)

  entry-joined : (indent top : ℕ) (outer : List ℕ) (known : Option ℕ) (forest : Forest) (runs : List Run) → weigh_rest top outer known (mapping indent (entry forest) ∷ runs) ≡ behind_entry indent top outer known (mapping indent forest ∷ runs)
  entry-joined indent top outer known forest runs =
      if_same ((down_to indent top outer).0 == indent) _ _ (λ at. entry-more indent (down_to indent top outer).0 (down_to indent top outer).1 known forest runs at)

  entry-fits : (indent top : ℕ) (outer : List ℕ) (known : Option ℕ) (other : ℕ) (forest : Forest) (runs : List Run) (same : Bool) → eqb indent other ≡ same → weigh_rest top outer known (with_entry indent entry (mapping other forest ∷ runs)) ≡ behind_entry indent top outer known (mapping other forest ∷ runs)
  unfolding with_entry
  entry-fits indent top outer known other forest runs true is =
      let equal : indent ≡ other = grind (arith, nat_tests, is) in
      rw is (subst (λ o. weigh_rest top outer known (mapping indent (entry forest) ∷ runs) ≡ behind_entry indent top outer known (mapping o forest ∷ runs)) equal (entry-joined indent top outer known forest runs))
  entry-fits indent top outer known other forest runs false is = rw is (entry-apart indent top outer known (mapping other forest ∷ runs))

  entry-weighed : (indent top : ℕ) (outer : List ℕ) (known : Option ℕ) (runs : List Run) → weigh_rest top outer known (with_entry indent entry runs) ≡ behind_entry indent top outer known runs
  unfolding with_entry
  entry-weighed indent top outer known [] = entry-apart indent top outer known []
  entry-weighed indent top outer known (listing other item items ∷ runs) = entry-apart indent top outer known (listing other item items ∷ runs)
  entry-weighed indent top outer known (mapping other forest ∷ runs) = entry-fits indent top outer known other forest runs (eqb indent other) refl

-- ---- runs in which no two mappings at one indent stand side by side

abbrev pub NotAt : ℕ → List Run → Type 0
NotAt indent [] = Unit {0}
NotAt indent (listing other item items ∷ runs) = Unit {0}
NotAt indent (mapping other forest ∷ runs) = eqb indent other ≡ false

abbrev pub Apart : List Run → Type 0
Apart [] = Unit {0}
Apart (listing indent item items ∷ runs) = Apart runs
Apart (mapping indent forest ∷ runs) = NotAt indent runs × Apart runs

with_item-apart : (indent : ℕ) (item : ℕ × Value) (runs : List Run) → Apart runs → Apart (with_item indent item runs)
unfolding with_item
with_item-apart indent item [] apart = tt
with_item-apart indent item (listing other next items ∷ runs) apart = joins (indent == other)
  where
    joins : (same : Bool) → Apart (if same then listing indent item (next ∷ items) ∷ runs else listing indent item [] ∷ listing other next items ∷ runs)
    joins true = apart
    joins false = apart
with_item-apart indent item (mapping other forest ∷ runs) apart = apart

with_entry-joins : (indent : ℕ) (entry : Forest → Forest) (other : ℕ) (forest : Forest) (runs : List Run) → Apart (mapping other forest ∷ runs) → (same : Bool) → eqb indent other ≡ same → Apart (with_entry indent entry (mapping other forest ∷ runs))
unfolding with_entry
with_entry-joins indent entry other forest runs apart true is =
    let equal : other ≡ indent = grind (arith, nat_tests, is) in
    rw is (subst (λ o. NotAt o runs) equal apart.0, apart.1)
with_entry-joins indent entry other forest runs apart false is = rw is (is, apart)

with_entry-apart : (indent : ℕ) (entry : Forest → Forest) (runs : List Run) → Apart runs → Apart (with_entry indent entry runs)
unfolding with_entry
with_entry-apart indent entry [] apart = (tt, tt)
with_entry-apart indent entry (listing other next items ∷ runs) apart = (tt, apart)
with_entry-apart indent entry (mapping other forest ∷ runs) apart = with_entry-joins indent entry other forest runs apart (eqb indent other) refl

with_key-apart : (indent number : ℕ) (key : List ℕ) (runs : List Run) → Apart runs → Apart (with_key indent number key runs)
unfolding with_key
with_key-apart indent number key [] apart = with_entry-apart indent (keyed number key) [] tt
with_key-apart indent number key (listing other next items ∷ runs) apart = takes (nat_le indent other)
  where
    takes : (within : Bool) → Apart (if within then with_entry indent (listed number key next items) runs else with_entry indent (keyed number key) (listing other next items ∷ runs))
    takes true = with_entry-apart indent (listed number key next items) runs apart
    takes false = with_entry-apart indent (keyed number key) (listing other next items ∷ runs) apart
with_key-apart indent number key (mapping other forest ∷ runs) apart = takes (nat_lt indent other)
  where
    takes : (deeper : Bool) → Apart (if deeper then with_entry indent (nested number key forest) runs else with_entry indent (keyed number key) (mapping other forest ∷ runs))
    takes true = with_entry-apart indent (nested number key forest) runs apart.1
    takes false = with_entry-apart indent (keyed number key) (mapping other forest ∷ runs) apart

with_content-apart : (number indent : ℕ) (said : Content) (runs : List Run) → Apart runs → Apart (with_content number indent said runs)
with_content-apart number indent (Item value) runs apart = with_item-apart indent (number, value) runs apart
with_content-apart number indent (Key key) runs apart = with_key-apart indent number key runs apart
with_content-apart number indent (Entry key value) runs apart = with_entry-apart indent (valued number key value) runs apart

pub grouped-apart : (lines : List Line) → Apart (grouped lines)
unfolding grouped
grouped-apart [] = tt
grouped-apart (line ∷ lines) = with_content-apart line.number line.indent line.content (grouped lines) (grouped-apart lines)

-- ---- a key in front of runs

-- a mapping, where the innermost that isn't deeper was found
abbrev weigh_found : ℕ × List ℕ → Option ℕ → ℕ → Forest → List Run → Option (Option ℕ)
weigh_found found known indent forest runs =
    if found.0 == indent then weigh_rest found.0 found.1 (or_first known (deep_of (length found.1 + 1) forest)) runs else None

differ : (a b : ℕ) → a < b → eqb a b ≡ false
differ a b less = ne_eqb a b (λ same. omega arith)

-- a mapping that is done may as well be closed, where no more of it follows
closed_before : (deeper top : ℕ) (outer : List ℕ) (known : Option ℕ) (other : ℕ) (forest : Forest) (runs : List Run) → top < deeper → eqb deeper other ≡ false → (inside : Bool) → nat_lt other deeper ≡ inside → weigh_rest deeper (top ∷ outer) known (mapping other forest ∷ runs) ≡ weigh_rest top outer known (mapping other forest ∷ runs)
unfolding down_to
closed_before deeper top outer known other forest runs less apart true is = ap (λ (found : ℕ × List ℕ). weigh_found found known other forest runs) (rw is refl)
closed_before deeper top outer known other forest runs less apart false is =
    let past : deeper ≤ other = grind (arith, nat_tests, is) in
    let here : down_to other top outer ≡ (top, outer) = down_to-here other top outer (not_less_test other top (omega (arith, less, past))) in
    let unlike : eqb top other ≡ false = differ top other (omega (arith, less, past)) in
    let outside : down_to other deeper (top ∷ outer) ≡ (deeper, top ∷ outer) = rw is refl in
    let refused : weigh_found (deeper, top ∷ outer) known other forest runs ≡ None = rw apart refl in
    ap (λ (found : ℕ × List ℕ). weigh_found found known other forest runs) outside
    ∙ refused
    ∙ sym (ap (λ (found : ℕ × List ℕ). weigh_found found known other forest runs) here ∙ rw unlike refl)

closed : (deeper top : ℕ) (outer : List ℕ) (known : Option ℕ) (runs : List Run) → top < deeper → NotAt deeper runs → weigh_rest deeper (top ∷ outer) known runs ≡ weigh_rest top outer known runs
closed deeper top outer known [] less apart = refl
closed deeper top outer known (listing other item items ∷ runs) less apart = refl
closed deeper top outer known (mapping other forest ∷ runs) less apart = closed_before deeper top outer known other forest runs less apart (nat_lt other deeper) refl

-- the mapping of a key, behind the key and within it
mapping_begins : (number indent top : ℕ) (outer : List ℕ) (known : Option ℕ) (forest : Forest) (runs : List Run) → top < indent → NotAt indent runs → weigh_rest top outer (or_first known (too_deep (length outer + 1) number ++ deep_of (length outer + 1 + 1) forest)) runs ≡ weigh_rest indent (top ∷ outer) (or_first known (too_deep (length outer + 1) number)) (mapping indent forest ∷ runs)
mapping_begins number indent top outer known forest runs less apart =
    let here : down_to indent indent (top ∷ outer) ≡ (indent, top ∷ outer) = down_to-here indent indent (top ∷ outer) (not_less_test indent indent (omega arith)) in
    let level : length (top ∷ outer) + 1 ≡ length outer + 1 + 1 = omega arith in
    let now = or_first known (too_deep (length outer + 1) number) in
    ap (λ k. weigh_rest top outer k runs) (sym (or_first-append known (too_deep (length outer + 1) number) (deep_of (length outer + 1 + 1) forest)))
    ∙ ap (λ l. weigh_rest top outer (or_first now (deep_of l forest)) runs) (sym level)
    ∙ sym (closed indent top outer (or_first now (deep_of (length (top ∷ outer) + 1) forest)) runs less apart)
    ∙ sym (ap (λ (found : ℕ × List ℕ). weigh_found found now indent forest runs) here ∙ rw (eq-eqb indent indent refl) refl)

-- the runs behind a key
abbrev behind_key : ℕ → ℕ → ℕ → List ℕ → Option ℕ → List Run → Option (Option ℕ)
behind_key number indent top outer known runs =
    if (down_to indent top outer).0 == indent then weigh_key number (down_to indent top outer).0 (down_to indent top outer).1 known runs else None

pub equal_from : (a b : ℕ) → eqb a b ≡ true → a ≡ b
equal_from a b same = grind (arith, nat_tests, same)

module _ (number indent : ℕ) (key : List ℕ) (top : ℕ) (outer : List ℕ) (known : Option ℕ) where
  keyed-weighed : (runs : List Run) → ((found : ℕ) (round : List ℕ) → found ≡ indent → weigh_rest found round known runs ≡ weigh_key number found round known runs) → weigh_rest top outer known (with_entry indent (keyed number key) runs) ≡ behind_key number indent top outer known runs
  keyed-weighed runs same =
      entry-weighed (keyed number key) number key nothing (λ forest. refl) indent top outer known runs
      ∙ if_same ((down_to indent top outer).0 == indent) _ _
      (λ at. ap (λ k. weigh_rest (down_to indent top outer).0 (down_to indent top outer).1 k runs) (or_first-nothing known) ∙ same (down_to indent top outer).0 (down_to indent top outer).1 (equal_from (down_to indent top outer).0 indent at))

  key_of_list : (other : ℕ) (item : ℕ × Value) (items : List (ℕ × Value)) (runs : List Run) (within : Bool) → nat_le indent other ≡ within → weigh_rest top outer known (if within then with_entry indent (listed number key item items) runs else with_entry indent (keyed number key) (listing other item items ∷ runs)) ≡ behind_key number indent top outer known (listing other item items ∷ runs)
  key_of_list other item items runs true is =
      entry-weighed (listed number key item items) number key (list (items_of (map item_tree (item ∷ items)))) (λ forest. refl) indent top outer known runs
      ∙ if_same ((down_to indent top outer).0 == indent) _ _
      (λ at. ap (λ k. weigh_rest (down_to indent top outer).0 (down_to indent top outer).1 k runs) (sym (or_first-append known (too_deep (length (down_to indent top outer).1 + 1) number) (deep_list (length (down_to indent top outer).1 + 1 + 1) (item ∷ items))))
      ∙ sym (rw (ap (λ f. nat_le f other) (equal_from (down_to indent top outer).0 indent at) ∙ is) refl))
  key_of_list other item items runs false is = keyed-weighed (listing other item items ∷ runs) (λ found round at. sym (rw (ap (λ f. nat_le f other) at ∙ is) refl))

  key_of_mapping : (other : ℕ) (forest : Forest) (runs : List Run) → NotAt other runs → (deeper : Bool) → nat_lt indent other ≡ deeper → weigh_rest top outer known (if deeper then with_entry indent (nested number key forest) runs else with_entry indent (keyed number key) (mapping other forest ∷ runs)) ≡ behind_key number indent top outer known (mapping other forest ∷ runs)
  key_of_mapping other forest runs apart true is =
      entry-weighed (nested number key forest) number key (trees.mapping (entries_of (entries_in forest))) (λ f. refl) indent top outer known runs
      ∙ if_same ((down_to indent top outer).0 == indent) _ _
      (λ at.
      let same = equal_from (down_to indent top outer).0 indent at in
      let less : (down_to indent top outer).0 < other = grind (arith, nat_tests, same, is) in
      mapping_begins number other (down_to indent top outer).0 (down_to indent top outer).1 known forest runs less apart
      ∙ sym (rw (ap (λ f. nat_lt f other) same ∙ is) refl))
  key_of_mapping other forest runs apart false is = keyed-weighed (mapping other forest ∷ runs) (λ found round at. sym (rw (ap (λ f. nat_lt f other) at ∙ is) refl))

  key-weighed : (runs : List Run) → Apart runs → weigh_rest top outer known (with_key indent number key runs) ≡ behind_key number indent top outer known runs
  unfolding with_key
  key-weighed [] apart = keyed-weighed [] (λ found round at. refl)
  key-weighed (listing other item items ∷ runs) apart = key_of_list other item items runs (nat_le indent other) refl
  key-weighed (mapping other forest ∷ runs) apart = key_of_mapping other forest runs apart.0 (nat_lt indent other) refl

-- ---- an item in front of runs

abbrev weigh_listed : ℕ → List ℕ → Option ℕ → List Run → Option (Option ℕ)
weigh_listed top outer known [] = None
weigh_listed top outer known (listing indent item items ∷ runs) = weigh_rest top outer (or_first known (deep_list (length outer + 1 + 1) (item ∷ items))) runs
weigh_listed top outer known (mapping indent forest ∷ runs) = None

module _ (indent : ℕ) (item : ℕ × Value) where
  -- runs that begin with a list at the indent
  abbrev Lists : List Run → Type 0
  Lists runs = (first : ℕ × Value) × (items : List (ℕ × Value)) × (others : List Run) × (runs ≡ listing indent first items ∷ others)

  item-front : (runs : List Run) → Lists (with_item indent item runs)
  unfolding with_item
  item-front [] = (item, [], [], refl)
  item-front (listing other next items ∷ runs) = joins (indent == other)
    where
      joins : (same : Bool) → Lists (if same then listing indent item (next ∷ items) ∷ runs else listing indent item [] ∷ listing other next items ∷ runs)
      joins true = (item, next ∷ items, runs, refl)
      joins false = (item, [], listing other next items ∷ runs, refl)
  item-front (mapping other forest ∷ runs) = (item, [], mapping other forest ∷ runs, refl)

  -- the item alone
  abbrev alone : ℕ → List ℕ
  alone level = deep_tree level item.0 (value_tree item.0 item.1)

  alone-list : (level : ℕ) → deep_list level (item ∷ []) ≡ alone level
  alone-list level = append-nil (alone level)

  item-joins : (at top : ℕ) (outer : List ℕ) (known : Option ℕ) (other : ℕ) (next : ℕ × Value) (items : List (ℕ × Value)) (runs : List Run) → at ≡ indent → (same : Bool) → eqb indent other ≡ same → weigh_item at top outer (or_first known (alone (length outer + 1 + 1))) (listing other next items ∷ runs) ≡ weigh_listed top outer known (with_item indent item (listing other next items ∷ runs))
  unfolding with_item
  item-joins at top outer known other next items runs here true is =
      rw (is, ap (λ a. eqb a other) here ∙ is) (ap (λ k. weigh_rest top outer k runs) (or_first-append known (alone (length outer + 1 + 1)) (deep_list (length outer + 1 + 1) (next ∷ items))))
  item-joins at top outer known other next items runs here false is = rw (is, ap (λ a. eqb a other) here ∙ is) refl

  item-weighed : (at top : ℕ) (outer : List ℕ) (known : Option ℕ) (runs : List Run) → at ≡ indent → weigh_item at top outer (or_first known (alone (length outer + 1 + 1))) runs ≡ weigh_listed top outer known (with_item indent item runs)
  unfolding with_item
  item-weighed at top outer known [] here = ap (λ lines. Some (or_first known lines)) (sym (alone-list (length outer + 1 + 1)))
  item-weighed at top outer known (listing other next items ∷ runs) here = item-joins at top outer known other next items runs here (eqb indent other) refl
  item-weighed at top outer known (mapping other forest ∷ runs) here = ap (λ lines. weigh_rest top outer (or_first known lines) (mapping other forest ∷ runs)) (sym (alone-list (length outer + 1 + 1)))

  abbrev item_fits : Behind → ℕ → List ℕ → Option ℕ → List Run → Option (Option ℕ)
  item_fits behind.Value top outer known runs = None
  item_fits (behind.Key number) top outer known runs = if nat_le top indent then weigh_listed top outer (or_first known (too_deep (length outer + 1) number)) runs else None
  item_fits (behind.Item other) top outer known runs = if other == indent then weigh_listed top outer known runs else None

  item_fits-is : (last : Behind) (top : ℕ) (outer : List ℕ) (known : Option ℕ) (runs : List Run) → Lists runs → weigh_behind last top outer known runs ≡ item_fits last top outer known runs
  item_fits-is behind.Value top outer known runs lists = ap (weigh_rest top outer known) lists.3
  item_fits-is (behind.Key number) top outer known runs lists = ap (weigh_key number top outer known) lists.3 ∙ sym (ap (item_fits (behind.Key number) top outer known) lists.3)
  item_fits-is (behind.Item other) top outer known runs lists = ap (weigh_item other top outer known) lists.3 ∙ sym (ap (item_fits (behind.Item other) top outer known) lists.3)

-- ---- one line

if_then : {X Y : Type 0} (b : Bool) (x : X) (next : X → Option Y) → ((if b then Some x else None) >>= next) ≡ (if b then next x else None)
if_then true x next = refl
if_then false x next = refl

-- runs that begin with a mapping at the indent
abbrev Maps : ℕ → List Run → Type 0
Maps indent runs = (forest : Forest) × (others : List Run) × (runs ≡ mapping indent forest ∷ others)

entry-front : (indent : ℕ) (entry : Forest → Forest) (runs : List Run) → Maps indent (with_entry indent entry runs)
unfolding with_entry
entry-front indent entry [] = (entry ended, [], refl)
entry-front indent entry (listing other next items ∷ runs) = (entry ended, listing other next items ∷ runs, refl)
entry-front indent entry (mapping other forest ∷ runs) = joins (indent == other)
  where
    joins : (same : Bool) → Maps indent (if same then mapping indent (entry forest) ∷ runs else mapping indent (entry ended) ∷ mapping other forest ∷ runs)
    joins true = (entry forest, runs, refl)
    joins false = (entry ended, mapping other forest ∷ runs, refl)

key-front : (indent number : ℕ) (key : List ℕ) (runs : List Run) → Maps indent (with_key indent number key runs)
unfolding with_key
key-front indent number key [] = entry-front indent (keyed number key) []
key-front indent number key (listing other next items ∷ runs) = takes (nat_le indent other)
  where
    takes : (within : Bool) → Maps indent (if within then with_entry indent (listed number key next items) runs else with_entry indent (keyed number key) (listing other next items ∷ runs))
    takes true = entry-front indent (listed number key next items) runs
    takes false = entry-front indent (keyed number key) (listing other next items ∷ runs)
key-front indent number key (mapping other forest ∷ runs) = takes (nat_lt indent other)
  where
    takes : (deeper : Bool) → Maps indent (if deeper then with_entry indent (nested number key forest) runs else with_entry indent (keyed number key) (mapping other forest ∷ runs))
    takes true = entry-front indent (nested number key forest) runs
    takes false = entry-front indent (keyed number key) (mapping other forest ∷ runs)

abbrev weigh_in : State → List Run → Option (Option ℕ)
weigh_in state runs = weigh_rest state.top state.outer state.deep runs

either : (b : Bool) (one other : State) (runs : List Run) → (if b then weigh_in one runs else weigh_in other runs) ≡ weigh_in (if b then one else other) runs
either true one other runs = refl
either false one other runs = refl

-- an entry is weighed where a mapping was begun for it
opened-weighed : (indent : ℕ) (last : Behind) (top : ℕ) (outer : List ℕ) (known : Option ℕ) (runs : List Run) → Maps indent runs → weigh_behind last top outer known runs ≡ weigh_in (opened indent (record { top = top; outer = outer; last = last; deep = known })) runs
unfolding opened
opened-weighed indent behind.Value top outer known runs maps = refl
opened-weighed indent (behind.Key number) top outer known runs maps =
    ap (weigh_key number top outer known) maps.2
    ∙ sym (ap (λ rs. if nat_lt top indent then weigh_rest indent (top ∷ outer) (or_first known (too_deep (length outer + 1) number)) rs else weigh_rest top outer known rs) maps.2)
    ∙ either (nat_lt top indent) (record { top = indent; outer = top ∷ outer; last = behind.Key number; deep = or_first known (too_deep (length outer + 1) number) }) (record { top = top; outer = outer; last = behind.Key number; deep = known }) runs
opened-weighed indent (behind.Item other) top outer known runs maps = ap (weigh_item other top outer known) maps.2 ∙ sym (ap (weigh_rest top outer known) maps.2)

placed-weighed : (number indent : ℕ) (collects : Bool) (last : Behind) (state : State) (runs : List Run) → (placed number indent collects last state >>= λ next. weigh next runs) ≡ (if (down_to indent state.top state.outer).0 == indent then weigh_behind last (down_to indent state.top state.outer).0 (down_to indent state.top state.outer).1 (or_first state.deep (deep_flow collects (length (down_to indent state.top state.outer).1 + 1) number)) runs else None)
unfolding placed
placed-weighed number indent collects last state runs =
    if_then ((down_to indent state.top state.outer).0 == indent)
    (record { top = (down_to indent state.top state.outer).0; outer = (down_to indent state.top state.outer).1; last = last; deep = or_first state.deep (deep_flow collects (length (down_to indent state.top state.outer).1 + 1) number) })
    (λ next. weigh next runs)

entry_line : (number indent : ℕ) (key : List ℕ) (value : Value) (state : State) (runs : List Run) → (entry_step number indent (is_collection value) behind.Value state >>= λ next. weigh next runs) ≡ weigh state (with_entry indent (valued number key value) runs)
unfolding entry_step
entry_line number indent key value state runs =
    let began = opened indent state in
    placed-weighed number indent (is_collection value) behind.Value began runs
    ∙ if_same ((down_to indent began.top began.outer).0 == indent) _ _
    (λ at. ap (λ lines. weigh_rest (down_to indent began.top began.outer).0 (down_to indent began.top began.outer).1 (or_first began.deep lines) runs) (deep_flow-is (length (down_to indent began.top began.outer).1 + 1) number value))
    ∙ sym (entry-weighed (valued number key value) number key (value_tree number value) (λ forest. refl) indent began.top began.outer began.deep runs)
    ∙ sym (opened-weighed indent state.last state.top state.outer state.deep (with_entry indent (valued number key value) runs) (entry-front indent (valued number key value) runs))

key_line : (number indent : ℕ) (key : List ℕ) (state : State) (runs : List Run) → Apart runs → (entry_step number indent false (behind.Key number) state >>= λ next. weigh next runs) ≡ weigh state (with_key indent number key runs)
unfolding entry_step
key_line number indent key state runs apart =
    let began = opened indent state in
    placed-weighed number indent false (behind.Key number) began runs
    ∙ if_same ((down_to indent began.top began.outer).0 == indent) _ _
    (λ at. ap (λ known. weigh_key number (down_to indent began.top began.outer).0 (down_to indent began.top began.outer).1 known runs) (or_first-nothing began.deep))
    ∙ sym (key-weighed number indent key began.top began.outer began.deep runs apart)
    ∙ sym (opened-weighed indent state.last state.top state.outer state.deep (with_key indent number key runs) (key-front indent number key runs))

if_then_with : {X Y : Type 0} (b : Bool) (x : X) (change : X → X) (next : X → Option Y) → (((if b then Some x else None) >>= λ y. Some (change y)) >>= next) ≡ (if b then next (change x) else None)
if_then_with true x change next = refl
if_then_with false x change next = refl

module _ (number indent : ℕ) (value : Value) (top : ℕ) (outer : List ℕ) where
  flow_item : (at : ℕ) (known : Option ℕ) (runs : List Run) → at ≡ indent → weigh_item at top outer (or_first known (deep_flow (is_collection value) (length outer + 1 + 1) number)) runs ≡ weigh_listed top outer known (with_item indent (number, value) runs)
  flow_item at known runs here =
      ap (λ lines. weigh_item at top outer (or_first known lines) runs) (deep_flow-is (length outer + 1 + 1) number value) ∙ item-weighed indent (number, value) at top outer known runs here

  item_line : (last : Behind) (known : Option ℕ) (runs : List Run) → (item_step number indent (is_collection value) (record { top = top; outer = outer; last = last; deep = known }) >>= λ next. weigh next runs) ≡ weigh_behind last top outer known (with_item indent (number, value) runs)
  unfolding item_step list_at
  item_line behind.Value known runs = sym (item_fits-is indent (number, value) behind.Value top outer known (with_item indent (number, value) runs) (item-front indent (number, value) runs))
  item_line (behind.Key line) known runs =
      if_then_with (nat_le top indent) (record { top = top; outer = outer; last = behind.Item indent; deep = or_first known (too_deep (length outer + 1) line) }) (λ inside. noted (deep_flow (is_collection value) (length inside.outer + 1 + 1) number) inside) (λ next. weigh next runs)
      ∙ if_same (nat_le top indent) _ _ (λ at. flow_item indent (or_first known (too_deep (length outer + 1) line)) runs refl)
      ∙ sym (item_fits-is indent (number, value) (behind.Key line) top outer known (with_item indent (number, value) runs) (item-front indent (number, value) runs))
  item_line (behind.Item other) known runs =
      if_then_with (other == indent) (record { top = top; outer = outer; last = behind.Item other; deep = known }) (λ inside. noted (deep_flow (is_collection value) (length inside.outer + 1 + 1) number) inside) (λ next. weigh next runs)
      ∙ if_same (other == indent) _ _ (λ at. flow_item other known runs (equal_from other indent at))
      ∙ sym (item_fits-is indent (number, value) (behind.Item other) top outer known (with_item indent (number, value) runs) (item-front indent (number, value) runs))

content_line : (number indent : ℕ) (said : Content) (state : State) (runs : List Run) → Apart runs → (content_step number indent said state >>= λ next. weigh next runs) ≡ weigh state (with_content number indent said runs)
content_line number indent (Item value) state runs apart = item_line number indent value state.top state.outer state.last state.deep runs
content_line number indent (Key key) state runs apart = key_line number indent key state runs apart
content_line number indent (Entry key value) state runs apart = entry_line number indent key value state runs

-- ---- all lines

abbrev pub settled : Verdict → Option (Option ℕ)
settled (Right deep) = Some deep
settled (Wrong line) = None

settled-behind : (state : Option State) (number : ℕ) (others : State → Verdict) → settled (verdict_behind state number others) ≡ (state >>= λ next. settled (others next))
settled-behind None number others = refl
settled-behind (Some state) number others = refl

same_behind : {X Y : Type 0} (x : Option X) (f g : X → Option Y) → ((y : X) → f y ≡ g y) → (x >>= f) ≡ (x >>= g)
same_behind None f g same = refl
same_behind (Some y) f g same = same y

nothing-weighed : (last : Behind) (top : ℕ) (outer : List ℕ) (known : Option ℕ) → Some known ≡ weigh_behind last top outer known []
nothing-weighed behind.Value top outer known = refl
nothing-weighed (behind.Key number) top outer known = refl
nothing-weighed (behind.Item other) top outer known = refl

pub weighed : (lines : List Line) (state : State) → settled (verdict state lines) ≡ weigh state (grouped lines)
unfolding verdict step grouped
weighed [] state = nothing-weighed state.last state.top state.outer state.deep
weighed (line ∷ lines) state =
    settled-behind (content_step line.number line.indent line.content state) line.number (λ next. verdict next lines)
    ∙ same_behind (content_step line.number line.indent line.content state) (λ next. settled (verdict next lines)) (λ next. weigh next (grouped lines)) (λ next. weighed lines next)
    ∙ content_line line.number line.indent line.content state (grouped lines) (grouped-apart lines)
