-- Lines pass exactly where some entries are spelled by them.
use Rattle.std.proofs.Common.{◌≡◌, ◌<◌, ◌≤◌, ℕ, Bool, true, false, eqb, List, [], ◌∷◌, ◌++◌, Option, Some, None, refl, sym, ap, subst, ◌∙◌, arith, append-nil, append_assoc}
use Rattle.std.specs.Prelude.{nat_le, nat_lt, if◌then◌else◌}
use Rattle.std.proofs.lemmas.Bool.Decides.{nat_tests}
use Rattle.yaml_block.specs.declared.value.Value.{Value}
use Rattle.yaml_block.specs.declared.content.Content.{Content}
use Rattle.yaml_block.specs.declared.content.Content.TheVariants.{Item, Key, Entry}
use Rattle.yaml_block.specs.declared.line.Line.{Line}
use Rattle.yaml_block.specs.declared.pass.Verdict.{Verdict}
use Rattle.yaml_block.specs.declared.pass.Verdict.TheVariants.{Right, Wrong}
use Rattle.yaml_block.specs.Blocks.{Forest, ended, valued, keyed, listed, nested, is_ended, item_lines, line_of, Spells}
use Rattle.yaml_block.specs.Nesting.{first}
use Rattle.yaml_block.specs.Passing.{down_to, or_first, start, verdict}
use Rattle.yaml_block.specs.Runs.{Run, listing, mapping, with_item, with_entry, with_key, with_content, grouped}
use Rattle.yaml_block.proofs.Blocks.{begun, grouped-spelled}
use Rattle.yaml_block.proofs.Weighing.{Apart, deep_of, equal_from, grouped-apart, settled, weigh_rest, weighed}

-- ---- runs are spelled by their lines

abbrev SpellRuns : List Run → List Line → Type 0
SpellRuns [] lines = lines ≡ []
SpellRuns (listing indent item items ∷ runs) lines = (rest : List Line) × SpellRuns runs rest × (lines ≡ item_lines indent (item ∷ items) ++ rest)
SpellRuns (mapping indent forest ∷ runs) lines = (own : List Line) × (rest : List Line) × (is_ended forest ≡ false) × Spells indent forest own × SpellRuns runs rest × (lines ≡ own ++ rest)

module _ (indent : ℕ) (item : ℕ × Value) where
  item-joins : (other : ℕ) (next : ℕ × Value) (items : List (ℕ × Value)) (runs : List Run) (lines : List Line) → SpellRuns (listing other next items ∷ runs) lines → (same : Bool) → eqb indent other ≡ same → SpellRuns (if same then listing indent item (next ∷ items) ∷ runs else listing indent item [] ∷ listing other next items ∷ runs) (line_of item.0 indent (Item item.1) ∷ lines)
  item-joins other next items runs lines spelled true is =
      let equal : other ≡ indent = sym (equal_from indent other is) in
      (spelled.0, spelled.1, ap (λ ls. line_of item.0 indent (Item item.1) ∷ ls) (spelled.2 ∙ ap (λ o. item_lines o (next ∷ items) ++ spelled.0) equal))
  item-joins other next items runs lines spelled false is = (lines, spelled, refl)

  with_item-spells : (runs : List Run) (lines : List Line) → SpellRuns runs lines → SpellRuns (with_item indent item runs) (line_of item.0 indent (Item item.1) ∷ lines)
  unfolding with_item
  with_item-spells [] lines spelled = (lines, spelled, refl)
  with_item-spells (listing other next items ∷ runs) lines spelled = item-joins other next items runs lines spelled (eqb indent other) refl
  with_item-spells (mapping other forest ∷ runs) lines spelled = (lines, spelled, refl)

module _ (indent : ℕ) (entry : Forest → Forest) (own : List Line) (some : (forest : Forest) → is_ended (entry forest) ≡ false) (spells : (forest : Forest) (rest : List Line) → Spells indent forest rest → Spells indent (entry forest) (own ++ rest)) where
  entry-apart : (runs : List Run) (lines : List Line) → SpellRuns runs lines → SpellRuns (mapping indent (entry ended) ∷ runs) (own ++ lines)
  entry-apart runs lines spelled = (own ++ [], lines, some ended, spells ended [] refl, spelled, ap (λ front. front ++ lines) (sym (append-nil own)))

  entry-joins : (other : ℕ) (forest : Forest) (runs : List Run) (lines : List Line) → SpellRuns (mapping other forest ∷ runs) lines → (same : Bool) → eqb indent other ≡ same → SpellRuns (if same then mapping indent (entry forest) ∷ runs else mapping indent (entry ended) ∷ mapping other forest ∷ runs) (own ++ lines)
  entry-joins other forest runs lines spelled true is =
      let equal : other ≡ indent = sym (equal_from indent other is) in
      (own ++ spelled.0, spelled.1, some forest, spells forest spelled.0 (subst (λ o. Spells o forest spelled.0) equal spelled.3), spelled.4, ap (λ rest. own ++ rest) spelled.5 ∙ sym (append_assoc own spelled.0 spelled.1))
  entry-joins other forest runs lines spelled false is = entry-apart (mapping other forest ∷ runs) lines spelled

  with_entry-spells : (runs : List Run) (lines : List Line) → SpellRuns runs lines → SpellRuns (with_entry indent entry runs) (own ++ lines)
  unfolding with_entry
  with_entry-spells [] lines spelled = entry-apart [] lines spelled
  with_entry-spells (listing other next items ∷ runs) lines spelled = entry-apart (listing other next items ∷ runs) lines spelled
  with_entry-spells (mapping other forest ∷ runs) lines spelled = entry-joins other forest runs lines spelled (eqb indent other) refl

module _ (indent number : ℕ) (key : List ℕ) where
  abbrev key_line : Line
  key_line = line_of number indent (Key key)

  keyed-spells : (runs : List Run) (lines : List Line) → SpellRuns runs lines → SpellRuns (with_entry indent (keyed number key) runs) (key_line ∷ lines)
  keyed-spells runs lines spelled = with_entry-spells indent (keyed number key) (key_line ∷ []) (λ forest. refl) (λ forest rest spells. (rest, spells, refl)) runs lines spelled

  listed-spells : (other : ℕ) (item : ℕ × Value) (items : List (ℕ × Value)) (runs : List Run) (lines : List Line) → SpellRuns (listing other item items ∷ runs) lines → (within : Bool) → nat_le indent other ≡ within → SpellRuns (if within then with_entry indent (listed number key item items) runs else with_entry indent (keyed number key) (listing other item items ∷ runs)) (key_line ∷ lines)
  listed-spells other item items runs lines spelled true is =
      let deeper : indent ≤ other = grind (arith, nat_tests, is) in
      subst (SpellRuns (with_entry indent (listed number key item items) runs)) (ap (λ ls. key_line ∷ ls) (sym spelled.2))
      (with_entry-spells indent (listed number key item items) (key_line ∷ item_lines other (item ∷ items)) (λ forest. refl) (λ forest rest spells. (rest, other, deeper, spells, refl)) runs spelled.0 spelled.1)
  listed-spells other item items runs lines spelled false is = keyed-spells (listing other item items ∷ runs) lines spelled

  nested-spells : (other : ℕ) (forest : Forest) (runs : List Run) (lines : List Line) → SpellRuns (mapping other forest ∷ runs) lines → (deeper : Bool) → nat_lt indent other ≡ deeper → SpellRuns (if deeper then with_entry indent (nested number key forest) runs else with_entry indent (keyed number key) (mapping other forest ∷ runs)) (key_line ∷ lines)
  nested-spells other forest runs lines spelled true is =
      let less : indent < other = grind (arith, nat_tests, is) in
      subst (SpellRuns (with_entry indent (nested number key forest) runs)) (ap (λ ls. key_line ∷ ls) (sym spelled.5))
      (with_entry-spells indent (nested number key forest) (key_line ∷ spelled.0) (λ others. refl) (λ others rest spells. (rest, other, spelled.0, less, spelled.2, spelled.3, spells, refl)) runs spelled.1 spelled.4)
  nested-spells other forest runs lines spelled false is = keyed-spells (mapping other forest ∷ runs) lines spelled

  with_key-spells : (runs : List Run) (lines : List Line) → SpellRuns runs lines → SpellRuns (with_key indent number key runs) (key_line ∷ lines)
  unfolding with_key
  with_key-spells [] lines spelled = keyed-spells [] lines spelled
  with_key-spells (listing other item items ∷ runs) lines spelled = listed-spells other item items runs lines spelled (nat_le indent other) refl
  with_key-spells (mapping other forest ∷ runs) lines spelled = nested-spells other forest runs lines spelled (nat_lt indent other) refl

with_content-spells : (number indent : ℕ) (said : Content) (runs : List Run) (lines : List Line) → SpellRuns runs lines → SpellRuns (with_content number indent said runs) (line_of number indent said ∷ lines)
with_content-spells number indent (Item value) runs lines spelled = with_item-spells indent (number, value) runs lines spelled
with_content-spells number indent (Key key) runs lines spelled = with_key-spells indent number key runs lines spelled
with_content-spells number indent (Entry key value) runs lines spelled =
    with_entry-spells indent (valued number key value) (line_of number indent (Entry key value) ∷ []) (λ forest. refl) (λ forest rest spells. (rest, spells, refl)) runs lines spelled

grouped-spells : (lines : List Line) → SpellRuns (grouped lines) lines
unfolding grouped
grouped-spells [] = refl
grouped-spells (line ∷ lines) = with_content-spells line.number line.indent line.content (grouped lines) lines (grouped-spells lines)

-- ---- lines that pass are spelled

-- the entries that lines spell, and the first line among them that holds something too deep
pub record Passed (lines : List Line) (deep : Option ℕ) : Type 0 where
  pub forest : Forest
  pub spelled : Spells 0 forest lines
  pub deepest : deep ≡ first (deep_of 1 forest)

if_some : {X : Type 0} (b : Bool) (x : Option X) (y : X) → (if b then x else None) ≡ Some y → b ≡ true
if_some true x y is = refl
if_some false x y is = absurd cc

if_that : {X : Type 0} (b : Bool) (x : Option X) (y : X) → (if b then x else None) ≡ Some y → x ≡ Some y
if_that true x y is = is
if_that false x y is = absurd cc

one_mapping : (indent : ℕ) (forest : Forest) (runs : List Run) (lines : List Line) (deep : Option ℕ) → Apart (mapping indent forest ∷ runs) → SpellRuns (mapping indent forest ∷ runs) lines → eqb 0 indent ≡ true → weigh_rest 0 [] (or_first None (deep_of 1 forest)) runs ≡ Some deep → Passed lines deep
unfolding down_to
one_mapping indent forest [] lines deep apart spelled at fits =
    let whole : lines ≡ spelled.0 = spelled.5 ∙ ap (λ rest. spelled.0 ++ rest) spelled.4 ∙ append-nil spelled.0 in
    record {
      forest = forest;
      spelled = subst (Spells 0 forest) (sym whole) (subst (λ i. Spells i forest spelled.0) (sym (equal_from 0 indent at)) spelled.3);
      deepest = cc;
    }
one_mapping indent forest (listing other item items ∷ runs) lines deep apart spelled at fits = absurd cc
one_mapping indent forest (mapping other next ∷ runs) lines deep apart spelled at fits =
    let first_at : 0 ≡ indent = equal_from 0 indent at in
    let next_at : 0 ≡ other = equal_from 0 other (if_some (eqb 0 other) _ deep fits) in
    absurd (grind (arith, nat_tests, apart.0, first_at, next_at))

passed_runs : (runs : List Run) (lines : List Line) (deep : Option ℕ) → Apart runs → SpellRuns runs lines → weigh_rest 0 [] None runs ≡ Some deep → Passed lines deep
unfolding down_to
passed_runs [] lines deep apart spelled fits = record { forest = ended; spelled = spelled; deepest = cc }
passed_runs (listing indent item items ∷ runs) lines deep apart spelled fits = absurd cc
passed_runs (mapping indent forest ∷ runs) lines deep apart spelled fits =
    one_mapping indent forest runs lines deep apart spelled
    (if_some (eqb 0 indent) _ deep fits) (if_that (eqb 0 indent) _ deep fits)

pub passed : (lines : List Line) (deep : Option ℕ) → verdict start lines ≡ Right deep → Passed lines deep
passed lines deep fits = passed_runs (grouped lines) lines deep (grouped-apart lines) (grouped-spells lines) (sym (weighed lines start) ∙ ap settled fits)

-- ---- lines that are spelled pass

right_from : (said : Verdict) (deep : Option ℕ) → settled said ≡ Some deep → said ≡ Right deep
right_from (Right other) deep is = cc
right_from (Wrong line) deep is = absurd cc

begun-weighed : (forest : Forest) → weigh_rest 0 [] None (begun 0 forest []) ≡ Some (first (deep_of 1 forest))
unfolding down_to
begun-weighed ended = refl
begun-weighed (valued number key value others) = refl
begun-weighed (keyed number key others) = refl
begun-weighed (listed number key item items others) = refl
begun-weighed (nested number key inside others) = refl

pub grouped-whole : (forest : Forest) (lines : List Line) → Spells 0 forest lines → grouped lines ≡ begun 0 forest []
unfolding grouped
grouped-whole forest lines spells = ap grouped (sym (append-nil lines)) ∙ grouped-spelled 0 forest lines [] spells tt

pub passes : (forest : Forest) (lines : List Line) → Spells 0 forest lines → verdict start lines ≡ Right (first (deep_of 1 forest))
passes forest lines spells =
    right_from (verdict start lines) (first (deep_of 1 forest)) (weighed lines start ∙ ap (weigh_rest 0 [] None) (grouped-whole forest lines spells) ∙ begun-weighed forest)
