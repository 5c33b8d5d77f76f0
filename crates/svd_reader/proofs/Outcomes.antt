-- The answer to a device element, by its first fault and by how many elements it has.
use Rattle.std.proofs.Common.{◌≡◌, ℕ, ◌<◌, ◌≤◌, Bool, true, false, nat_le, List, [], ◌∷◌, Option, Some, None, refl, sym, ap, ◌∙◌, subst, if◌then◌else◌, arith}
use Rattle.std.proofs.lemmas.Bool.Decides.{nat_tests}
use Rattle.svd_schema.specs.declared.container.Container.TheVariants.{Device}
use Rattle.svd_model.specs.declared.counted.Counted.TheVariants.{Elements}
use Rattle.svd_model.specs.declared.device.Device.{Device as DeviceOf}
use Rattle.svd_model.specs.Counting.{told_count, elements_in}
use Rattle.svd_model.specs.Facts.{element_limit, is_counted, IsDescribed, IsFolded, IsPlacedOrDerived}
use Rattle.svd_model.specs.Keys.{Key}
use Rattle.svd_model.specs.Steps.{Step, same_key}
use Rattle.svd_model.specs.Trees.{device_tree, device_rows}
use Rattle.svd_rows.specs.Elements.{count, IsDistinct}
use Rattle.svd_rows.specs.Rows.{Row, rows}
use Rattle.svd_keys.specs.Children.{Tree}
use Rattle.svd_keys.specs.Earliest.{least, earlier}
use Rattle.svd_keys.specs.declared.fault.PlacedFault.{PlacedFault}
use Rattle.svd_reader.specs.declared.fault.SvdFault.{SvdFault}
use Rattle.svd_reader.specs.DescribedTree.{RowTree, described_tree}
use Rattle.svd_reader.specs.Described.{Answer, too_many, at_fault, described, counted, unless_fault, answer_in}
use Rattle.svd_reader.specs.Faults.{faults_of}
use Rattle.svd_reader.specs.Refusals.{Tells, OrMemory}
use Rattle.svd_reader.specs.TreeFacts.{HasFacts}
use Rattle.svd_reader.proofs.FaultlessFacts.{faultless}

-- no fault is the least exactly of none
none-least : (faults : List PlacedFault) → least faults ≡ None → faults ≡ []
unfolding least earlier
none-least [] is = refl
none-least (fault ∷ faults) is = absurd (by (least faults) is)
  where
    by : (later : Option PlacedFault) → earlier (Some fault) later ≡ None → ⊥
    by None e = cc
    by (Some other) e = choice (nat_le fault.at other.at) e
      where
        choice : (b : Bool) → (if b then Some fault else Some other) ≡ None → ⊥
        choice true e = cc
        choice false e = cc

has_facts : (tree : Tree) (found : Option PlacedFault) → found ≡ least (faults_of Device tree) → found ≡ None → HasFacts (described_tree tree)
has_facts tree found is none = faultless tree (none-least (faults_of Device tree) (sym is ∙ none))

unfaulty : (tree : Tree) (found : Option PlacedFault) → found ≡ least (faults_of Device tree) → found ≡ None → answer_in tree ≡ counted (described_tree tree)
unfolding answer_in
unfaulty tree found is none = ap (λ fault. unless_fault fault (counted (described_tree tree))) (sym is ∙ none)

pub faulty : (tree : Tree) (found : Option PlacedFault) (placed : PlacedFault) → found ≡ least (faults_of Device tree) → found ≡ Some placed → answer_in tree ≡ at_fault placed.fault
unfolding answer_in
faulty tree found placed is some = ap (λ fault. unless_fault fault (counted (described_tree tree))) (sym is ∙ some)

pub tells-answer : (fault : SvdFault) (one other : Answer) → one ≡ other → OrMemory fault (Tells fault one) → OrMemory fault (Tells fault other)
tells-answer fault one other is told = subst (λ answer. OrMemory fault (Tells fault answer)) is told

-- the count that is told is that of the tree
of_tree : (tree : Tree) (device : DeviceOf) (n : ℕ) → device_tree device ≡ described_tree tree → n ≡ told_count (elements_in (device_tree device).below) → n ≡ told_count (count is_counted (described_tree tree).below)
of_tree tree device n same says = says ∙ ap (λ (t : RowTree). told_count (count is_counted t.below)) same

over : (n m : ℕ) → n ≡ told_count m → 1048576 < n → nat_le m element_limit ≡ false
over n m is more = grind (arith, nat_tests)

within : (n m : ℕ) → n ≡ told_count m → n ≤ 1048576 → m ≤ 1048576
within n m is few = omega arith

pub has_too_many : (tree : Tree) (device : DeviceOf) (found : Option PlacedFault) (n : ℕ) → found ≡ least (faults_of Device tree) → found ≡ None
    → (IsDistinct same_key (described_tree tree).below → device_tree device ≡ described_tree tree) → n ≡ told_count (elements_in (device_tree device).below) → 1048576 < n
    → (m : ℕ) × (answer_in tree ≡ too_many m) × (Elements ≡ Elements) × (n ≡ told_count m)
unfolding counted
has_too_many tree device found n is none makes says more =
    let same : device_tree device ≡ described_tree tree = makes (has_facts tree found is none).distinct in
    let many : n ≡ told_count (count is_counted (described_tree tree).below) = of_tree tree device n same says in (
      count is_counted (described_tree tree).below,
      unfaulty tree found is none ∙ ap (λ b. if b then described (rows (described_tree tree)) else too_many (count is_counted (described_tree tree).below)) (over n (count is_counted (described_tree tree).below) many more),
      refl,
      many,
    )

pub facts-told : (tree : Tree) (device : DeviceOf) (found : Option PlacedFault) (n : ℕ) → found ≡ least (faults_of Device tree) → found ≡ None
    → (IsDistinct same_key (described_tree tree).below → device_tree device ≡ described_tree tree) → n ≡ told_count (elements_in (device_tree device).below) → n ≤ 1048576
    → IsDescribed device
facts-told tree device found n is none makes says few =
    let facts = has_facts tree found is none in
    let same : device_tree device ≡ described_tree tree = makes facts.distinct in
    subst (IsFolded IsPlacedOrDerived) (sym same) (record { distinct = facts.distinct; elements = facts.elements; few = within n (count is_counted (described_tree tree).below) (of_tree tree device n same says) few })

few-test : (m : ℕ) → m ≤ 1048576 → nat_le m element_limit ≡ true
few-test m few = grind (arith, nat_tests)

pub has_rows : (tree : Tree) (device : DeviceOf) (found : Option PlacedFault) (n : ℕ) (made : List (Row Step Key)) → found ≡ least (faults_of Device tree) → found ≡ None
    → (IsDistinct same_key (described_tree tree).below → device_tree device ≡ described_tree tree) → n ≡ told_count (elements_in (device_tree device).below) → n ≤ 1048576
    → made ≡ device_rows device → answer_in tree ≡ described made
unfolding counted
has_rows tree device found n made is none makes says few rows_are =
    let same : device_tree device ≡ described_tree tree = makes (has_facts tree found is none).distinct in
    unfaulty tree found is none
    ∙ ap (λ b. if b then described (rows (described_tree tree)) else too_many (count is_counted (described_tree tree).below)) (few-test (count is_counted (described_tree tree).below) (within n (count is_counted (described_tree tree).below) (of_tree tree device n same says) few))
    ∙ ap described (ap rows (sym same) ∙ sym rows_are)
