-- Where checking finds no fault in the flat rows, the members of registers and clusters that a walk of the tree meets stand where they may.
use Rattle.std.proofs.Common.{◌≡◌, ℕ, ◌+◌, ◌%◌, true, false, not, List, [], ◌∷◌, ◌++◌, map, Option, sym, subst, nat_eq, arith}
use Rattle.std.specs.List.{AllByRecursion}
use Rattle.std.proofs.lemmas.Bool.Decides.{nat_tests}
use Rattle.checked_tree.specs.Places.{ArePlaced, StandsAt, bytes_at}
use Rattle.checked_tree.proofs.Typed.{AreTyped, IsDeclared, OfKind}
use Rattle.reg_table.specs.Walk.{FitIn, FitsHere, props_inside}
use Rattle.reg_table.proofs.Exchanges.{every-left, every-right}
use Rattle.reg_table.proofs.Faults.{Chosen, append-none, as_many, further, has-members, map-none, none-chosen, none-pass_of, not_false}
use Rattle.reg_table.proofs.Tables.{address-down, ends-with, properties-down}
use Rattle.svd_model.specs.declared.props.Props.{Props}
use Rattle.svd_model.specs.Checking.{bytes_of, clashes, loose_faults, misaligned, name_clash, some_uneven, uneven, width_down}
use Rattle.svd_model.specs.Facts.{IsUnfoldedElement}
use Rattle.svd_model.specs.Keys.{Key}
use Rattle.svd_model.specs.Stating.{address_of, is_of, keys_down, paths_of, paths_of_kind, properties_of, start_of}
use Rattle.svd_model.specs.Steps.{Step, Kind, peripheral, cluster, register, field, set, value}
use Rattle.svd_model.specs.Visits.{Visit, visit_at, visit_below, visits, visits_of}
use Rattle.svd_rows.specs.Elements.{Every}
use Rattle.svd_rows.specs.Forest.{Forest, leaf, node}
use Rattle.svd_rows.specs.LookUps.{ends_with}
use Rattle.svd_rows.specs.Rows.{Row}

-- ---- what the flat rows tell

-- no member of a register stands at an address that is no multiple of its width
abbrev pub IsEven : Visit → Type 0
IsEven visit = ends_with (is_of register) visit.path ≡ true → some_uneven (bytes_of (width_down visit.down)) visit.down ≡ false

-- the faults of the last kinds, where there are none
pub none-left : (all : List (Row Step Key)) → loose_faults all ≡ [] → AllByRecursion IsEven (visits_of all) × (clashes all ≡ [])
unfolding loose_faults uneven paths_of_kind visits_of
none-left all none =
    let one = append-none _ _ none in
    let two = append-none _ _ one.1 in
    let three = append-none _ _ two.1 in
    let four = append-none _ _ three.1 in
    (each (paths_of all) (none-pass_of (λ path. some_uneven (bytes_of (width_down (keys_down all path))) (keys_down all path)) (ends_with (is_of register)) (paths_of all) (map-none misaligned _ three.0)), map-none (λ pair. name_clash pair.0 pair.1) (clashes all) four.1)
  where
    each : (paths : List (List Step)) → AllByRecursion (λ path. ends_with (is_of register) path ≡ true → some_uneven (bytes_of (width_down (keys_down all path))) (keys_down all path) ≡ false) paths → AllByRecursion IsEven (map (visit_at all) paths)
    each [] even = tt
    each (path ∷ paths) even = (even.0, each paths even.1)

-- ---- what the walk meets

even-number : (n : ℕ) → nat_eq n 0 ≡ true → n ≡ 0
even-number n e = grind (arith, nat_tests, e)

module _ (path : List Step) (down : List (List Key)) (chosen : List (Option ℕ)) (index : Option ℕ) (name : List ℕ) (number : ℕ) (ks : List Key) (c : Forest Step Key) where
  abbrev address : ℕ
  address = address_of (down ++ ks ∷ []) (chosen ++ index ∷ [])

  abbrev props : Props
  props = properties_of (down ++ ks ∷ [])

  -- a member stands where it may, given that what is below it does
  stands-here : (kind : Kind) → IsEven (visit_below path down (record { kind = kind; name = name; number = number }) ks c) → FitsHere address props (record { kind = kind; name = name; number = number }) ks c → Chosen (down ++ ks ∷ []) (chosen ++ index ∷ [])
      → OfKind kind (IsDeclared (record { kind = kind; name = name; number = number }) ks c) (AreTyped c) → (AreTyped c → ArePlaced address props c)
      → StandsAt (is_of register (record { kind = kind; name = name; number = number })) address props (ArePlaced address props c)
  unfolding some_uneven
  stands-here register even fits has typed below = record {
    aligned = even-number (address % bytes_at props) (not_false (nat_eq (address % bytes_at props) 0)
        (none-chosen (λ n. not (nat_eq (n % bytes_at props) 0)) (down ++ ks ∷ []) (chosen ++ index ∷ []) has (even (ends-with (is_of register) path (record { kind = register; name = name; number = number })))));
    ends = fits.1;
  }
  stands-here cluster even fits has typed below = (fits, below typed)
  stands-here peripheral even fits has typed below = absurd typed
  stands-here field even fits has typed below = absurd typed
  stands-here set even fits has typed below = absurd typed
  stands-here value even fits has typed below = absurd typed

pub placed-visits : (path : List Step) (down : List (List Key)) (chosen : List (Option ℕ)) (g : Forest Step Key) → AllByRecursion IsEven (visits path down g) → Every IsUnfoldedElement g → AreTyped g → FitIn (address_of down chosen) (properties_of down) g → Chosen down chosen → ArePlaced (address_of down chosen) (properties_of down) g
unfolding visits Every FitIn ArePlaced AreTyped
placed-visits path down chosen leaf even elements typed fit has = tt
placed-visits path down chosen (node s ks c n) even elements typed fit has = (
  λ index among.
      let all = further down chosen ks index has (has-members ks elements.0.members) among in
      let moved : ◌≡◌ {A = ℕ × Props} (address_of (down ++ ks ∷ []) (chosen ++ index ∷ []), properties_of (down ++ ks ∷ [])) (address_of down chosen + start_of ks index, props_inside ks (properties_of down)) = λ i. (address-down down chosen ks index (as_many down chosen has) i, properties-down down ks i) in
      let fits = fit.0 index among in
      let inner : FitIn (address_of (down ++ ks ∷ []) (chosen ++ index ∷ [])) (properties_of (down ++ ks ∷ [])) c = subst (λ (x : ℕ × Props). FitIn x.0 x.1 c) (sym moved) fits.1 in
      subst (λ (x : ℕ × Props). StandsAt (is_of register s) x.0 x.1 (ArePlaced x.0 x.1 c)) moved
      (stands-here path down chosen index s.name s.number ks c s.kind even.0 (subst (λ (x : ℕ × Props). FitsHere x.0 x.1 s ks c) (sym moved) fits.0) all typed.1
      (λ below. placed-visits (path ++ s ∷ []) (down ++ ks ∷ []) (chosen ++ index ∷ []) c (every-left IsEven (visits (path ++ s ∷ []) (down ++ ks ∷ []) c) (visits path down n) even.1) elements.1 below inner all)),
  placed-visits path down chosen n (every-right IsEven (visits (path ++ s ∷ []) (down ++ ks ∷ []) c) (visits path down n) even.1) elements.2 typed.2 fit.1 has,
)
