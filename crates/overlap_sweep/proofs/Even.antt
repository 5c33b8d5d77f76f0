-- Where no register stands off its width, each member of a register that the walk meets is a multiple of its bytes.
use Rattle.std.proofs.Common.{◌≡◌, ℕ, zero, suc, ◌+◌, ◌%◌, ◌<◌, Bool, true, false, not, nat_eq, cond, List, [], ◌∷◌, ◌++◌, map, Option, Some, None, refl, sym, ◌∙◌, subst, arith}
use Rattle.std.specs.List.{AllByRecursion, flat_map, range_with_len}
use Rattle.std.proofs.lemmas.Bool.Decides.{nat_tests}
use Rattle.overlap_sweep.specs.Search.{IsEven}
use Rattle.overlap_sweep.specs.Walk.{way_inside, spot_of, spots_in, spots_of_peripherals, peripheral_way}
use Rattle.overlap_sweep.specs.declared.spot.Spot.{Spot}
use Rattle.overlap_sweep.specs.declared.spot.Way.{Way}
use Rattle.reg_table.specs.Walk.{IsAmong, props_inside}
use Rattle.reg_table.proofs.Exchanges.{every-append, every-left, every-right}
use Rattle.reg_table.proofs.Faults.{Chosen, HasMembers, as_many, further, has-members, none-chosen, none-pass_of, not_false}
use Rattle.reg_table.proofs.Tables.{ends-with, address-down, properties-down, device-address, device-holds, distinct-steps}
use Rattle.svd_model.specs.declared.device.Device.{Device}
use Rattle.svd_model.specs.declared.props.Props.{Props}
use Rattle.svd_model.specs.Checking.{bytes_of, some_uneven, uneven, width_down, width_of}
use Rattle.svd_model.specs.Facts.{IsUnfolded, IsUnfoldedElement}
use Rattle.svd_model.specs.Keys.{Key}
use Rattle.svd_model.specs.Properties.{size_at}
use Rattle.svd_model.specs.Stating.{value_of, stated_dim, indexes_of, is_of, start_of, properties_of, address_of, keys_down, paths_of, paths_of_kind}
use Rattle.svd_model.specs.Steps.{Step, register}
use Rattle.svd_model.specs.Trees.{device_tree, device_rows, device_places}
use Rattle.svd_model.specs.Visits.{Visit, visit_at, visits_of, visits}
use Rattle.svd_model.proofs.Stated.{device-dim}
use Rattle.svd_model.proofs.Walking.{walk-rows}
use Rattle.svd_rows.specs.Elements.{Every}
use Rattle.svd_rows.specs.Forest.{Forest, leaf, node}
use Rattle.svd_rows.specs.LookUps.{ends_with}
use Rattle.svd_rows.specs.Ranks.{stated}
use Rattle.svd_rows.specs.Rows.{Row, rows}

-- each member of each register among siblings and below them stands at a multiple of its bytes
unfoldable EvenIn : ℕ → Props → Forest Step Key → Type 0
EvenIn start outer leaf = Unit {0}
EvenIn start outer (node step keys children siblings) =
    ((index : Option ℕ) → IsAmong (value_of stated_dim keys) index → (is_of register step ≡ true → (start + start_of keys index) % bytes_of (width_of (size_at (props_inside keys outer))) ≡ 0) × EvenIn (start + start_of keys index) (props_inside keys outer) children)
    × EvenIn start outer siblings

-- ---- what the walk meets

every-flat_map : {X Y : Type 0} (P : Y → Type 0) (f : X → List Y) (xs : List X) → AllByRecursion (λ x. AllByRecursion P (f x)) xs → AllByRecursion P (flat_map f xs)
every-flat_map P f [] all = tt
every-flat_map P f (x ∷ xs) all = every-append P (f x) (flat_map f xs) all.0 (every-flat_map P f xs all.1)

among-range : (P : Option ℕ → Type 0) (start n limit : ℕ) → start + n ≡ limit → ((index : ℕ) → index < limit → P (Some index)) → AllByRecursion P (map Some (range_with_len start n))
among-range P start zero limit end all = tt
among-range P start (suc n) limit end all = (all start (omega (arith, end)), among-range P (start + 1) n limit (omega (arith, end)) all)

among-indexes : (P : Option ℕ → Type 0) (dim : Option ℕ) → ((index : Option ℕ) → IsAmong dim index → P index) → AllByRecursion P (indexes_of dim)
among-indexes P None all = (all None tt, tt)
among-indexes P (Some n) all = among-range P 0 n n (omega arith) (λ index less. all (Some index) less)

even-spot : (way : List Way) (name : List ℕ) (start : ℕ) (props : Props) (keys : List Key) (own : List (Row Step Key)) → start % bytes_of (width_of (size_at props)) ≡ 0 → IsEven (spot_of way name start props keys own)
unfolding IsEven spot_of
even-spot way name start props keys own even = (width_of (size_at props), refl, even)

even-in : (way : List Way) (start : ℕ) (outer : Props) (f : Forest Step Key) → EvenIn start outer f → AllByRecursion IsEven (spots_in way start outer f)
unfolding EvenIn spots_in
even-in way start outer leaf even = tt
even-in way start outer (node s ks c n) even =
    every-append IsEven (flat_map at (indexes_of (value_of stated_dim ks))) (spots_in way start outer n)
    (every-flat_map IsEven at (indexes_of (value_of stated_dim ks))
    (among-indexes (λ index. AllByRecursion IsEven (at index)) (value_of stated_dim ks) (λ index among.
    every-append IsEven (own index (is_of register s)) (spots_in (way_inside way s ks index) (start + start_of ks index) (props_inside ks outer) c)
    (own-even index (is_of register s) ((even.0 index among).0))
    (even-in (way_inside way s ks index) (start + start_of ks index) (props_inside ks outer) c (even.0 index among).1))))
    (even-in way start outer n even.1)
  where
    own : Option ℕ → Bool → List Spot
    own index b = cond b (spot_of (way_inside way s ks index) s.name (start + start_of ks index) (props_inside ks outer) ks (rows (record { keys = ks; below = c })) ∷ []) []

    at : Option ℕ → List Spot
    at index = own index (is_of register s) ++ spots_in (way_inside way s ks index) (start + start_of ks index) (props_inside ks outer) c

    own-even : (index : Option ℕ) (b : Bool) → (b ≡ true → (start + start_of ks index) % bytes_of (width_of (size_at (props_inside ks outer))) ≡ 0) → AllByRecursion IsEven (own index b)
    own-even index true h = (even-spot (way_inside way s ks index) s.name (start + start_of ks index) (props_inside ks outer) ks (rows (record { keys = ks; below = c })) (h refl), tt)
    own-even index false h = tt

-- ---- what the flat rows tell

abbrev IsToldEven : Visit → Type 0
IsToldEven visit = ends_with (is_of register) visit.path ≡ true → some_uneven (bytes_of (width_down visit.down)) visit.down ≡ false

all-even : (all : List (Row Step Key)) → uneven all ≡ [] → AllByRecursion IsToldEven (visits_of all)
unfolding uneven paths_of_kind visits_of
all-even all none =
    every_map (paths_of all) (none-pass_of (λ path. some_uneven (bytes_of (width_down (keys_down all path))) (keys_down all path)) (ends_with (is_of register)) (paths_of all) none)
  where
    every_map : (paths : List (List Step)) → AllByRecursion (λ path. ends_with (is_of register) path ≡ true → some_uneven (bytes_of (width_down (keys_down all path))) (keys_down all path) ≡ false) paths → AllByRecursion IsToldEven (map (visit_at all) paths)
    every_map [] h = tt
    every_map (path ∷ paths) h = (h.0, every_map paths h.1)

is-zero : (n : ℕ) → not (nat_eq n 0) ≡ false → n ≡ 0
is-zero n h = let yes = not_false (nat_eq n 0) h in grind (arith, nat_tests, yes)

even-chosen : (bytes : ℕ) (down : List (List Key)) (chosen : List (Option ℕ)) → Chosen down chosen → some_uneven bytes down ≡ false → address_of down chosen % bytes ≡ 0
unfolding some_uneven
even-chosen bytes down chosen has e = is-zero _ (none-chosen (λ n. not (nat_eq (n % bytes) 0)) down chosen has e)

even-visits : (path : List Step) (down : List (List Key)) (chosen : List (Option ℕ)) (g : Forest Step Key) → AllByRecursion IsToldEven (visits path down g) → Every IsUnfoldedElement g → Chosen down chosen → EvenIn (address_of down chosen) (properties_of down) g
unfolding visits Every EvenIn
even-visits path down chosen leaf told elements has = tt
even-visits path down chosen (node s ks c n) told elements has = (
  λ index among.
      let all = further down chosen ks index has (has-members ks elements.0.members) among in
      let here : is_of register s ≡ true → address_of (down ++ ks ∷ []) (chosen ++ index ∷ []) % bytes_of (width_down (down ++ ks ∷ [])) ≡ 0 =
      λ is. even-chosen (bytes_of (width_down (down ++ ks ∷ []))) (down ++ ks ∷ []) (chosen ++ index ∷ []) all (told.0 (ends-with (is_of register) path s ∙ is)) in
      let inner = even-visits (path ++ s ∷ []) (down ++ ks ∷ []) (chosen ++ index ∷ []) c (every-left IsToldEven (visits (path ++ s ∷ []) (down ++ ks ∷ []) c) (visits path down n) told.1) elements.1 all in
      let moved : ◌≡◌ {A = ℕ × Props} (address_of (down ++ ks ∷ []) (chosen ++ index ∷ []), properties_of (down ++ ks ∷ [])) (address_of down chosen + start_of ks index, props_inside ks (properties_of down)) = λ i. (address-down down chosen ks index (as_many down chosen has) i, properties-down down ks i) in (
        subst (λ (x : ℕ × Props). is_of register s ≡ true → x.0 % bytes_of (width_of (size_at x.1)) ≡ 0) moved here,
        subst (λ (x : ℕ × Props). EvenIn x.0 x.1 c) moved inner,
      ),
  even-visits path down chosen n (every-right IsToldEven (visits (path ++ s ∷ []) (down ++ ks ∷ []) c) (visits path down n) told.1) elements.2 has,
)

even-device : (device : Device) → IsUnfolded device → uneven (device_rows device) ≡ [] → EvenIn 0 device.props (device_tree device).below
unfolding device_tree
even-device device unfolded none =
    let keys = stated (device_places device) in
    let told = subst (λ (all : List Visit). AllByRecursion IsToldEven all) (walk-rows (device_tree device) (distinct-steps device unfolded)) (all-even (device_rows device) none) in
    let some : HasMembers keys = λ e. absurd (let no = sym (device-dim device) ∙ e in cc) in
    let even = even-visits [] (keys ∷ []) (None ∷ []) (device_tree device).below told.1 unfolded.elements (some, tt, tt) in
    let moved : ◌≡◌ {A = ℕ × Props} (address_of (keys ∷ []) (None ∷ []), properties_of (keys ∷ [])) (0, device.props) = λ i. (device-address device i, device-holds device i) in
    subst (λ (x : ℕ × Props). EvenIn x.0 x.1 (device_tree device).below) moved even

even-peripherals : (outer : Props) (f : Forest Step Key) → EvenIn 0 outer f → AllByRecursion IsEven (spots_of_peripherals outer f)
unfolding EvenIn spots_of_peripherals
even-peripherals outer leaf even = tt
even-peripherals outer (node s ks c n) even =
    every-append IsEven (spots_in (peripheral_way s ks) (start_of ks None) (props_inside ks outer) c) (spots_of_peripherals outer n)
    (even-in (peripheral_way s ks) (start_of ks None) (props_inside ks outer) c (subst (λ (n : ℕ). EvenIn n (props_inside ks outer) c) (omega arith) (even.0 None tt).1))
    (even-peripherals outer n even.1)

pub even-spots : (device : Device) → IsUnfolded device → uneven (device_rows device) ≡ [] → AllByRecursion IsEven (spots_of_peripherals device.props (device_tree device).below)
even-spots device unfolded none = even-peripherals device.props (device_tree device).below (even-device device unfolded none)
