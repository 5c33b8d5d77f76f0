-- Where checking finds no fault in the flat rows, each element that a walk of the tree meets fits.
use Rattle.std.proofs.Common.{◌≡◌, ℕ, zero, suc, ◌+◌, ◌*◌, ◌^◌, ◌<◌, ◌≤◌, Bool, true, false, ◌||◌, not, cond, List, [], ◌∷◌, ◌++◌, length, map, filter, Option, Some, None, unwrap_or, refl, sym, ap, ap₂, ◌∙◌, subst, arith}
use Rattle.std.specs.List.{AllByRecursion, flat_map, list_any, range_with_len, sum_by, zip}
use Rattle.std.proofs.lemmas.Bool.Decides.{nat_tests}
use Rattle.std.proofs.lemmas.List.{reverse-append}
use Rattle.std.proofs.lemmas.List.Folds.{list_any-append}
use Rattle.std.proofs.lemmas.List.Sums.{sum_by-cons}
use Rattle.pac_base.specs.Widths.{bits_of}
use Rattle.reg_table.specs.Walk.{FitsHere, FitIn, IsAmong, props_inside}
use Rattle.reg_table.proofs.Exchanges.{every-left, every-right}
use Rattle.reg_table.proofs.Tables.{ends-with, properties-down, address-down, device-address, device-holds, distinct-steps}
use Rattle.svd_model.specs.declared.device.Device.{Device}
use Rattle.svd_model.specs.declared.props.Props.{Props}
use Rattle.svd_model.specs.Checking.{bad_width, address_range, field_range, bytes_of, is_size, is_field_within, size_down, width_down, is_past, some_past, has_past_member, bad_widths, past_ranges, fields_past, loose_faults}
use Rattle.svd_model.specs.Facts.{IsUnfolded, IsUnfoldedElement, IsChecked, IsArrayDim}
use Rattle.svd_model.specs.Keys.{Key, dim_count}
use Rattle.svd_model.specs.Properties.{nearest}
use Rattle.svd_model.specs.Stating.{value_of, stated_dim, stated_base, stated_offset, stated_increment, is_of, start_of, properties_of, address_of, indexes_of, choices, members_of, paths_of, paths_of_kind, keys_down, keys_at}
use Rattle.svd_model.specs.Steps.{Step, Kind, peripheral, cluster, register, field, set, value, same_step}
use Rattle.svd_model.specs.Trees.{device_tree, device_rows, device_places}
use Rattle.svd_model.specs.Visits.{Visit, visit_at, visits_of, visit_below, visits}
use Rattle.svd_model.proofs.Stated.{device-dim}
use Rattle.svd_model.proofs.Walking.{walk-rows}
use Rattle.svd_rows.specs.Elements.{IsDistinct, Every}
use Rattle.svd_rows.specs.Forest.{Forest, leaf, node}
use Rattle.svd_rows.specs.LookUps.{ends_with, keys_of}
use Rattle.svd_rows.specs.Ranks.{stated}
use Rattle.svd_rows.specs.Rows.{Row}
use Rattle.svd_rows.proofs.LookUps.{keys_of-rows}

-- ---- lists

pub append-none : {X : Type 0} (xs ys : List X) → xs ++ ys ≡ [] → (xs ≡ []) × (ys ≡ [])
append-none [] ys e = (refl, e)
append-none (x ∷ xs) ys e = absurd cc

pub map-none : {X Y : Type 0} (f : X → Y) (xs : List X) → map f xs ≡ [] → xs ≡ []
map-none f [] e = refl
map-none f (x ∷ xs) e = absurd cc

none-pass : {X : Type 0} (test : X → Bool) (xs : List X) → filter test xs ≡ [] → AllByRecursion (λ x. test x ≡ false) xs
none-pass test [] e = tt
none-pass test (x ∷ xs) e = cases (test x) refl e (none-pass test xs)
  where
    cases : (b : Bool) → test x ≡ b → cond b (x ∷ filter test xs) (filter test xs) ≡ [] → (filter test xs ≡ [] → AllByRecursion (λ x. test x ≡ false) xs) → (test x ≡ false) × AllByRecursion (λ x. test x ≡ false) xs
    cases true is e rest = absurd cc
    cases false is e rest = (is, rest e)

pub none-pass_of : {X : Type 0} (test of : X → Bool) (xs : List X) → filter test (filter of xs) ≡ [] → AllByRecursion (λ x. of x ≡ true → test x ≡ false) xs
none-pass_of test of [] e = tt
none-pass_of {X = X} test of (x ∷ xs) e = cases (of x) refl e (none-pass_of test of xs)
  where
    inner : (b : Bool) → test x ≡ b → cond b (x ∷ filter test (filter of xs)) (filter test (filter of xs)) ≡ [] → (test x ≡ false) × (filter test (filter of xs) ≡ [])
    inner true is e = absurd cc
    inner false is e = (is, e)

    cases : (b : Bool) → of x ≡ b → filter test (cond b (x ∷ filter of xs) (filter of xs)) ≡ [] → (filter test (filter of xs) ≡ [] → AllByRecursion (λ x. of x ≡ true → test x ≡ false) xs) → (of x ≡ true → test x ≡ false) × AllByRecursion (λ x. of x ≡ true → test x ≡ false) xs
    cases true is e rest = let parts = inner (test x) refl e in ((λ _. parts.0), rest parts.1)
    cases false is e rest = ((λ yes. absurd (let no = sym is ∙ yes in cc)), rest e)

-- three facts of each together
pub joined : {X Y : Type 0} (view : X → Y) (P Q R : X → Type 0) (S : Y → Type 0) → ((x : X) → P x → Q x → R x → S (view x)) → (xs : List X) → AllByRecursion P xs → AllByRecursion Q xs → AllByRecursion R xs → AllByRecursion S (map view xs)
joined view P Q R S make [] p q r = tt
joined view P Q R S make (x ∷ xs) p q r = (make x p.0 q.0 r.0, joined view P Q R S make xs p.1 q.1 r.1)

right_false : (a b : Bool) → (a || b) ≡ false → b ≡ false
right_false true b h = absurd cc
right_false false b h = h

left_false : (a b : Bool) → (a || b) ≡ false → a ≡ false
left_false true b h = absurd cc
left_false false b h = refl

pub not_false : (b : Bool) → not b ≡ false → b ≡ true
not_false true h = refl
not_false false h = absurd cc

-- ---- the members of an element

abbrev pub HasMembers : List Key → Type 0
HasMembers keys = value_of stated_dim keys ≡ Some 0 → ⊥

-- each element on the way down has members, and this one among them
abbrev pub Chosen : List (List Key) → List (Option ℕ) → Type 0
Chosen [] [] = Unit {0}
Chosen [] (index ∷ chosen) = ⊥
Chosen (keys ∷ down) [] = ⊥
Chosen (keys ∷ down) (index ∷ chosen) = HasMembers keys × IsAmong (value_of stated_dim keys) index × Chosen down chosen

any-map : {X Y : Type 0} (f : Y → Bool) (g : X → Y) (xs : List X) → list_any f (map g xs) ≡ list_any (λ x. f (g x)) xs
any-map f g [] = refl
any-map f g (x ∷ xs) = ap (λ b. f (g x) || b) (any-map f g xs)

any-agree : {X : Type 0} (f g : X → Bool) → ((x : X) → f x ≡ g x) → (xs : List X) → list_any f xs ≡ list_any g xs
any-agree f g same [] = refl
any-agree f g same (x ∷ xs) = ap₂ (λ a b. a || b) (same x) (any-agree f g same xs)

-- an index that starts as far behind what is round it as this one, and with which nothing passes
abbrev Passed : (List (Option ℕ) → Bool) → List (List (Option ℕ)) → Option ℕ → Type 0
Passed f others index = (x : Option ℕ) × (unwrap_or x 0 ≡ unwrap_or index 0) × (list_any (λ chosen. f (x ∷ chosen)) others ≡ false)

module _ (f : List (Option ℕ) → Bool) (others : List (List (Option ℕ))) where
  abbrev each_way : List (Option ℕ) → List (List (Option ℕ))
  each_way indexes = flat_map (λ x. map (λ chosen. x ∷ chosen) others) indexes

  front : (index : Option ℕ) (more : List (Option ℕ)) → list_any f (each_way (index ∷ more)) ≡ false → list_any (λ chosen. f (index ∷ chosen)) others ≡ false
  front index more e =
      sym (any-map f (λ chosen. index ∷ chosen) others)
      ∙ left_false (list_any f (map (λ chosen. index ∷ chosen) others)) (list_any f (each_way more)) (sym (list_any-append f (map (λ chosen. index ∷ chosen) others) (each_way more)) ∙ e)

  in_range : (a n i : ℕ) → i < n → list_any f (each_way (map Some (range_with_len a n))) ≡ false → list_any (λ chosen. f (Some (a + i) ∷ chosen)) others ≡ false
  in_range a zero i less e = absurd (omega (arith, less))
  in_range a (suc n) zero less e =
      ap (λ m. list_any (λ chosen. f (Some m ∷ chosen)) others) (omega arith) ∙ front (Some a) (map Some (range_with_len (a + 1) n)) e
  in_range a (suc n) (suc i) less e =
      ap (λ m. list_any (λ chosen. f (Some m ∷ chosen)) others) (omega arith)
      ∙ in_range (a + 1) n i (omega (arith, less))
      (right_false (list_any f (map (λ chosen. Some a ∷ chosen) others)) (list_any f (each_way (map Some (range_with_len (a + 1) n)))) (sym (list_any-append f (map (λ chosen. Some a ∷ chosen) others) (each_way (map Some (range_with_len (a + 1) n)))) ∙ e))

  passed : (dim index : Option ℕ) → (dim ≡ Some 0 → ⊥) → IsAmong dim index → list_any f (each_way (indexes_of dim)) ≡ false → Passed f others index
  passed None None some among e = (None, refl, front None [] e)
  passed None (Some i) some among e = absurd (omega (arith, among))
  passed (Some zero) index some among e = absurd (some refl)
  passed (Some (suc n)) None some among e = (Some 0, refl, front (Some 0) (map Some (range_with_len (0 + 1) n)) e)
  passed (Some (suc n)) (Some i) some among e = (Some i, refl, ap (λ m. list_any (λ chosen. f (Some m ∷ chosen)) others) (omega arith) ∙ in_range 0 (suc n) i among e)

-- a test that no member passes, this one doesn't
pub none-chosen : (test : ℕ → Bool) (down : List (List Key)) (chosen : List (Option ℕ)) → Chosen down chosen → list_any (λ member. test (address_of down member)) (members_of down) ≡ false → test (address_of down chosen) ≡ false
unfolding members_of choices address_of
none-chosen test [] [] has e = left_false (test 0) false e
none-chosen test [] (index ∷ chosen) has e = absurd has
none-chosen test (keys ∷ down) [] has e = absurd has
none-chosen test (keys ∷ down) (index ∷ chosen) has e =
    let way = passed (λ member. test (sum_by start (zip (keys ∷ down) member))) (choices (map (λ keys. indexes_of (value_of stated_dim keys)) down)) (value_of stated_dim keys) index has.0 has.1 e in
    let same : start_of keys way.0 ≡ start_of keys index = ap (λ n. unwrap_or (value_of stated_base keys) 0 + unwrap_or (value_of stated_offset keys) 0 + n * unwrap_or (value_of stated_increment keys) 0) way.1 in
    ap test (sum_by-cons start (keys, index) (zip down chosen))
    ∙ none-chosen (λ n. test (start_of keys index + n)) down chosen has.2
    (any-agree _ _ (λ member. ap test (ap (λ n. n + sum_by start (zip down member)) (sym same) ∙ sym (sum_by-cons start (keys, way.0) (zip down member)))) (choices (map (λ keys. indexes_of (value_of stated_dim keys)) down))
    ∙ way.2)
  where
    start : List Key × Option ℕ → ℕ
    start level = start_of level.0 level.1

not-past : (room address : ℕ) → is_past room address ≡ false → address + room ≤ 2 ^ 64
not-past room address e = grind (arith, nat_tests, e)

-- where no member is past the addresses, this one isn't
none-past : (room : ℕ) (down : List (List Key)) (chosen : List (Option ℕ)) → Chosen down chosen → some_past room down ≡ false → address_of down chosen + room ≤ 2 ^ 64
unfolding some_past
none-past room down chosen has e = not-past room (address_of down chosen) (none-chosen (is_past room) down chosen has e)

pub further : (down : List (List Key)) (chosen : List (Option ℕ)) (keys : List Key) (index : Option ℕ) → Chosen down chosen → HasMembers keys → IsAmong (value_of stated_dim keys) index → Chosen (down ++ keys ∷ []) (chosen ++ index ∷ [])
further [] [] keys index has some among = (some, among, tt)
further [] (other ∷ chosen) keys index has some among = absurd has
further (first ∷ down) [] keys index has some among = absurd has
further (first ∷ down) (other ∷ chosen) keys index has some among = (has.0, has.1, further down chosen keys index has.2 some among)

pub as_many : (down : List (List Key)) (chosen : List (Option ℕ)) → Chosen down chosen → length down ≡ length chosen
as_many [] [] has = refl
as_many [] (index ∷ chosen) has = absurd has
as_many (keys ∷ down) [] has = absurd has
as_many (keys ∷ down) (index ∷ chosen) has = ap suc (as_many down chosen has.2)

some-member : (count : Option ℕ) → (count ≡ Some 0 → ⊥) → 1 ≤ unwrap_or count 1
some-member None none = omega arith
some-member (Some zero) none = absurd (none refl)
some-member (Some (suc n)) none = omega arith

-- the dimension of an array has a member
pub has-members : (keys : List Key) → AllByRecursion IsArrayDim keys → HasMembers keys
unfolding value_of
has-members [] all e = absurd cc
has-members (key ∷ keys) all e = first key all.0 (has-members keys all.1) e
  where
    first : (key : Key) → IsArrayDim key → (nearest (map stated_dim keys) ≡ Some 0 → ⊥) → nearest (stated_dim key ∷ map stated_dim keys) ≡ Some 0 → ⊥
    first (dim_count n) dim rest e = let is : n ≡ 0 = cc in let some : 1 ≤ n = dim.0 in absurd (omega (arith, is, some))
    first _ dim rest e = rest e

-- ---- what the flat rows tell of an element

-- an element of this kind isn't past the addresses
abbrev IsNotPast : Kind → List (List Key) → Type 0
IsNotPast peripheral down = some_past 1 down ≡ false
IsNotPast cluster down = some_past 1 down ≡ false
IsNotPast register down = some_past (bytes_of (width_down down)) down ≡ false
IsNotPast _ down = Unit {0}

-- what checking says of an element
record Told (visit : Visit) : Type 0 where
  past : (path : List Step) (step : Step) → visit.path ≡ path ++ step ∷ [] → IsNotPast step.kind visit.down
  sized : ends_with (is_of register) visit.path ≡ true → is_size (size_down visit.down) ≡ true
  fields : ends_with (is_of field) visit.path ≡ true → is_field_within (bits_of (width_down visit.down)) (keys_of visit.own) ≡ true

module _ (all : List (Row Step Key)) where
  past-at : (path : List Step) (kind : Kind) (name : List ℕ) (number : ℕ) → has_past_member all (path ++ record { kind = kind; name = name; number = number } ∷ []) ≡ false → IsNotPast kind (keys_down all (path ++ record { kind = kind; name = name; number = number } ∷ []))
  past-at path peripheral name number h = rw (reverse-append path (record { kind = peripheral; name = name; number = number } ∷ [])) at h
  past-at path cluster name number h = rw (reverse-append path (record { kind = cluster; name = name; number = number } ∷ [])) at h
  past-at path register name number h = rw (reverse-append path (record { kind = register; name = name; number = number } ∷ [])) at h
  past-at path field name number h = tt
  past-at path set name number h = tt
  past-at path value name number h = tt

  told-at : (path : List Step) → has_past_member all path ≡ false → (ends_with (is_of register) path ≡ true → not (is_size (size_down (keys_down all path))) ≡ false) → (ends_with (is_of field) path ≡ true → not (is_field_within (bits_of (width_down (keys_down all path))) (keys_at all path)) ≡ false) → Told (visit_at all path)
  told-at path past sized fields = record {
    past = λ front step e.
        subst (λ (p : List Step). IsNotPast step.kind (keys_down all p)) (sym e)
        (past-at front step.kind step.name step.number (subst (λ (p : List Step). has_past_member all p ≡ false) e past));
    sized = λ yes. not_false _ (sized yes);
    fields = λ yes. not_false _ (fields yes);
  }

  all-told : bad_widths all ≡ [] → past_ranges all ≡ [] → fields_past all ≡ [] → AllByRecursion Told (visits_of all)
  unfolding bad_widths past_ranges fields_past paths_of_kind visits_of
  all-told no_width no_range no_field =
      let sized = none-pass_of (λ path. not (is_size (size_down (keys_down all path)))) (ends_with (is_of register)) (paths_of all) no_width in
      let past = none-pass (has_past_member all) (paths_of all) no_range in
      let fields = none-pass_of (λ path. not (is_field_within (bits_of (width_down (keys_down all path))) (keys_at all path))) (ends_with (is_of field)) (paths_of all) no_field in
      joined (visit_at all) (λ path. has_past_member all path ≡ false) (λ path. ends_with (is_of register) path ≡ true → not (is_size (size_down (keys_down all path))) ≡ false) (λ path. ends_with (is_of field) path ≡ true → not (is_field_within (bits_of (width_down (keys_down all path))) (keys_at all path)) ≡ false) Told told-at (paths_of all) past sized fields

-- ---- the elements that the walk meets

less : (n m : ℕ) → n + 1 ≤ m → n < m
less n m h = omega arith

module _ (path : List Step) (down : List (List Key)) (chosen : List (Option ℕ)) (index : Option ℕ) (name : List ℕ) (number : ℕ) (ks : List Key) (c : Forest Step Key) where
  fits-here : (kind : Kind) → Told (visit_below path down (record { kind = kind; name = name; number = number }) ks c) → IsUnfoldedElement (record { kind = kind; name = name; number = number }) ks → IsDistinct same_step c → Chosen (down ++ ks ∷ []) (chosen ++ index ∷ []) → FitsHere (address_of (down ++ ks ∷ []) (chosen ++ index ∷ [])) (properties_of (down ++ ks ∷ [])) (record { kind = kind; name = name; number = number }) ks c
  fits-here peripheral told element distinct has = less _ _ (none-past 1 (down ++ ks ∷ []) (chosen ++ index ∷ []) has (told.past path _ refl))
  fits-here cluster told element distinct has = less _ _ (none-past 1 (down ++ ks ∷ []) (chosen ++ index ∷ []) has (told.past path _ refl))
  fits-here register told element distinct has = (
    told.sized (ends-with (is_of register) path (record { kind = register; name = name; number = number })),
    none-past (bytes_of (width_down (down ++ ks ∷ []))) (down ++ ks ∷ []) (chosen ++ index ∷ []) has (told.past path _ refl),
    distinct,
  )
  fits-here field told element distinct has = (
    ap (is_field_within (bits_of (width_down (down ++ ks ∷ [])))) (sym (keys_of-rows (record { keys = ks; below = c }))) ∙ told.fields (ends-with (is_of field) path (record { kind = field; name = name; number = number })),
    some-member (value_of stated_dim ks) (has-members ks element.members),
  )
  fits-here set told element distinct has = tt
  fits-here value told element distinct has = element.form.0

fit-visits : (path : List Step) (down : List (List Key)) (chosen : List (Option ℕ)) (g : Forest Step Key) → AllByRecursion Told (visits path down g) → Every IsUnfoldedElement g → IsDistinct same_step g → Chosen down chosen → FitIn (address_of down chosen) (properties_of down) g
unfolding visits Every IsDistinct FitIn
fit-visits path down chosen leaf told elements distinct has = tt
fit-visits path down chosen (node s ks c n) told elements distinct has = (
  λ index among.
      let all = further down chosen ks index has (has-members ks elements.0.members) among in
      let here = fits-here path down chosen index s.name s.number ks c s.kind told.0 elements.0 distinct.1 all in
      let inner = fit-visits (path ++ s ∷ []) (down ++ ks ∷ []) (chosen ++ index ∷ []) c (every-left Told (visits (path ++ s ∷ []) (down ++ ks ∷ []) c) (visits path down n) told.1) elements.1 distinct.1 all in
      let moved : ◌≡◌ {A = ℕ × Props} (address_of (down ++ ks ∷ []) (chosen ++ index ∷ []), properties_of (down ++ ks ∷ [])) (address_of down chosen + start_of ks index, props_inside ks (properties_of down)) = λ i. (address-down down chosen ks index (as_many down chosen has) i, properties-down down ks i) in (
        subst (λ (x : ℕ × Props). FitsHere x.0 x.1 s ks c) moved here,
        subst (λ (x : ℕ × Props). FitIn x.0 x.1 c) moved inner,
      ),
  fit-visits path down chosen n (every-right Told (visits (path ++ s ∷ []) (down ++ ks ∷ []) c) (visits path down n) told.1) elements.2 distinct.2 has,
)

-- a device fits whose registers have a size, and whose registers and fields lie within the addresses and registers
pub sound-fits : (device : Device) → IsUnfolded device → bad_widths (device_rows device) ≡ [] → past_ranges (device_rows device) ≡ [] → fields_past (device_rows device) ≡ [] → FitIn 0 device.props (device_tree device).below
unfolding device_tree
sound-fits device unfolded no_width no_range no_field =
    let keys = stated (device_places device) in
    let told = subst (λ (all : List Visit). AllByRecursion Told all) (walk-rows (device_tree device) (distinct-steps device unfolded)) (all-told (device_rows device) no_width no_range no_field) in
    let none : HasMembers keys = λ e. absurd (let no = sym (device-dim device) ∙ e in cc) in
    let fit = fit-visits [] (keys ∷ []) (None ∷ []) (device_tree device).below told.1 unfolded.elements (distinct-steps device unfolded) (none, tt, tt) in
    let moved : ◌≡◌ {A = ℕ × Props} (address_of (keys ∷ []) (None ∷ []), properties_of (keys ∷ [])) (0, device.props) = λ i. (device-address device i, device-holds device i) in
    subst (λ (x : ℕ × Props). FitIn x.0 x.1 (device_tree device).below) moved fit

-- a checked device fits
pub checked-fits : (device : Device) → IsChecked device → FitIn 0 device.props (device_tree device).below
unfolding loose_faults
checked-fits device checked =
    let one = append-none _ _ checked.faultless in
    let two = append-none _ _ one.1 in
    let three = append-none _ _ two.1 in
    let four = append-none _ _ three.1 in
    sound-fits device checked.unfolded (map-none bad_width _ one.0) (map-none address_range _ two.0) (map-none field_range _ four.0)
