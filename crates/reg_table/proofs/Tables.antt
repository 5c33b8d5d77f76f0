-- The table by a walk of the tree is that of the flat rows.
use Rattle.std.proofs.Common.{◌≡◌, ℕ, suc, ◌+◌, ◌*◌, unwrap_or, Bool, false, cond, List, length, [], ◌∷◌, ◌++◌, map, reverse, Option, Some, None, refl, sym, ap, ap₂, ◌∙◌, append_assoc, append-nil, zero-add, arith}
use Rattle.std.specs.List.{AllByRecursion, flat_map, list_any, zip}
use Rattle.std.proofs.lemmas.Grind.{flat_map-append}
use Rattle.std.proofs.lemmas.List.{reverse-append}
use Rattle.std.proofs.lemmas.List.Folds.{flat_map-map}
use Rattle.std.proofs.lemmas.List.Sums.{sum_by-cons}
use Rattle.pac_base.specs.declared.path.Step.{Step as NamedStep}
use Rattle.reg_table.specs.Registers.{Member, register_row, row_path, rows_of_member, table_of}
use Rattle.reg_table.specs.Walk.{rows_in, rows_of_peripherals, props_inside, path_inside, peripheral_path}
use Rattle.reg_table.specs.declared.row.Row.{Row as TableRow}
use Rattle.reg_table.proofs.Exchanges.{every-left, every-right, flat_map-agree, flat_map-flat_map}
use Rattle.reg_table.proofs.Members.{Known, below-known, members-spread}
use Rattle.reg_table.proofs.Unrolling.{members_at, below, spread}
use Rattle.svd_model.specs.declared.device.Device.{Device}
use Rattle.svd_model.specs.declared.device.Peripheral.{Peripheral}
use Rattle.svd_model.specs.declared.sibling.Sibling.{Sibling}
use Rattle.svd_model.specs.Facts.{IsUnfolded, IsUnfoldedElement, is_dim}
use Rattle.svd_model.specs.Keys.{Key, dim_count}
use Rattle.svd_model.specs.Properties.{nearest, holding}
use Rattle.svd_model.specs.Stating.{value_of, stated_size, stated_access, stated_reset, stated_mask, stated_increment, stated_dim, indexes_of, is_of, start_of, properties_of, address_of}
use Rattle.svd_model.specs.Steps.{Step, register, same_step, same_key}
use Rattle.svd_model.specs.Trees.{device_tree, device_rows, device_places, peripheral_under, peripheral_places, item_under}
use Rattle.svd_model.specs.Visits.{visit_at, visit_below, visits}
use Rattle.svd_model.proofs.Stated.{device-base, device-offset, device-props, device-dim}
use Rattle.svd_model.proofs.Steps.{same_step-finer}
use Rattle.svd_rows.specs.Elements.{IsDistinct, Every}
use Rattle.svd_rows.specs.Forest.{Forest, leaf, node, siblings}
use Rattle.svd_rows.specs.LookUps.{ends_with}
use Rattle.svd_rows.specs.Ranks.{stated}
use Rattle.svd_rows.specs.Rows.{Row, rows}
use Rattle.svd_rows.proofs.Facts.{IsDistinct-finer}
use Rattle.svd_values.specs.AccessorNames.{accessor_name, slot_name_of}

-- ---- one step further down

pub ends-with : (test : Step → Bool) (path : List Step) (step : Step) → ends_with test (path ++ step ∷ []) ≡ test step
unfolding ends_with
ends-with test [] step = refl
ends-with test (first ∷ []) step = refl
ends-with test (first ∷ next ∷ path) step = ends-with test (next ∷ path) step

pub length-snoc : {X : Type 0} (xs : List X) (x : X) → length (xs ++ x ∷ []) ≡ suc (length xs)
length-snoc [] x = refl
length-snoc (y ∷ xs) x = ap suc (length-snoc xs x)

nearest-one : {A : Type 0} (o : Option A) → nearest (o ∷ []) ≡ o
nearest-one None = refl
nearest-one (Some x) = refl

nearest-nested : {A : Type 0} (first : Option A) (others : List (Option A)) → nearest (first ∷ others) ≡ nearest (first ∷ nearest others ∷ [])
nearest-nested {A = A} None others = sym (nearest-one (nearest others))
nearest-nested {A = A} (Some x) others = refl

nearest-down : {A : Type 0} (one : Key → Option A) (down : List (List Key)) (keys : List Key) → nearest (map (value_of one) (reverse (down ++ keys ∷ []))) ≡ nearest (value_of one keys ∷ nearest (map (value_of one) (reverse down)) ∷ [])
nearest-down one down keys =
    ap (λ all. nearest (map (value_of one) all)) (reverse-append down (keys ∷ []))
    ∙ nearest-nested (value_of one keys) (map (value_of one) (reverse down))

pub properties-down : (down : List (List Key)) (keys : List Key) → properties_of (down ++ keys ∷ []) ≡ props_inside keys (properties_of down)
unfolding properties_of holding
properties-down down keys = λ i. record {
  size = nearest-down stated_size down keys i;
  access = nearest-down stated_access down keys i;
  reset_value = nearest-down stated_reset down keys i;
  reset_mask = nearest-down stated_mask down keys i;
}

-- the address of a member, one step further down
pub address-down : (down : List (List Key)) (chosen : List (Option ℕ)) (keys : List Key) (index : Option ℕ) → length down ≡ length chosen → address_of (down ++ keys ∷ []) (chosen ++ index ∷ []) ≡ address_of down chosen + start_of keys index
unfolding address_of
address-down [] [] keys index e = sum_by-cons start (keys, index) [] ∙ omega arith
  where
    start : List Key × Option ℕ → ℕ
    start level = start_of level.0 level.1
address-down [] (other ∷ chosen) keys index e = absurd (omega (arith, e))
address-down (first ∷ down) [] keys index e = absurd (omega (arith, e))
address-down (first ∷ down) (other ∷ chosen) keys index e =
    sum_by-cons start (first, other) (zip (down ++ keys ∷ []) (chosen ++ index ∷ []))
    ∙ ap (λ n. start_of first other + n) (address-down down chosen keys index (omega (arith, e)))
    ∙ sums (start_of first other) (address_of down chosen) (start_of keys index)
    ∙ sym (ap (λ n. n + start_of keys index) (sum_by-cons start (first, other) (zip down chosen)))
  where
    start : List Key × Option ℕ → ℕ
    start level = start_of level.0 level.1

    sums : (x y z : ℕ) → x + (y + z) ≡ x + y + z
    sums x y z = omega arith

-- the accessors behind a slot, with their indexes
abbrev named : List Step → List (Option ℕ) → List NamedStep
named path chosen = map (λ step. record { name = accessor_name step.0.name; index = step.1 }) (zip path chosen)

named-down : (path : List Step) (chosen : List (Option ℕ)) (step : Step) (index : Option ℕ) → length path ≡ length chosen → named (path ++ step ∷ []) (chosen ++ index ∷ []) ≡ named path chosen ++ record { name = accessor_name step.name; index = index } ∷ []
named-down [] [] step index e = refl
named-down [] (other ∷ chosen) step index e = absurd (omega (arith, e))
named-down (first ∷ path) [] step index e = absurd (omega (arith, e))
named-down (first ∷ path) (other ∷ chosen) step index e =
    ap (λ r. record { name = accessor_name first.name; index = other } ∷ r) (named-down path chosen step index (omega (arith, e)))

path-slot : (first : Step) → row_path (first ∷ []) (None ∷ None ∷ []) ≡ peripheral_path first.name
unfolding row_path
path-slot first = refl

path-down : (first : Step) (path : List Step) (a b : Option ℕ) (chosen : List (Option ℕ)) (step : Step) (index : Option ℕ) → length path ≡ length chosen → row_path (first ∷ (path ++ step ∷ [])) (a ∷ b ∷ (chosen ++ index ∷ [])) ≡ path_inside (row_path (first ∷ path) (a ∷ b ∷ chosen)) step.name index
unfolding row_path
path-down first path a b chosen step index e = ap (λ steps. record { slot = slot_name_of first.name; steps = steps }) (named-down path chosen step index e)

-- ---- the rows of the members that the walk meets

module _ (all : List (Row Step Key)) where
  -- the rows of a member, seen from the element of this path, whose member has these indexes
  rows_from : List Step → List (Option ℕ) → Member → List TableRow
  rows_from path chosen member = rows_of_member (visit_at all (path ++ member.0)) (chosen ++ member.1)

  rows_from-below : (path : List Step) (chosen : List (Option ℕ)) (s : Step) (index : Option ℕ) (member : Member) → rows_from path chosen (below s (member.0, index ∷ member.1)) ≡ rows_from (path ++ s ∷ []) (chosen ++ index ∷ []) member
  unfolding rows_from below
  rows_from-below path chosen s index member =
      ap₂ (λ p c. rows_of_member (visit_at all p) c) (sym (append_assoc path (s ∷ []) member.0)) (sym (append_assoc chosen (index ∷ []) member.1))

  one_index : (path : List Step) (chosen : List (Option ℕ)) (s : Step) (inner : List Member) (index : Option ℕ) → flat_map (λ member. rows_from path chosen (below s member)) (members_at inner index) ≡ rows_of_member (visit_at all (path ++ s ∷ [])) (chosen ++ index ∷ []) ++ flat_map (rows_from (path ++ s ∷ []) (chosen ++ index ∷ [])) inner
  unfolding members_at rows_from below
  one_index path chosen s inner index =
      ap (λ r. rows_of_member (visit_at all (path ++ s ∷ [])) (chosen ++ index ∷ []) ++ r)
      (flat_map-map (λ member. rows_from path chosen (below s member)) (λ member. (member.0, index ∷ member.1)) inner
      ∙ flat_map-agree _ _ (rows_from-below path chosen s index) inner)

  -- the rows of the members of an element, and of those below it
  rows_from-element : (path : List Step) (chosen : List (Option ℕ)) (s : Step) (inner : List Member) (indexes : List (Option ℕ)) → flat_map (rows_from path chosen) (map (below s) (flat_map (members_at inner) indexes)) ≡ flat_map (λ index. rows_of_member (visit_at all (path ++ s ∷ [])) (chosen ++ index ∷ []) ++ flat_map (rows_from (path ++ s ∷ []) (chosen ++ index ∷ [])) inner) indexes
  rows_from-element path chosen s inner indexes =
      flat_map-map (rows_from path chosen) (below s) (flat_map (members_at inner) indexes)
      ∙ flat_map-flat_map (λ member. rows_from path chosen (below s member)) (members_at inner) indexes
      ∙ flat_map-agree _ _ (one_index path chosen s inner) indexes

  rows-here : (first : Step) (path : List Step) (a b : Option ℕ) (chosen : List (Option ℕ)) (down : List (List Key)) (s : Step) (ks : List Key) (c : Forest Step Key) (index : Option ℕ) → length path ≡ length chosen → length down ≡ suc (suc (length chosen)) → Known all (visit_below (first ∷ path) down s ks c) → rows_of_member (visit_at all (first ∷ (path ++ s ∷ []))) (a ∷ b ∷ (chosen ++ index ∷ [])) ≡ cond (is_of register s) (register_row (path_inside (row_path (first ∷ path) (a ∷ b ∷ chosen)) s.name index) (address_of down (a ∷ b ∷ chosen) + start_of ks index) (props_inside ks (properties_of down)) (rows (record { keys = ks; below = c })) ∷ []) []
  unfolding rows_of_member Known
  rows-here first path a b chosen down s ks c index same longer known =
      let is = ends-with (is_of register) (first ∷ path) s in
      let at = address-down down (a ∷ b ∷ chosen) ks index longer in
      let named = path-down first path a b chosen s index same in
      ap (λ visit. rows_of_member visit (a ∷ b ∷ (chosen ++ index ∷ []))) known
      ∙ (λ i. cond (is i) (register_row (named i) (at i) (properties-down down ks i) (rows (record { keys = ks; below = c })) ∷ []) [])

  rows-spread : (first : Step) (path : List Step) (a b : Option ℕ) (chosen : List (Option ℕ)) (down : List (List Key)) (g : Forest Step Key) → length path ≡ length chosen → length down ≡ suc (suc (length chosen)) → AllByRecursion (Known all) (visits (first ∷ path) down g) → flat_map (rows_from (first ∷ path) (a ∷ b ∷ chosen)) (spread g) ≡ rows_in (row_path (first ∷ path) (a ∷ b ∷ chosen)) (address_of down (a ∷ b ∷ chosen)) (properties_of down) g
  unfolding spread rows_in visits
  rows-spread first path a b chosen down leaf same longer known = refl
  rows-spread first path a b chosen down (node s ks c n) same longer known =
      flat_map-append (rows_from (first ∷ path) (a ∷ b ∷ chosen)) (map (below s) (flat_map (members_at (spread c)) (indexes_of (value_of stated_dim ks)))) (spread n)
      ∙ ap₂ (λ here others. here ++ others)
      (rows_from-element (first ∷ path) (a ∷ b ∷ chosen) s (spread c) (indexes_of (value_of stated_dim ks))
      ∙ flat_map-agree _ _ (λ index.
      ap₂ (λ own inner. own ++ inner) (rows-here first path a b chosen down s ks c index same longer known.0)
      (rows-spread first (path ++ s ∷ []) a b (chosen ++ index ∷ []) (down ++ ks ∷ []) c (one_more path s chosen index same) (one_more down ks (a ∷ b ∷ chosen) index longer)
      (every-left (Known all) (visits (first ∷ (path ++ s ∷ [])) (down ++ ks ∷ []) c) (visits (first ∷ path) down n) known.1)
      ∙ (λ i. rows_in (path-down first path a b chosen s index same i) (address-down down (a ∷ b ∷ chosen) ks index longer i) (properties-down down ks i) c))) (indexes_of (value_of stated_dim ks)))
      (rows-spread first path a b chosen down n same longer (every-right (Known all) (visits (first ∷ (path ++ s ∷ [])) (down ++ ks ∷ []) c) (visits (first ∷ path) down n) known.1))
    where
      one_more : {X Y : Type 0} (xs : List X) (x : X) (ys : List Y) (y : Y) → length xs ≡ length ys → length (xs ++ x ∷ []) ≡ length (ys ++ y ∷ [])
      one_more xs x ys y e = length-snoc xs x ∙ ap suc e ∙ sym (length-snoc ys y)

-- ---- a device

device-start : (device : Device) → start_of (stated (device_places device)) None ≡ 0
device-start device =
    ap₂ (λ b o. unwrap_or b 0 + unwrap_or o 0 + 0 * unwrap_or (value_of stated_increment (stated (device_places device))) 0) (device-base device) (device-offset device) ∙ omega arith

pub device-address : (device : Device) → address_of (stated (device_places device) ∷ []) (None ∷ []) ≡ 0
unfolding address_of
device-address device =
    sum_by-cons (λ (level : List Key × Option ℕ). start_of level.0 level.1) (stated (device_places device), None) []
    ∙ ap (λ n. n + 0) (device-start device)

pub device-holds : (device : Device) → properties_of (stated (device_places device) ∷ []) ≡ device.props
unfolding properties_of
device-holds device =
    (λ i. record {
      size = nearest-one (value_of stated_size (stated (device_places device))) i;
      access = nearest-one (value_of stated_access (stated (device_places device))) i;
      reset_value = nearest-one (value_of stated_reset (stated (device_places device))) i;
      reset_mask = nearest-one (value_of stated_mask (stated (device_places device))) i;
    })
    ∙ device-props device

-- siblings have different steps
pub distinct-steps : (device : Device) → IsUnfolded device → IsDistinct same_step (device_tree device).below
distinct-steps device unfolded = IsDistinct-finer same_key same_step same_step-finer (device_tree device).below unfolded.distinct

-- no element without `dim` is an array
pub no-dim : (keys : List Key) → list_any is_dim keys ≡ false → value_of stated_dim keys ≡ None
unfolding value_of
no-dim [] plain = refl
no-dim (dim_count n ∷ keys) plain = absurd cc
no-dim (_ ∷ keys) plain = no-dim keys plain

module _ (device : Device) where
  abbrev keys_of_device : List Key
  keys_of_device = stated (device_places device)

  rows-peripherals : (entries : List (Sibling × Peripheral)) → Every IsUnfoldedElement (siblings (map peripheral_under entries)) → AllByRecursion (Known (device_rows device)) (visits [] (keys_of_device ∷ []) (siblings (map peripheral_under entries))) → flat_map (rows_from (device_rows device) [] (None ∷ [])) (spread (siblings (map peripheral_under entries))) ≡ rows_of_peripherals device.props (siblings (map peripheral_under entries))
  unfolding visits siblings rows_of_peripherals spread Every ends_with rows_of_member
  rows-peripherals [] elements known = refl
  rows-peripherals (entry ∷ entries) elements known =
      flat_map-append (rows_from all [] (None ∷ [])) (map (below s) (flat_map (members_at (spread inner)) (indexes_of (value_of stated_dim keys)))) (spread (siblings (map peripheral_under entries)))
      ∙ ap₂ (λ here others. here ++ others)
      (ap (λ dim. flat_map (rows_from all [] (None ∷ [])) (map (below s) (flat_map (members_at (spread inner)) (indexes_of dim)))) (no-dim keys elements.0.form.0)
      ∙ rows_from-element all [] (None ∷ []) s (spread inner) (None ∷ [])
      ∙ append-nil (flat_map (rows_from all (s ∷ []) (None ∷ None ∷ [])) (spread inner))
      ∙ rows-spread all s [] None None [] (keys_of_device ∷ keys ∷ []) inner refl refl (every-left (Known all) (visits (s ∷ []) (keys_of_device ∷ keys ∷ []) inner) (visits [] (keys_of_device ∷ []) (siblings (map peripheral_under entries))) known.1)
      ∙ (λ i. rows_in (slot i) (starts i) (holds i) inner))
      (rows-peripherals entries elements.2 (every-right (Known all) (visits (s ∷ []) (keys_of_device ∷ keys ∷ []) inner) (visits [] (keys_of_device ∷ []) (siblings (map peripheral_under entries))) known.1))
    where
      all : List (Row Step Key)
      all = device_rows device

      s : Step
      s = (peripheral_under entry).0

      keys : List Key
      keys = stated (peripheral_places entry.1)

      inner : Forest Step Key
      inner = siblings (map item_under entry.1.children.items)

      slot : row_path (s ∷ []) (None ∷ None ∷ []) ≡ peripheral_path entry.0.name
      slot = path-slot s

      starts : address_of (keys_of_device ∷ keys ∷ []) (None ∷ None ∷ []) ≡ start_of keys None
      starts = address-down (keys_of_device ∷ []) (None ∷ []) keys None refl ∙ ap (λ n. n + start_of keys None) (device-address device) ∙ zero-add (start_of keys None)

      holds : properties_of (keys_of_device ∷ keys ∷ []) ≡ props_inside keys device.props
      holds = properties-down (keys_of_device ∷ []) keys ∙ ap (props_inside keys) (device-holds device)

  -- the table of the flat rows is what the walk gives
  pub table-rows : IsUnfolded device → table_of (device_rows device) ≡ rows_of_peripherals device.props (device_tree device).below
  unfolding device_tree table_of rows_of_member members_at rows_from ends_with
  table-rows unfolded =
      ap (flat_map (λ member. rows_of_member (visit_at (device_rows device) member.0) member.1)) (members-spread (device_tree device) distinct (device-dim device))
      ∙ flat_map-map (λ member. rows_of_member (visit_at (device_rows device) member.0) member.1) (λ member. (member.0, None ∷ member.1)) (spread (device_tree device).below)
      ∙ rows-peripherals device.peripherals.entries unfolded.elements (below-known (device_tree device) distinct)
    where
      distinct : IsDistinct same_step (device_tree device).below
      distinct = distinct-steps device unfolded
