-- The members of registers that the flat rows tell are those that a walk of the tree meets.
use Rattle.std.proofs.Common.{◌≡◌, ℕ, suc, ◌+◌, Bool, true, false, ◌&&◌, cond, List, length, [], ◌∷◌, ◌++◌, map, filter, drop, Option, None, is_some, refl, sym, ap, ap₂, ◌∙◌, append_assoc, append-nil, zero-add, arith}
use Rattle.std.specs.List.{AllByRecursion, flat_map}
use Rattle.std.proofs.lemmas.Grind.{flat_map-append}
use Rattle.std.proofs.lemmas.List.Folds.{flat_map-map}
use Rattle.overlap_sweep.specs.Fields.{shared_fields}
use Rattle.overlap_sweep.specs.Overlaps.{register_members, last_name, is_alternate_cluster, stated_alternate, stated_group}
use Rattle.overlap_sweep.specs.Walk.{way_inside, spot_of, spots_in, spots_of_peripherals, peripheral_way}
use Rattle.overlap_sweep.specs.declared.spot.Spot.{Spot}
use Rattle.overlap_sweep.specs.declared.spot.Way.{Way}
use Rattle.reg_table.specs.Registers.{Member, members_in_order}
use Rattle.reg_table.specs.Walk.{props_inside}
use Rattle.reg_table.proofs.Exchanges.{every-left, every-right, flat_map-agree, flat_map-flat_map}
use Rattle.reg_table.proofs.Members.{Known, below-known, members-spread}
use Rattle.reg_table.proofs.Tables.{ends-with, length-snoc, properties-down, address-down, device-address, device-holds, distinct-steps, no-dim}
use Rattle.reg_table.proofs.Unrolling.{members_at, below, spread}
use Rattle.svd_model.specs.declared.device.Device.{Device}
use Rattle.svd_model.specs.declared.device.Peripheral.{Peripheral}
use Rattle.svd_model.specs.declared.sibling.Sibling.{Sibling}
use Rattle.svd_model.specs.Checking.{bytes_of, width_down, width_of}
use Rattle.svd_model.specs.Facts.{IsUnfolded, IsUnfoldedElement}
use Rattle.svd_model.specs.Keys.{Key}
use Rattle.svd_model.specs.Properties.{size_at}
use Rattle.svd_model.specs.Stating.{value_of, stated_dim, indexes_of, is_of, start_of, properties_of, address_of, keys_at, keys_down}
use Rattle.svd_model.specs.Steps.{Step, cluster, register, same_step}
use Rattle.svd_model.specs.Trees.{device_tree, device_rows, device_places, peripheral_under, peripheral_places, item_under}
use Rattle.svd_model.specs.Visits.{Visit, visit_below, visits}
use Rattle.svd_model.proofs.Stated.{device-dim}
use Rattle.svd_rows.specs.Elements.{IsDistinct, Every}
use Rattle.svd_rows.specs.Forest.{Forest, leaf, node, siblings}
use Rattle.svd_rows.specs.LookUps.{ends_with, inside, keys_of}
use Rattle.svd_rows.specs.Ranks.{stated}
use Rattle.svd_rows.specs.Rows.{Row, rows}
use Rattle.svd_rows.proofs.LookUps.{keys_of-rows}

-- ---- a member as the flat rows tell it

abbrev pub index_here : List (Option ℕ) → Option ℕ
index_here [] = None
index_here (index ∷ indexes) = index

abbrev pub indexes_below : List (Option ℕ) → List (Option ℕ)
indexes_below [] = []
indexes_below (index ∷ indexes) = indexes

-- the way down a path, behind this front of it
unfoldable pub way_from : List (Row Step Key) → List Step → List Step → List (Option ℕ) → List Way
way_from all front [] indexes = []
way_from all front (s ∷ path) indexes =
    record { name = s.name; number = s.number; index = index_here indexes; alternate = is_alternate_cluster all (front ++ s ∷ []) } ∷ way_from all (front ++ s ∷ []) path (indexes_below indexes)

abbrev pub spot_at : List (Row Step Key) → Member → Spot
spot_at all member = record {
  way = way_from all [] member.0 (drop 1 member.1);
  name = last_name member.0;
  start = address_of (keys_down all member.0) member.1;
  bytes = bytes_of (width_down (keys_down all member.0));
  alternate = value_of stated_alternate (keys_at all member.0);
  grouped = is_some (value_of stated_group (keys_at all member.0));
  shared = shared_fields (properties_of (keys_down all member.0)) (inside same_step member.0 all);
}

-- a member, where its element is a register
unfoldable spots_of_member : List (Row Step Key) → Member → List Spot
spots_of_member all member = cond (ends_with (is_of register) member.0) (spot_at all member ∷ []) []

picked : {X Y : Type 0} (test : X → Bool) (f : X → Y) (xs : List X) → flat_map (λ x. cond (test x) (f x ∷ []) []) xs ≡ map f (filter test xs)
picked test f [] = refl
picked {X = X} {Y = Y} test f (x ∷ xs) = cases (test x) (picked test f xs)
  where
    cases : (b : Bool) → flat_map (λ x. cond (test x) (f x ∷ []) []) xs ≡ map f (filter test xs) → cond b (f x ∷ []) [] ++ flat_map (λ x. cond (test x) (f x ∷ []) []) xs ≡ map f (cond b (x ∷ filter test xs) (filter test xs))
    cases true rest = ap (λ r. f x ∷ r) rest
    cases false rest = rest

-- ---- one step further down

last-name : (path : List Step) (step : Step) → last_name (path ++ step ∷ []) ≡ step.name
unfolding last_name
last-name [] step = refl
last-name (first ∷ []) step = refl
last-name (first ∷ next ∷ path) step = last-name (next ∷ path) step

module _ (all : List (Row Step Key)) where
  way-down : (front path : List Step) (chosen : List (Option ℕ)) (s : Step) (index : Option ℕ) → length path ≡ length chosen → way_from all front (path ++ s ∷ []) (chosen ++ index ∷ []) ≡ way_from all front path chosen ++ record { name = s.name; number = s.number; index = index; alternate = is_alternate_cluster all (front ++ (path ++ s ∷ [])) } ∷ []
  unfolding way_from
  way-down front [] [] s index e = refl
  way-down front [] (other ∷ chosen) s index e = absurd (omega (arith, e))
  way-down front (x ∷ path) [] s index e = absurd (omega (arith, e))
  way-down front (x ∷ path) (other ∷ chosen) s index e =
      ap (λ r. record { name = x.name; number = x.number; index = other; alternate = is_alternate_cluster all (front ++ x ∷ []) } ∷ r)
      (way-down (front ++ x ∷ []) path chosen s index (omega (arith, e))
      ∙ ap (λ p. way_from all (front ++ x ∷ []) path chosen ++ record { name = s.name; number = s.number; index = index; alternate = is_alternate_cluster all p } ∷ []) (append_assoc front (x ∷ []) (path ++ s ∷ [])))

  keys-known : (visit : Visit) (ks : List Key) (c : Forest Step Key) → visit.own ≡ rows (record { keys = ks; below = c }) → Known all visit → keys_at all visit.path ≡ ks
  unfolding Known
  keys-known visit ks c own known =
      ap (λ (visit : Visit). keys_of visit.own) known ∙ ap keys_of own ∙ keys_of-rows (record { keys = ks; below = c })

  down-known : (visit : Visit) → Known all visit → keys_down all visit.path ≡ visit.down
  unfolding Known
  down-known visit known = ap (λ (visit : Visit). visit.down) known

  own-known : (visit : Visit) → Known all visit → inside same_step visit.path all ≡ visit.own
  unfolding Known
  own-known visit known = ap (λ (visit : Visit). visit.own) known

  alternate-here : (path : List Step) (s : Step) (ks : List Key) → keys_at all (path ++ s ∷ []) ≡ ks → is_alternate_cluster all (path ++ s ∷ []) ≡ (is_of cluster s && is_some (value_of stated_alternate ks))
  unfolding is_alternate_cluster
  alternate-here path s ks is = ap₂ (λ b keys. b && is_some (value_of stated_alternate keys)) (ends-with (is_of cluster) path s) is

  way-here : (first : Step) (path : List Step) (b : Option ℕ) (chosen : List (Option ℕ)) (s : Step) (ks : List Key) (index : Option ℕ) → length path ≡ length chosen → keys_at all (first ∷ (path ++ s ∷ [])) ≡ ks → way_from all [] (first ∷ (path ++ s ∷ [])) (b ∷ (chosen ++ index ∷ [])) ≡ way_inside (way_from all [] (first ∷ path) (b ∷ chosen)) s ks index
  way-here first path b chosen s ks index same is =
      way-down [] (first ∷ path) (b ∷ chosen) s index (ap suc same)
      ∙ ap (λ alternate. way_from all [] (first ∷ path) (b ∷ chosen) ++ record { name = s.name; number = s.number; index = index; alternate = alternate } ∷ []) (alternate-here (first ∷ path) s ks is)

  -- the members of registers among these, seen from the element of this path, whose member has these indexes
  spots_from : List Step → List (Option ℕ) → Member → List Spot
  spots_from path chosen member = spots_of_member all (path ++ member.0, chosen ++ member.1)

  spots_from-below : (path : List Step) (chosen : List (Option ℕ)) (s : Step) (index : Option ℕ) (member : Member) → spots_from path chosen (below s (member.0, index ∷ member.1)) ≡ spots_from (path ++ s ∷ []) (chosen ++ index ∷ []) member
  unfolding spots_from below
  spots_from-below path chosen s index member =
      ap₂ (λ p c. spots_of_member all (p, c)) (sym (append_assoc path (s ∷ []) member.0)) (sym (append_assoc chosen (index ∷ []) member.1))

  one_index : (path : List Step) (chosen : List (Option ℕ)) (s : Step) (inner : List Member) (index : Option ℕ) → flat_map (λ member. spots_from path chosen (below s member)) (members_at inner index) ≡ spots_of_member all (path ++ s ∷ [], chosen ++ index ∷ []) ++ flat_map (spots_from (path ++ s ∷ []) (chosen ++ index ∷ [])) inner
  unfolding members_at spots_from below
  one_index path chosen s inner index =
      ap (λ r. spots_of_member all (path ++ s ∷ [], chosen ++ index ∷ []) ++ r)
      (flat_map-map (λ member. spots_from path chosen (below s member)) (λ member. (member.0, index ∷ member.1)) inner
      ∙ flat_map-agree _ _ (spots_from-below path chosen s index) inner)

  spots_from-element : (path : List Step) (chosen : List (Option ℕ)) (s : Step) (inner : List Member) (indexes : List (Option ℕ)) → flat_map (spots_from path chosen) (map (below s) (flat_map (members_at inner) indexes)) ≡ flat_map (λ index. spots_of_member all (path ++ s ∷ [], chosen ++ index ∷ []) ++ flat_map (spots_from (path ++ s ∷ []) (chosen ++ index ∷ [])) inner) indexes
  spots_from-element path chosen s inner indexes =
      flat_map-map (spots_from path chosen) (below s) (flat_map (members_at inner) indexes)
      ∙ flat_map-flat_map (λ member. spots_from path chosen (below s member)) (members_at inner) indexes
      ∙ flat_map-agree _ _ (one_index path chosen s inner) indexes

  spots-here : (first : Step) (path : List Step) (a b : Option ℕ) (chosen : List (Option ℕ)) (down : List (List Key)) (s : Step) (ks : List Key) (c : Forest Step Key) (index : Option ℕ) → length path ≡ length chosen → length down ≡ suc (suc (length chosen)) → Known all (visit_below (first ∷ path) down s ks c) → spots_of_member all (first ∷ (path ++ s ∷ []), a ∷ b ∷ (chosen ++ index ∷ [])) ≡ cond (is_of register s) (spot_of (way_inside (way_from all [] (first ∷ path) (b ∷ chosen)) s ks index) s.name (address_of down (a ∷ b ∷ chosen) + start_of ks index) (props_inside ks (properties_of down)) ks (rows (record { keys = ks; below = c })) ∷ []) []
  unfolding spots_of_member spot_of
  spots-here first path a b chosen down s ks c index same longer known =
      let visit = visit_below (first ∷ path) down s ks c in
      let is = ends-with (is_of register) (first ∷ path) s in
      let keys = keys-known visit ks c refl known in
      let all_down = down-known visit known in
      let at = address-down down (a ∷ b ∷ chosen) ks index longer in
      let way = way-here first path b chosen s ks index same keys in
      let start = ap (λ d. address_of d (a ∷ b ∷ (chosen ++ index ∷ []))) all_down ∙ at in
      let bytes = ap (λ d. bytes_of (width_down d)) all_down ∙ ap (λ props. bytes_of (width_of (size_at props))) (properties-down down ks) in
      let shared = ap₂ (λ d own. shared_fields (properties_of d) own) all_down (own-known visit known) ∙ ap (λ props. shared_fields props visit.own) (properties-down down ks) in
      λ i. cond (is i) (record {
        way = way i;
        name = last-name (first ∷ path) s i;
        start = start i;
        bytes = bytes i;
        alternate = value_of stated_alternate (keys i);
        grouped = is_some (value_of stated_group (keys i));
        shared = shared (i);
      } ∷ []) []

  spots-spread : (first : Step) (path : List Step) (a b : Option ℕ) (chosen : List (Option ℕ)) (down : List (List Key)) (g : Forest Step Key) → length path ≡ length chosen → length down ≡ suc (suc (length chosen)) → AllByRecursion (Known all) (visits (first ∷ path) down g) → flat_map (spots_from (first ∷ path) (a ∷ b ∷ chosen)) (spread g) ≡ spots_in (way_from all [] (first ∷ path) (b ∷ chosen)) (address_of down (a ∷ b ∷ chosen)) (properties_of down) g
  unfolding spread spots_in visits
  spots-spread first path a b chosen down leaf same longer known = refl
  spots-spread first path a b chosen down (node s ks c n) same longer known =
      flat_map-append (spots_from (first ∷ path) (a ∷ b ∷ chosen)) (map (below s) (flat_map (members_at (spread c)) (indexes_of (value_of stated_dim ks)))) (spread n)
      ∙ ap₂ (λ here others. here ++ others)
      (spots_from-element (first ∷ path) (a ∷ b ∷ chosen) s (spread c) (indexes_of (value_of stated_dim ks))
      ∙ flat_map-agree _ _ (λ index.
      ap₂ (λ own inner. own ++ inner) (spots-here first path a b chosen down s ks c index same longer known.0)
      (spots-spread first (path ++ s ∷ []) a b (chosen ++ index ∷ []) (down ++ ks ∷ []) c (one_more path s chosen index same) (one_more down ks (a ∷ b ∷ chosen) index longer)
      (every-left (Known all) (visits (first ∷ (path ++ s ∷ [])) (down ++ ks ∷ []) c) (visits (first ∷ path) down n) known.1)
      ∙ (λ i. spots_in (way-here first path b chosen s ks index same (keys-known (visit_below (first ∷ path) down s ks c) ks c refl known.0) i) (address-down down (a ∷ b ∷ chosen) ks index longer i) (properties-down down ks i) c))) (indexes_of (value_of stated_dim ks)))
      (spots-spread first path a b chosen down n same longer (every-right (Known all) (visits (first ∷ (path ++ s ∷ [])) (down ++ ks ∷ []) c) (visits (first ∷ path) down n) known.1))
    where
      one_more : {X Y : Type 0} (xs : List X) (x : X) (ys : List Y) (y : Y) → length xs ≡ length ys → length (xs ++ x ∷ []) ≡ length (ys ++ y ∷ [])
      one_more xs x ys y e = length-snoc xs x ∙ ap suc e ∙ sym (length-snoc ys y)

way-peripheral : (all : List (Row Step Key)) (entry : Sibling × Peripheral) → way_from all [] ((peripheral_under entry).0 ∷ []) (None ∷ []) ≡ peripheral_way (peripheral_under entry).0 (stated (peripheral_places entry.1))
unfolding way_from is_alternate_cluster ends_with
way-peripheral all entry = refl

-- ---- a device

module _ (device : Device) where
  abbrev keys_of_device : List Key
  keys_of_device = stated (device_places device)

  spots-peripherals : (entries : List (Sibling × Peripheral)) → Every IsUnfoldedElement (siblings (map peripheral_under entries)) → AllByRecursion (Known (device_rows device)) (visits [] (keys_of_device ∷ []) (siblings (map peripheral_under entries))) → flat_map (spots_from (device_rows device) [] (None ∷ [])) (spread (siblings (map peripheral_under entries))) ≡ spots_of_peripherals device.props (siblings (map peripheral_under entries))
  unfolding visits siblings spots_of_peripherals spread Every ends_with spots_of_member
  spots-peripherals [] elements known = refl
  spots-peripherals (entry ∷ entries) elements known =
      flat_map-append (spots_from all [] (None ∷ [])) (map (below s) (flat_map (members_at (spread inner)) (indexes_of (value_of stated_dim keys)))) (spread (siblings (map peripheral_under entries)))
      ∙ ap₂ (λ here others. here ++ others)
      (ap (λ dim. flat_map (spots_from all [] (None ∷ [])) (map (below s) (flat_map (members_at (spread inner)) (indexes_of dim)))) (no-dim keys elements.0.form.0)
      ∙ spots_from-element all [] (None ∷ []) s (spread inner) (None ∷ [])
      ∙ append-nil (flat_map (spots_from all (s ∷ []) (None ∷ None ∷ [])) (spread inner))
      ∙ spots-spread all s [] None None [] (keys_of_device ∷ keys ∷ []) inner refl refl (every-left (Known all) (visits (s ∷ []) (keys_of_device ∷ keys ∷ []) inner) (visits [] (keys_of_device ∷ []) (siblings (map peripheral_under entries))) known.1)
      ∙ (λ i. spots_in (way i) (starts i) (holds i) inner))
      (spots-peripherals entries elements.2 (every-right (Known all) (visits (s ∷ []) (keys_of_device ∷ keys ∷ []) inner) (visits [] (keys_of_device ∷ []) (siblings (map peripheral_under entries))) known.1))
    where
      all : List (Row Step Key)
      all = device_rows device

      s : Step
      s = (peripheral_under entry).0

      keys : List Key
      keys = stated (peripheral_places entry.1)

      inner : Forest Step Key
      inner = siblings (map item_under entry.1.children.items)

      way : way_from all [] (s ∷ []) (None ∷ []) ≡ peripheral_way s keys
      way = way-peripheral all entry

      starts : address_of (keys_of_device ∷ keys ∷ []) (None ∷ None ∷ []) ≡ start_of keys None
      starts = address-down (keys_of_device ∷ []) (None ∷ []) keys None refl ∙ ap (λ n. n + start_of keys None) (device-address device) ∙ zero-add (start_of keys None)

      holds : properties_of (keys_of_device ∷ keys ∷ []) ≡ props_inside keys device.props
      holds = properties-down (keys_of_device ∷ []) keys ∙ ap (props_inside keys) (device-holds device)

  -- the members of registers of the flat rows are those of the walk
  pub spots-rows : IsUnfolded device → map (spot_at (device_rows device)) (register_members (device_rows device)) ≡ spots_of_peripherals device.props (device_tree device).below
  unfolding device_tree register_members spots_of_member members_at spots_from ends_with
  spots-rows unfolded =
      sym (picked (λ member. ends_with (is_of register) member.0) (spot_at all) (members_in_order all))
      ∙ ap (flat_map (spots_of_member all)) (members-spread (device_tree device) distinct (device-dim device))
      ∙ flat_map-map (spots_of_member all) (λ member. (member.0, None ∷ member.1)) (spread (device_tree device).below)
      ∙ spots-peripherals device.peripherals.entries unfolded.elements (below-known (device_tree device) distinct)
    where
      all : List (Row Step Key)
      all = device_rows device

      distinct : IsDistinct same_step (device_tree device).below
      distinct = distinct-steps device unfolded
