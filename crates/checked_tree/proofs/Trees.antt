-- What checking says of the tree of a checked description.
use Rattle.std.proofs.Common.{◌≡◌, ℕ, ◌+◌, ◌*◌, ◌^◌, ◌<◌, ◌≤◌, true, inl, inr, List, [], ◌∷◌, map, None, option_map, unwrap_or, refl, sym, ap, ap₂, ◌∙◌, subst, arith, zero-add}
use Rattle.std.specs.List.{AllByRecursion}
use Rattle.checked_tree.specs.Blocks.{AreInBlock, InBlock, IsChild, IsCount}
use Rattle.checked_tree.specs.Devices.{AreChecked, ArePeripherals, PeripheralIsChecked, base_of}
use Rattle.checked_tree.specs.Laws.{CheckedTrees}
use Rattle.checked_tree.specs.Places.{ArePlaced}
use Rattle.checked_tree.specs.Registers.{RegisterIsChecked}
use Rattle.checked_tree.proofs.Aligned.{IsEven, none-left, placed-visits}
use Rattle.checked_tree.proofs.Names.{marked-accessor, word-accessor, word-slot}
use Rattle.checked_tree.proofs.Registers.{register-checked}
use Rattle.checked_tree.proofs.Siblings.{AreNamed, are-siblings, fewer, none-clashes, tells-distinct}
use Rattle.checked_tree.proofs.Slots.{slots-tell}
use Rattle.checked_tree.proofs.Typed.{AreTyped, IsDeclared, OfKind, are-typed}
use Rattle.overlap_check.specs.Meetings.{first_clash}
use Rattle.overlap_check.specs.Told.{first_of}
use Rattle.overlap_check.proofs.Pairs.{first-clash, upward_pair}
use Rattle.pac_base.specs.Names.{IsWord}
use Rattle.reg_table.specs.Walk.{FitIn, props_inside}
use Rattle.reg_table.proofs.Exchanges.{every-left, every-right}
use Rattle.reg_table.proofs.Faults.{HasMembers, checked-fits, has-members}
use Rattle.reg_table.proofs.Tables.{address-down, device-address, device-holds, distinct-steps, no-dim, properties-down}
use Rattle.svd_model.specs.declared.device.Device.{Device}
use Rattle.svd_model.specs.declared.device.Peripheral.{Peripheral}
use Rattle.svd_model.specs.declared.props.Props.{Props}
use Rattle.svd_model.specs.declared.sibling.Sibling.{Sibling}
use Rattle.svd_model.specs.Facts.{IsArrayDim, IsChecked, IsUnfoldedElement, element_limit, elements_of, is_counted}
use Rattle.svd_model.specs.Keys.{Key, dim_count}
use Rattle.svd_model.specs.Properties.{nearest}
use Rattle.svd_model.specs.Stating.{address_of, is_of, properties_of, start_of, stated_base, stated_dim, stated_increment, value_of}
use Rattle.svd_model.specs.Steps.{Step, Kind, peripheral, cluster, register, field, set, value}
use Rattle.svd_model.specs.Trees.{device_places, device_rows, device_tree, peripheral_under}
use Rattle.svd_model.specs.Visits.{Visit, visits}
use Rattle.svd_model.proofs.Stated.{device-dim, peripheral-offset}
use Rattle.svd_model.proofs.Walking.{walk-rows}
use Rattle.svd_rows.specs.Elements.{Every, count}
use Rattle.svd_rows.specs.Forest.{Forest, Tree, leaf, node, siblings, steps}
use Rattle.svd_rows.specs.Ranks.{stated}
use Rattle.svd_rows.proofs.Counting.{count-rows}
use Rattle.svd_values.specs.AccessorNames.{accessor_name, slot_name_of}

-- ---- registers and clusters

count-of : (keys : List Key) → AllByRecursion IsArrayDim keys → IsCount (value_of stated_dim keys)
unfolding value_of
count-of [] all = tt
count-of (key ∷ keys) all = first key all.0 (count-of keys all.1)
  where
    first : (key : Key) → IsArrayDim key → IsCount (nearest (map stated_dim keys)) → IsCount (nearest (stated_dim key ∷ map stated_dim keys))
    first (dim_count n) dim rest = dim
    first _ dim rest = rest

-- what stands in a block has an accessor
typed-named : (f : Forest Step Key) → AreTyped f → AreNamed f
unfolding AreTyped steps
typed-named leaf typed = tt
typed-named (node step keys children others) typed = (by step.kind typed.1, typed-named others typed.2)
  where
    by : (kind : Kind) → OfKind kind (IsDeclared step keys children) (AreTyped children) → Rattle.svd_model.specs.Checking.is_named kind ≡ true
    by register typed = refl
    by cluster typed = refl
    by peripheral typed = absurd typed
    by field typed = absurd typed
    by set typed = absurd typed
    by value typed = absurd typed

-- an element with one fact where it is a register, and another where it is a cluster
child-here : {D T A B : Type 0} (kind : Kind) (name : List ℕ) (number : ℕ) (keys : List Key) → IsUnfoldedElement (record { kind = kind; name = name; number = number }) keys → value_of stated_base keys ≡ None → OfKind kind D T → (D → A) → (T → B)
    → IsChild (record { kind = kind; name = name; number = number }) keys × InBlock (is_of register (record { kind = kind; name = name; number = number })) A B
child-here register name number keys element base typed of_register of_cluster =
    (record { kind = inl refl; accessor = marked-accessor name _ element.form; count = count-of keys element.members; no_base = base }, of_register typed)
child-here cluster name number keys element base typed of_register of_cluster =
    (record { kind = inr refl; accessor = marked-accessor name _ element.form; count = count-of keys element.members; no_base = base }, of_cluster typed)
child-here peripheral name number keys element base typed of_register of_cluster = absurd typed
child-here field name number keys element base typed of_register of_cluster = absurd typed
child-here set name number keys element base typed of_register of_cluster = absurd typed
child-here value name number keys element base typed of_register of_cluster = absurd typed

-- what is known of an element
record Known (start : ℕ) (outer : Props) (x : Step × Tree Step Key) : Type 0 where
  fit : FitIn start outer (siblings (x ∷ []))
  every : Every IsUnfoldedElement x.1.below
  none : first_clash [] x.1.below ≡ None
  few : count is_counted x.1.below ≤ element_limit

abbrev Checked : Props → Step × Tree Step Key → Type 0
Checked outer x = RegisterIsChecked (props_inside x.1.keys outer) x.1.keys x.1.below

declared-checked : (start : ℕ) (outer : Props) (step : Step) (keys : List Key) (children : Forest Step Key) → Known start outer (step, record { keys = keys; below = children }) → IsDeclared step keys children → Checked outer (step, record { keys = keys; below = children })
declared-checked start outer step keys children known declared =
    let all = subst (Known start outer) declared.is known in
    subst (Checked outer) (sym declared.is) (register-checked outer declared.key declared.entry start all.fit all.every all.none all.few)

in-block : (start : ℕ) (outer : Props) (seen : List (List ℕ × List ℕ)) (f : Forest Step Key) → AreTyped f → FitIn start outer f → Every IsUnfoldedElement f → first_clash seen f ≡ None → count is_counted f ≤ element_limit → AreInBlock outer f
unfolding AreTyped FitIn Every AreInBlock siblings
in-block start outer seen leaf typed fit every none few = tt
in-block start outer seen (node step keys children others) typed fit every none few =
    let clash = none-clashes seen step keys children others none in
    let less = fewer element_limit step keys children others few in
    let parts = child-here step.kind step.name step.number keys every.0 typed.0 typed.1
    (declared-checked start outer step keys children (record { fit = (fit.0, tt); every = every.1; none = clash.below; few = less.0 }))
    (λ below. (are-siblings children (typed-named children below) clash.below less.0, in-block (start + start_of keys None) (props_inside keys outer) [] children below (fit.0 None tt).1 every.1 clash.below less.0)) in
    (parts.0, parts.1, in-block start outer (Rattle.overlap_check.specs.Meetings.seen_too step seen) others typed.2 fit.1 every.2 clash.behind less.1)

-- ---- peripherals

peripherals-named : (entries : List (Sibling × Peripheral)) → AreNamed (siblings (map peripheral_under entries))
unfolding siblings steps
peripherals-named [] = tt
peripherals-named (entry ∷ entries) = (refl, peripherals-named entries)

abbrev IsPlainStep : Step → Type 0
IsPlainStep step = IsWord step.name

peripherals-plain : (entries : List (Sibling × Peripheral)) → Every IsUnfoldedElement (siblings (map peripheral_under entries)) → AllByRecursion IsPlainStep (steps (siblings (map peripheral_under entries)))
unfolding siblings steps Every
peripherals-plain [] every = tt
peripherals-plain (entry ∷ entries) every = (every.0.form.1, peripherals-plain entries every.2)

module _ (device : Device) where
  abbrev device_keys : List Key
  device_keys = stated (device_places device)

  alone : HasMembers device_keys
  alone e = absurd (let no = sym (device-dim device) ∙ e in cc)

  -- one peripheral, with those behind it
  one : (entry : Sibling × Peripheral) (others : Forest Step Key) → AllByRecursion IsEven (visits (((peripheral_under entry).0) ∷ []) (device_keys ∷ (peripheral_under entry).1.keys ∷ []) (peripheral_under entry).1.below) → FitIn 0 device.props (node (peripheral_under entry).0 (peripheral_under entry).1.keys (peripheral_under entry).1.below others) → IsUnfoldedElement (peripheral_under entry).0 (peripheral_under entry).1.keys → Every IsUnfoldedElement (peripheral_under entry).1.below → first_clash [] (peripheral_under entry).1.below ≡ None → count is_counted (peripheral_under entry).1.below ≤ element_limit
      → PeripheralIsChecked device.props (peripheral_under entry).0 (peripheral_under entry).1.keys (peripheral_under entry).1.below
  unfolding FitIn
  one entry others even fit element every none few = record {
    kind = refl;
    accessor = word-accessor entry.0.name element.form.1;
    slot = word-slot entry.0.name element.form.1;
    alone = no-dim keys element.form.0;
    starts = starts;
    base = subst (λ (n : ℕ). n < 2 ^ 64) at (fit.0 None tt).0;
    siblings = are-siblings inner (typed-named inner typed) none few;
    inside = in-block (base_of keys) (props_inside keys device.props) [] inner typed fits every none few;
    placed = subst (λ (x : ℕ × Props). ArePlaced x.0 x.1 inner) moved
        (placed-visits (step ∷ []) (device_keys ∷ keys ∷ []) (None ∷ None ∷ []) inner even every typed (subst (λ (x : ℕ × Props). FitIn x.0 x.1 inner) (sym moved) fits) (alone, tt, (has-members keys element.members, tt, tt)));
  }
    where
      step : Step
      step = (peripheral_under entry).0

      keys : List Key
      keys = (peripheral_under entry).1.keys

      inner : Forest Step Key
      inner = (peripheral_under entry).1.below

      typed : AreTyped inner
      typed = are-typed entry.1.children.items

      starts : start_of keys None ≡ base_of keys
      starts = ap (λ o. unwrap_or (value_of stated_base keys) 0 + unwrap_or o 0 + 0 * unwrap_or (value_of stated_increment keys) 0) (peripheral-offset entry.1) ∙ omega arith

      at : 0 + start_of keys None ≡ base_of keys
      at = zero-add (start_of keys None) ∙ starts

      fits : FitIn (base_of keys) (props_inside keys device.props) inner
      fits = subst (λ (n : ℕ). FitIn n (props_inside keys device.props) inner) at (fit.0 None tt).1

      moved : ◌≡◌ {A = ℕ × Props} (address_of (device_keys ∷ keys ∷ []) (None ∷ None ∷ []), properties_of (device_keys ∷ keys ∷ [])) (base_of keys, props_inside keys device.props)
      moved =
          ap₂ (λ n p. (n, p)) (address-down (device_keys ∷ []) (None ∷ []) keys None refl ∙ ap (λ n. n + start_of keys None) (device-address device) ∙ at)
          (properties-down (device_keys ∷ []) keys ∙ ap (props_inside keys) (device-holds device))

  each : (seen : List (List ℕ × List ℕ)) (entries : List (Sibling × Peripheral)) → AllByRecursion IsEven (visits [] (device_keys ∷ []) (siblings (map peripheral_under entries))) → FitIn 0 device.props (siblings (map peripheral_under entries)) → Every IsUnfoldedElement (siblings (map peripheral_under entries)) → first_clash seen (siblings (map peripheral_under entries)) ≡ None → count is_counted (siblings (map peripheral_under entries)) ≤ element_limit
      → ArePeripherals device.props (siblings (map peripheral_under entries))
  unfolding visits siblings FitIn Every ArePeripherals
  each seen [] even fit every none few = tt
  each seen (entry ∷ entries) even fit every none few =
      let under = peripheral_under entry in
      let others = siblings (map peripheral_under entries) in
      let clash = none-clashes seen under.0 under.1.keys under.1.below others none in
      let less = fewer element_limit under.0 under.1.keys under.1.below others few in
      let inner = visits (under.0 ∷ []) (device_keys ∷ under.1.keys ∷ []) under.1.below in
      let behind = visits [] (device_keys ∷ []) others in (
        one entry others (every-left IsEven inner behind even.1) fit every.0 every.1 clash.below less.0,
        each (Rattle.overlap_check.specs.Meetings.seen_too under.0 seen) entries (every-right IsEven inner behind even.1) fit.1 every.2 clash.behind less.1,
      )

  -- a checked device
  pub checked-tree : IsChecked device → AreChecked device.props (device_tree device).below
  unfolding device_tree elements_of
  checked-tree checked =
      let distinct = distinct-steps device checked.unfolded in
      let left = none-left (device_rows device) checked.faultless in
      let even = subst (λ (all : List Visit). AllByRecursion IsEven all) (walk-rows (device_tree device) distinct) left.0 in
      let none : first_clash [] (device_tree device).below ≡ None = sym (first-clash (device_tree device) distinct) ∙ ap (λ pairs. option_map upward_pair (first_of pairs)) left.1 in
      let few : count is_counted (device_tree device).below ≤ element_limit = subst (λ (n : ℕ). n ≤ element_limit) (count-rows is_counted (device_tree device)) checked.unfolded.few.elements in
      let entries = device.peripherals.entries in
      let are = are-siblings (device_tree device).below (peripherals-named entries) none few in
      record {
        slots = tells-distinct IsPlainStep (λ step. accessor_name step.name) (λ step. slot_name_of step.name) (λ one other. slots-tell one.name other.name) (steps (device_tree device).below) (peripherals-plain entries checked.unfolded.elements) are.names;
        siblings = are;
        each = each [] entries even.1 (checked-fits device checked) checked.unfolded.elements none few;
      }

pub checked_trees : CheckedTrees
checked_trees device checked = checked-tree device checked
