-- Wherever an entry of the surface leads to a register, the table has its row.
use Rattle.std.proofs.Common.{ℕ, zero, suc, ◌≡◌, ◌+◌, ◌<◌, ◌≤◌, Bool, true, false, ◌==◌, cond, List, [], ◌∷◌, ◌++◌, map, flat_map, Option, Some, None, IfSome, refl, sym, ap, subst, ◌∙◌, append_assoc, append-nil, arith}
use Rattle.std.specs.List.{AllByRecursion, range_with_len}
use Rattle.std.proofs.lemmas.Bool.Decides.{nat_tests}
use Rattle.frag_sem.specs.Surfaces.{Entry, RegisterCalls, Step as Accessor}
use Rattle.pac_base.specs.declared.path.Step.{Step as NamedStep}
use Rattle.reg_table.specs.Registers.{register_row}
use Rattle.reg_table.specs.Walk.{path_inside, peripheral_path, props_inside, rows_in, rows_of_peripherals}
use Rattle.reg_table.specs.declared.row.Row.{Row as TableRow}
use Rattle.reg_table.specs.declared.row.RowPath.{RowPath}
use Rattle.reg_table.proofs.Exchanges.{every-append}
use Rattle.reg_table.proofs.Tables.{table-rows}
use Rattle.svd_model.specs.declared.device.Peripheral.{Peripheral}
use Rattle.svd_model.specs.declared.props.Props.{Props}
use Rattle.svd_model.specs.declared.sibling.Sibling.{Sibling}
use Rattle.svd_model.specs.Keys.{Key}
use Rattle.svd_model.specs.Stating.{value_of, stated_dim, indexes_of, is_of, start_of}
use Rattle.svd_model.specs.Steps.{Step, register}
use Rattle.svd_model.specs.Trees.{device_rows, device_tree, peripheral_under}
use Rattle.svd_rows.specs.Forest.{Forest, leaf, node, siblings}
use Rattle.svd_rows.specs.Rows.{rows}
use Rattle.svd_values.specs.AccessorNames.{accessor_name}
use Rattle.table_sem.specs.Entries.{HasRow, HasRows, LeadsOver}
use Rattle.table_sem.specs.Laws.{EntriesHaveRows}
use Rattle.reg_table.specs.Members.{IsIndexOf}
use Rattle.table_sem.specs.Names.{Named, accessor_of, is_named}
use Rattle.table_sem.specs.SurfaceWalk.{calls_here, entries_in, entries_of_peripherals, name_inside, own_entry, peripheral_name}
use Rattle.table_sem.specs.TableSurface.{entry_of, row_calls, table_surface}
use Rattle.table_sem.proofs.Entries.{every-weaker}
use Rattle.table_sem.proofs.Surfaces.{surface_by_walk}

-- ---- more rows

more-rows : (front list others : List TableRow) (slot : List ℕ) (steps : List NamedStep) (calls : RegisterCalls) → HasRow list slot steps calls → HasRow (front ++ (list ++ others)) slot steps calls
more-rows front list others slot steps calls has = record {
  before = front ++ has.before;
  row = has.row;
  behind = has.behind ++ others;
  stands =
      ap (λ l. front ++ (l ++ others)) has.stands
      ∙ ap (λ l. front ++ l) (append_assoc has.before (has.row ∷ has.behind) others)
      ∙ sym (append_assoc front has.before (has.row ∷ (has.behind ++ others)));
  is_of = has.is_of;
}

behind-rows : (front list : List TableRow) (slot : List ℕ) (steps : List NamedStep) (calls : RegisterCalls) → HasRow list slot steps calls → HasRow (front ++ list) slot steps calls
behind-rows front list slot steps calls has = subst (λ l. HasRow (front ++ l) slot steps calls) (append-nil list) (more-rows front list [] slot steps calls has)

module _ (member : Option ℕ → List TableRow) (slot : List ℕ) (steps : List NamedStep) (calls : RegisterCalls) where
  -- the row of a member is one of all members' rows
  in-range : (a n i : ℕ) → a ≤ i → i < a + n → HasRow (member (Some i)) slot steps calls → HasRow (flat_map member (map Some (range_with_len a n))) slot steps calls
  in-range a zero i least less has = absurd (omega (arith, least, less))
  in-range a (suc n) i least less has = by (a == i) refl (λ later. in-range (a + 1) n i later (omega (arith, less)) has)
    where
      by : (b : Bool) → (a == i) ≡ b → (a + 1 ≤ i → HasRow (flat_map member (map Some (range_with_len (a + 1) n))) slot steps calls) → HasRow (member (Some a) ++ flat_map member (map Some (range_with_len (a + 1) n))) slot steps calls
      by true e others =
          let same : i ≡ a = grind (arith, nat_tests, e) in
          more-rows [] (member (Some a)) (flat_map member (map Some (range_with_len (a + 1) n))) slot steps calls (subst (λ (k : ℕ). HasRow (member (Some k)) slot steps calls) same has)
      by false e others = behind-rows (member (Some a)) (flat_map member (map Some (range_with_len (a + 1) n))) slot steps calls (others (grind (arith, nat_tests, e, least)))

  among-members : (dim index : Option ℕ) → IsIndexOf dim index → HasRow (member index) slot steps calls → HasRow (flat_map member (indexes_of dim)) slot steps calls
  among-members None None fits has = more-rows [] (member None) [] slot steps calls has
  among-members None (Some i) fits has = absurd fits
  among-members (Some n) None fits has = absurd fits
  among-members (Some n) (Some i) fits has = in-range 0 n i (omega arith) (omega (arith, fits)) has

-- ---- entries

-- An entry below a name: its accessors begin with the name's; and wherever the others lead behind a path, the rows there have one with its calls.
record LeadsOn (name : Named) (outer : Props) (f : Forest Step Key) (entry : Entry) : Type 0 where
  slot : entry.slot ≡ name.slot
  others : List Accessor
  begins : entry.below.steps ≡ name.accessors ++ others
  has : IfSome entry.below.register (λ calls. (path : RowPath) (start : ℕ) (steps : List NamedStep) → LeadsOver others steps → HasRow (rows_in path start outer f) path.slot (path.steps ++ steps) calls)

-- what holds of a call where there is one, holds in other words too
weaker-some : {X : Type 0} (P Q : X → Type 0) → ((x : X) → P x → Q x) → (o : Option X) → IfSome o P → IfSome o Q
weaker-some P Q weaker None p = tt
weaker-some P Q weaker (Some x) p = weaker x p

module _ (name : Named) (outer : Props) (step : Step) (keys : List Key) (children others : Forest Step Key) where
  abbrev props : Props
  props = props_inside keys outer

  -- the rows of a member
  abbrev own_row : RowPath → ℕ → Option ℕ → List TableRow
  own_row path start index = cond (is_of register step) (register_row (path_inside path step.name index) (start + start_of keys index) props (rows (record { keys = keys; below = children })) ∷ []) []

  abbrev inner_rows : RowPath → ℕ → Option ℕ → List TableRow
  inner_rows path start index = rows_in (path_inside path step.name index) (start + start_of keys index) props children

  -- the row of a member among all
  among-all : (path : RowPath) (start : ℕ) (index : Option ℕ) (steps : List NamedStep) (calls : RegisterCalls) → IsIndexOf (value_of stated_dim keys) index → HasRow (own_row path start index ++ inner_rows path start index) path.slot steps calls → HasRow (rows_in path start outer (node step keys children others)) path.slot steps calls
  unfolding rows_in
  among-all path start index steps calls fits has =
      more-rows [] (flat_map (λ i. own_row path start i ++ inner_rows path start i) (indexes_of (value_of stated_dim keys))) (rows_in path start outer others) path.slot steps calls
      (among-members (λ i. own_row path start i ++ inner_rows path start i) path.slot steps calls (value_of stated_dim keys) index fits has)

  -- a step to a member is that of the row's path
  same-step : (path : RowPath) (s : NamedStep) (rest : List NamedStep) → accessor_name step.name ≡ s.name → (path_inside path step.name s.index).steps ++ rest ≡ path.steps ++ s ∷ rest
  same-step path s rest same =
      append_assoc path.steps (record { name = accessor_name step.name; index = s.index } ∷ []) rest
      ∙ ap (λ (n : List ℕ). path.steps ++ record { name = n; index = s.index } ∷ rest) same

  -- the entry of the element itself
  own-leads : AllByRecursion (LeadsOn name outer (node step keys children others)) (own_entry (name_inside name step keys) props step keys children)
  unfolding LeadsOver row_calls register_row
  own-leads = by (is_named step)
    where
      calls_of : RegisterCalls
      calls_of = row_calls (register_row (record { slot = []; steps = [] }) 0 props (rows (record { keys = keys; below = children })))

      row_of : is_of register step ≡ true → (path : RowPath) (start : ℕ) (steps : List NamedStep) → LeadsOver (accessor_of step keys ∷ []) steps → HasRow (rows_in path start outer (node step keys children others)) path.slot (path.steps ++ steps) calls_of
      row_of is path start [] leads = absurd leads
      row_of is path start (s ∷ (next ∷ steps)) leads = absurd leads.2
      row_of is path start (s ∷ []) leads =
          among-all path start s.index (path.steps ++ s ∷ []) calls_of leads.1 (record {
            before = [];
            row = register_row (path_inside path step.name s.index) (start + start_of keys s.index) props (rows (record { keys = keys; below = children }));
            behind = inner_rows path start s.index;
            stands = ap (λ b. cond b (register_row (path_inside path step.name s.index) (start + start_of keys s.index) props (rows (record { keys = keys; below = children })) ∷ []) [] ++ inner_rows path start s.index) is;
            is_of = record {
              slot_is = refl;
              steps_are = sym (append-nil (path_inside path step.name s.index).steps) ∙ same-step path s [] leads.0;
              calls_are = refl;
            };
          })

      has_row : (b : Bool) → is_of register step ≡ b
          → IfSome (cond b (Some calls_of) None) (λ calls. (path : RowPath) (start : ℕ) (steps : List NamedStep) → LeadsOver (accessor_of step keys ∷ []) steps → HasRow (rows_in path start outer (node step keys children others)) path.slot (path.steps ++ steps) calls)
      has_row false is = tt
      has_row true is = row_of is

      by : (b : Bool) → AllByRecursion (LeadsOn name outer (node step keys children others)) (cond b (entry_of (name_inside name step keys) (calls_here props step keys children) ∷ []) [])
      by false = tt
      by true = (record { slot = refl; others = accessor_of step keys ∷ []; begins = refl; has = has_row (is_of register step) refl }, tt)

  -- an entry below it
  inner-leads : (entry : Entry) → LeadsOn (name_inside name step keys) props children entry → LeadsOn name outer (node step keys children others) entry
  unfolding LeadsOver
  inner-leads entry leads = record {
    slot = leads.slot;
    others = accessor_of step keys ∷ leads.others;
    begins = leads.begins ∙ append_assoc name.accessors (accessor_of step keys ∷ []) leads.others;
    has = weaker-some _ _ deeper entry.below.register leads.has;
  }
    where
      deeper : (calls : RegisterCalls) → ((path : RowPath) (start : ℕ) (steps : List NamedStep) → LeadsOver leads.others steps → HasRow (rows_in path start props children) path.slot (path.steps ++ steps) calls)
          → (path : RowPath) (start : ℕ) (steps : List NamedStep) → LeadsOver (accessor_of step keys ∷ leads.others) steps → HasRow (rows_in path start outer (node step keys children others)) path.slot (path.steps ++ steps) calls
      deeper calls has path start [] over = absurd over
      deeper calls has path start (s ∷ steps) over =
          among-all path start s.index (path.steps ++ s ∷ steps) calls over.1
          (behind-rows (own_row path start s.index) (inner_rows path start s.index) path.slot (path.steps ++ s ∷ steps) calls
          (subst (λ (l : List NamedStep). HasRow (inner_rows path start s.index) path.slot l calls) (same-step path s steps over.0) (has (path_inside path step.name s.index) (start + start_of keys s.index) steps over.2)))

  -- an entry behind it
  later-leads : (entry : Entry) → LeadsOn name outer others entry → LeadsOn name outer (node step keys children others) entry
  unfolding rows_in
  later-leads entry leads = record {
    slot = leads.slot;
    others = leads.others;
    begins = leads.begins;
    has = weaker-some _ _ (λ calls has path start steps over.
        behind-rows (flat_map (λ i. own_row path start i ++ inner_rows path start i) (indexes_of (value_of stated_dim keys))) (rows_in path start outer others) path.slot (path.steps ++ steps) calls (has path start steps over)) entry.below.register leads.has;
  }

all-lead : (name : Named) (outer : Props) (f : Forest Step Key) → AllByRecursion (LeadsOn name outer f) (entries_in name outer f)
unfolding entries_in
all-lead name outer leaf = tt
all-lead name outer (node step keys children others) =
    let inner = name_inside name step keys in
    let within = props_inside keys outer in
    every-append (LeadsOn name outer (node step keys children others)) (own_entry inner within step keys children) (entries_in inner within children ++ entries_in name outer others)
    (own-leads name outer step keys children others)
    (every-append (LeadsOn name outer (node step keys children others)) (entries_in inner within children) (entries_in name outer others)
    (every-weaker (LeadsOn inner within children) (LeadsOn name outer (node step keys children others)) (inner-leads name outer step keys children others) (entries_in inner within children) (all-lead inner within children))
    (every-weaker (LeadsOn name outer others) (LeadsOn name outer (node step keys children others)) (later-leads name outer step keys children others) (entries_in name outer others) (all-lead name outer others)))

-- ---- a device

-- the entries of a peripheral and of all below it
module _ (outer : Props) (entry : Sibling × Peripheral) (others : Forest Step Key) where
  abbrev step : Step
  step = (peripheral_under entry).0

  abbrev keys : List Key
  keys = (peripheral_under entry).1.keys

  abbrev children : Forest Step Key
  children = (peripheral_under entry).1.below

  abbrev own_rows : List TableRow
  own_rows = rows_in (peripheral_path step.name) (start_of keys None) (props_inside keys outer) children

  leads-has : (one : Entry) → LeadsOn (peripheral_name step) (props_inside keys outer) children one → HasRows (own_rows ++ rows_of_peripherals outer others) one
  leads-has one leads = weaker-some _ _ (λ calls has steps over.
      more-rows [] own_rows (rows_of_peripherals outer others) one.slot steps calls
      (subst (λ (slot : List ℕ). HasRow own_rows slot steps calls) (sym leads.slot) (has (peripheral_path step.name) (start_of keys None) steps (subst (λ (accessors : List Accessor). LeadsOver accessors steps) leads.begins over)))) one.below.register leads.has

  peripheral-has : AllByRecursion (HasRows (own_rows ++ rows_of_peripherals outer others)) (own_entry (peripheral_name step) (props_inside keys outer) step keys children ++ entries_in (peripheral_name step) (props_inside keys outer) children)
  peripheral-has = (tt, every-weaker (LeadsOn (peripheral_name step) (props_inside keys outer) children) (HasRows (own_rows ++ rows_of_peripherals outer others)) leads-has (entries_in (peripheral_name step) (props_inside keys outer) children) (all-lead (peripheral_name step) (props_inside keys outer) children))

peripherals-have : (outer : Props) (peripherals : List (Sibling × Peripheral)) → AllByRecursion (HasRows (rows_of_peripherals outer (siblings (map peripheral_under peripherals)))) (entries_of_peripherals outer (siblings (map peripheral_under peripherals)))
unfolding siblings rows_of_peripherals entries_of_peripherals
peripherals-have outer [] = tt
peripherals-have outer (entry ∷ peripherals) =
    let later = siblings (map peripheral_under peripherals) in
    subst (AllByRecursion (HasRows (own_rows outer entry later ++ rows_of_peripherals outer later)))
    (append_assoc (own_entry (peripheral_name (step outer entry later)) (props_inside (keys outer entry later) outer) (step outer entry later) (keys outer entry later) (children outer entry later)) (entries_in (peripheral_name (step outer entry later)) (props_inside (keys outer entry later) outer) (children outer entry later)) (entries_of_peripherals outer later))
    (every-append (HasRows (own_rows outer entry later ++ rows_of_peripherals outer later))
    (own_entry (peripheral_name (step outer entry later)) (props_inside (keys outer entry later) outer) (step outer entry later) (keys outer entry later) (children outer entry later) ++ entries_in (peripheral_name (step outer entry later)) (props_inside (keys outer entry later) outer) (children outer entry later))
    (entries_of_peripherals outer later)
    (peripheral-has outer entry later)
    (every-weaker (HasRows (rows_of_peripherals outer later)) (HasRows (own_rows outer entry later ++ rows_of_peripherals outer later))
    (λ one has. weaker-some _ _ (λ calls each steps over. behind-rows (own_rows outer entry later) (rows_of_peripherals outer later) one.slot steps calls (each steps over)) one.below.register has) (entries_of_peripherals outer later) (peripherals-have outer peripherals)))

pub entries_have_rows : EntriesHaveRows
unfolding device_tree
entries_have_rows device unfolded =
    subst (λ (table : List TableRow). AllByRecursion (HasRows table) (table_surface (device_rows device))) (sym (table-rows device unfolded))
    (subst (AllByRecursion (HasRows (rows_of_peripherals device.props (device_tree device).below))) (sym (surface_by_walk device unfolded)) (peripherals-have device.props device.peripherals.entries))
