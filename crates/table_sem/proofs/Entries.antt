-- Each row of the table has its entry in the surface.
use Rattle.std.proofs.Common.{ℕ, zero, suc, ◌≡◌, ◌+◌, ◌≤◌, Bool, true, false, ◌||◌, cond, List, [], ◌∷◌, ◌++◌, map, flat_map, Option, Some, None, refl, sym, ap, subst, ◌∙◌, append_assoc, arith}
use Rattle.std.specs.List.{AllByRecursion, range_with_len}
use Rattle.frag_sem.specs.Surfaces.{Step as Accessor, Surface}
use Rattle.pac_base.specs.declared.path.Step.{Step as NamedStep}
use Rattle.reg_table.specs.Registers.{register_row}
use Rattle.reg_table.specs.Walk.{path_inside, peripheral_path, props_inside, rows_in, rows_of_peripherals}
use Rattle.reg_table.specs.declared.row.Row.{Row as TableRow}
use Rattle.reg_table.specs.declared.row.RowPath.{RowPath}
use Rattle.reg_table.proofs.Exchanges.{every-append}
use Rattle.reg_table.proofs.Tables.{table-rows}
use Rattle.svd_model.specs.declared.props.Props.{Props}
use Rattle.svd_model.specs.Keys.{Key}
use Rattle.svd_model.specs.Stating.{value_of, stated_dim, indexes_of, is_of, start_of}
use Rattle.svd_model.specs.Steps.{Step, cluster, peripheral, register}
use Rattle.svd_model.specs.Trees.{device_rows, device_tree}
use Rattle.svd_rows.specs.Forest.{Forest, leaf, node}
use Rattle.svd_rows.specs.Rows.{rows}
use Rattle.table_sem.specs.Entries.{HasEntry, LeadsOver}
use Rattle.table_sem.specs.Laws.{RowsHaveEntries}
use Rattle.reg_table.specs.Members.{IsIndexOf}
use Rattle.table_sem.specs.Names.{Named, accessor_of, is_named}
use Rattle.table_sem.specs.SurfaceWalk.{calls_here, entries_in, entries_of_peripherals, name_inside, own_entry, peripheral_name}
use Rattle.table_sem.specs.TableSurface.{entry_of, row_calls, table_surface}
use Rattle.table_sem.proofs.Surfaces.{surface_by_walk}

-- ---- more entries

pub every-weaker : {X : Type 0} (P Q : X → Type 0) → ((x : X) → P x → Q x) → (xs : List X) → AllByRecursion P xs → AllByRecursion Q xs
every-weaker P Q weaker [] all = tt
every-weaker P Q weaker (x ∷ xs) all = (weaker x all.0, every-weaker P Q weaker xs all.1)

-- entries in front and behind take nothing away
more-entries : (front list others : Surface) (row : TableRow) → HasEntry list row → HasEntry (front ++ (list ++ others)) row
more-entries front list others row has = record {
  before = front ++ has.before;
  entry = has.entry;
  behind = has.behind ++ others;
  stands =
      ap (λ l. front ++ (l ++ others)) has.stands
      ∙ ap (λ l. front ++ l) (append_assoc has.before (has.entry ∷ has.behind) others)
      ∙ sym (append_assoc front has.before (has.entry ∷ (has.behind ++ others)));
  is_of = has.is_of;
}

behind-entries : (front list : Surface) (row : TableRow) → HasEntry list row → HasEntry (front ++ list) row
behind-entries front list row has = record {
  before = front ++ has.before;
  entry = has.entry;
  behind = has.behind;
  stands = ap (λ l. front ++ l) has.stands ∙ sym (append_assoc front has.before (has.entry ∷ has.behind));
  is_of = has.is_of;
}

-- ---- paths

leads-on : (accessors : List Accessor) (steps : List NamedStep) (accessor : Accessor) (step : NamedStep) → LeadsOver accessors steps → accessor.name ≡ step.name → IsIndexOf accessor.count step.index → LeadsOver (accessors ++ accessor ∷ []) (steps ++ step ∷ [])
unfolding LeadsOver
leads-on [] [] accessor step leads name index = (name, index, tt)
leads-on [] (other ∷ steps) accessor step leads name index = absurd leads
leads-on (first ∷ accessors) [] accessor step leads name index = absurd leads
leads-on (first ∷ accessors) (other ∷ steps) accessor step leads name index = (leads.0, leads.1, leads-on accessors steps accessor step leads.2 name index)

indexes-from : (limit a n : ℕ) → a + n ≤ limit → AllByRecursion (IsIndexOf (Some limit)) (map Some (range_with_len a n))
indexes-from limit a zero fits = tt
indexes-from limit a (suc n) fits = (omega (arith, fits), indexes-from limit (a + 1) n (omega (arith, fits)))

-- the members of an element have its indexes
indexes-fit : (dim : Option ℕ) → AllByRecursion (IsIndexOf dim) (indexes_of dim)
indexes-fit None = (tt, tt)
indexes-fit (Some n) = indexes-from n 0 n (omega arith)

-- ---- elements

named-register : (step : Step) → is_of register step ≡ true → is_named step ≡ true
named-register step is = ap (λ b. is_of peripheral step || (is_of cluster step || b)) is ∙ by (is_of peripheral step) (is_of cluster step)
  where
    by : (b c : Bool) → (b || (c || true)) ≡ true
    by true c = refl
    by false true = refl
    by false false = refl

-- a row of this path and the entry of its name
abbrev IsNamed : Named → RowPath → Type 0
IsNamed name path = (name.slot ≡ path.slot) × LeadsOver name.accessors path.steps

-- the row of a register has the entry of the element
own-row : (name : Named) (path : RowPath) (address : ℕ) (props : Props) (step : Step) (keys : List Key) (children : Forest Step Key) → IsNamed name path
    → AllByRecursion (HasEntry (own_entry name props step keys children)) (cond (is_of register step) (register_row path address props (rows (record { keys = keys; below = children })) ∷ []) [])
unfolding row_calls register_row
own-row name path address props step keys children names = by (is_of register step) refl
  where
    here : TableRow
    here = register_row path address props (rows (record { keys = keys; below = children }))

    by : (b : Bool) → is_of register step ≡ b → AllByRecursion (HasEntry (own_entry name props step keys children)) (cond b (here ∷ []) [])
    by false is = tt
    by true is = (
      record {
        before = [];
        entry = entry_of name (calls_here props step keys children);
        behind = [];
        stands = ap (λ b. cond b (entry_of name (calls_here props step keys children) ∷ []) []) (named-register step is);
        is_of = record {
          slot = names.0;
          leads = names.1;
          calls = ap (λ b. cond b (Some (row_calls here)) None) is;
        };
      },
      tt,
    )

-- the rows of all members have what those of each have
each-member : (P : TableRow → Type 0) (dim : Option ℕ) (member : Option ℕ → List TableRow) → ((index : Option ℕ) → IsIndexOf dim index → AllByRecursion P (member index)) → (indexes : List (Option ℕ)) → AllByRecursion (IsIndexOf dim) indexes → AllByRecursion P (flat_map member indexes)
each-member P dim member each [] fit = tt
each-member P dim member each (index ∷ indexes) fit = every-append P (member index) (flat_map member indexes) (each index fit.0) (each-member P dim member each indexes fit.1)

rows-named : (name : Named) (path : RowPath) (start : ℕ) (outer : Props) (f : Forest Step Key) → IsNamed name path → AllByRecursion (HasEntry (entries_in name outer f)) (rows_in path start outer f)
unfolding rows_in entries_in
rows-named name path start outer leaf names = tt
rows-named name path start outer (node step keys children others) names =
    every-append P (flat_map member (indexes_of (value_of stated_dim keys))) (rows_in path start outer others)
    (each-member P (value_of stated_dim keys) member (λ index fits. one index (inside index fits) (rows-named (name_inside name step keys) (path_inside path step.name index) (start + start_of keys index) (props_inside keys outer) children (inside index fits))) (indexes_of (value_of stated_dim keys)) (indexes-fit (value_of stated_dim keys)))
    (every-weaker (HasEntry (entries_in name outer others)) P (λ row has. behind-entries own (inner ++ entries_in name outer others) row (behind-entries inner (entries_in name outer others) row has)) (rows_in path start outer others) (rows-named name path start outer others names))
  where
    own : Surface
    own = own_entry (name_inside name step keys) (props_inside keys outer) step keys children

    inner : Surface
    inner = entries_in (name_inside name step keys) (props_inside keys outer) children

    P : TableRow → Type 0
    P = HasEntry (own ++ (inner ++ entries_in name outer others))

    own_rows : Option ℕ → List TableRow
    own_rows index = cond (is_of register step) (register_row (path_inside path step.name index) (start + start_of keys index) (props_inside keys outer) (rows (record { keys = keys; below = children })) ∷ []) []

    inner_rows : Option ℕ → List TableRow
    inner_rows index = rows_in (path_inside path step.name index) (start + start_of keys index) (props_inside keys outer) children

    member : Option ℕ → List TableRow
    member index = own_rows index ++ inner_rows index

    inside : (index : Option ℕ) → IsIndexOf (value_of stated_dim keys) index → IsNamed (name_inside name step keys) (path_inside path step.name index)
    inside index fits = (names.0, leads-on name.accessors path.steps (accessor_of step keys) _ names.1 refl fits)

    one : (index : Option ℕ) → IsNamed (name_inside name step keys) (path_inside path step.name index) → AllByRecursion (HasEntry inner) (inner_rows index) → AllByRecursion P (member index)
    one index named below =
        every-append P (own_rows index) (inner_rows index)
        (every-weaker (HasEntry own) P (λ row has. more-entries [] own (inner ++ entries_in name outer others) row has) (own_rows index) (own-row (name_inside name step keys) (path_inside path step.name index) (start + start_of keys index) (props_inside keys outer) step keys children named))
        (every-weaker (HasEntry inner) P (λ row has. more-entries own inner (entries_in name outer others) row has) (inner_rows index) below)

peripherals-named : (outer : Props) (f : Forest Step Key) → AllByRecursion (HasEntry (entries_of_peripherals outer f)) (rows_of_peripherals outer f)
unfolding rows_of_peripherals entries_of_peripherals LeadsOver
peripherals-named outer leaf = tt
peripherals-named outer (node step keys children others) =
    every-append P (rows_in (peripheral_path step.name) (start_of keys None) (props_inside keys outer) children) (rows_of_peripherals outer others)
    (every-weaker (HasEntry inner) P (λ row has. more-entries own inner (entries_of_peripherals outer others) row has) (rows_in (peripheral_path step.name) (start_of keys None) (props_inside keys outer) children)
    (rows-named (peripheral_name step) (peripheral_path step.name) (start_of keys None) (props_inside keys outer) children (refl, tt)))
    (every-weaker (HasEntry (entries_of_peripherals outer others)) P (λ row has. behind-entries own (inner ++ entries_of_peripherals outer others) row (behind-entries inner (entries_of_peripherals outer others) row has)) (rows_of_peripherals outer others) (peripherals-named outer others))
  where
    own : Surface
    own = own_entry (peripheral_name step) (props_inside keys outer) step keys children

    inner : Surface
    inner = entries_in (peripheral_name step) (props_inside keys outer) children

    P : TableRow → Type 0
    P = HasEntry (own ++ (inner ++ entries_of_peripherals outer others))

pub rows_have_entries : RowsHaveEntries
rows_have_entries device unfolded =
    subst (λ (table : List TableRow). AllByRecursion (HasEntry (table_surface (device_rows device))) table) (sym (table-rows device unfolded))
    (subst (λ (surface : Surface). AllByRecursion (HasEntry surface) (rows_of_peripherals device.props (device_tree device).below)) (sym (surface_by_walk device unfolded)) (peripherals-named device.props (device_tree device).below))
