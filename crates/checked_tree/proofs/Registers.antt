-- What checking says of a declared register.
use Rattle.std.proofs.Common.{◌≡◌, ℕ, ◌+◌, ◌/◌, ◌≤◌, ◌^◌, Bool, true, List, [], ◌∷◌, length, map, Option, Some, None, option_map, unwrap_or, refl, sym, ap, ◌∙◌, subst, arith}
use Rattle.std.specs.List.{AllByRecursion}
use Rattle.std.specs.Prelude.{⊤}
use Rattle.std.proofs.lemmas.Bool.Decides.{nat_tests}
use Rattle.checked_tree.specs.Kinds.{AreOf}
use Rattle.checked_tree.specs.Names.{accessor_names, marker_of}
use Rattle.checked_tree.specs.Registers.{FieldHasNames, FieldIsNamed, RegisterIsChecked}
use Rattle.checked_tree.proofs.Calls.{GiveNames, are-calls}
use Rattle.checked_tree.proofs.Names.{marked-accessor, marked-marker}
use Rattle.checked_tree.proofs.Siblings.{AreNamed as AreAllNamed, are-siblings, tells-distinct}
use Rattle.pac_base.specs.declared.width.Width.{Width}
use Rattle.pac_base.specs.declared.width.Width.TheVariants.{W16, W32, W64, W8}
use Rattle.pac_base.specs.Widths.{bits_of}
use Rattle.overlap_check.specs.Meetings.{first_clash}
use Rattle.reg_table.specs.Calls.{AreNamed, SetsAreNamed, plain_set, plain_value, serves_reading, serves_writing}
use Rattle.reg_table.specs.Fields.{FieldFits as PlaceFits, field_dim, field_part, field_row}
use Rattle.reg_table.specs.Registers.{register_row}
use Rattle.reg_table.specs.Walk.{FitIn, props_inside}
use Rattle.reg_table.specs.declared.row.FieldRow.{FieldRow}
use Rattle.reg_table.specs.declared.row.Row.{Row as TableRow}
use Rattle.reg_table.proofs.Gathering.{row-register}
use Rattle.reg_table.proofs.Parts.{row-field}
use Rattle.reg_table.proofs.Walks.{RegisterFits, fit-register}
use Rattle.svd_model.specs.declared.device.Field.{Field}
use Rattle.svd_model.specs.declared.device.Register.{Register}
use Rattle.svd_model.specs.declared.device.Values.{Values}
use Rattle.svd_model.specs.declared.device.Variant.{Variant}
use Rattle.svd_model.specs.declared.props.Props.{Props}
use Rattle.svd_model.specs.declared.sibling.Sibling.{Sibling}
use Rattle.svd_model.specs.Checking.{is_size, width_of}
use Rattle.svd_model.specs.Facts.{IsUnfoldedElement, element_limit, is_counted}
use Rattle.svd_model.specs.Keys.{Key}
use Rattle.svd_model.specs.Properties.{access_at, can_read, can_write, holding, register_properties, size_at}
use Rattle.svd_model.specs.Steps.{Step, field, set, value}
use Rattle.svd_model.specs.Trees.{field_under, numbered, register_places, register_tree, set_tree, value_tree, register_under}
use Rattle.svd_model.proofs.Stated.{register-props}
use Rattle.svd_rows.specs.Elements.{Every, count}
use Rattle.svd_rows.specs.Forest.{Forest, siblings, steps}
use Rattle.svd_rows.specs.Ranks.{stated}
use Rattle.svd_values.specs.AccessorNames.{accessor_name, is_call_name, variant_call_name}
use Rattle.svd_values.specs.declared.schema_word.WriteKind.{WriteKind}
use Rattle.svd_values.proofs.Identifiers.{markers_tell, tests_are, variants_are}
use Rattle.table_sem.specs.RowFacts.{FieldFits, RowFits}
use Rattle.table_sem.specs.TableSurface.{no_path}
use Rattle.table_sem.proofs.Rows.{register-fits}

-- ---- a row at another address

fields-anywhere : (row : TableRow) (address : ℕ) (fields : List FieldRow) → AllByRecursion (FieldFits row) fields → AllByRecursion (FieldFits (record row { address = address })) fields
fields-anywhere row address [] all = tt
fields-anywhere row address (f ∷ fields) all =
    (record { some = all.0.some; within = all.0.within; is_calls = all.0.is_calls; set_calls = all.0.set_calls; readable = all.0.readable; writable = all.0.writable }, fields-anywhere row address fields all.1)

-- a row fits at 0 where it fits anywhere
row-anywhere : (row : TableRow) → RowFits row → RowFits (record row { address = 0 })
row-anywhere row fits =
    record { ends = small row.width; reset = fits.reset; one = fits.one; raised = fits.raised; fields = fields-anywhere row 0 row.fields fits.fields; no_one = fits.no_one; no_raised = fits.no_raised }
  where
    small : (width : Width) → 0 + bits_of width / 8 ≤ 2 ^ 64
    small W8 = omega arith
    small W16 = omega arith
    small W32 = omega arith
    small W64 = omega arith

-- ---- what stands below a register

values-of : (n : ℕ) (values : List Variant) → AreOf (value ∷ []) (numbered value n (map value_tree values))
unfolding AreOf numbered
values-of n [] = tt
values-of n (v ∷ values) = (refl, refl, values-of (n + 1) values)

sets-of : (n : ℕ) (sets : List Values) → AreOf (set ∷ value ∷ []) (numbered set n (map set_tree sets))
unfolding AreOf numbered
sets-of n [] = tt
sets-of n (v ∷ sets) = (refl, values-of 0 v.items.items, sets-of (n + 1) sets)

fields-of : (entries : List (Sibling × Field)) → AreOf (field ∷ set ∷ value ∷ []) (siblings (map field_under entries))
unfolding AreOf siblings
fields-of [] = tt
fields-of (entry ∷ entries) = (refl, sets-of 0 entry.1.values.items, fields-of entries)

fields-named : (entries : List (Sibling × Field)) → AreAllNamed (siblings (map field_under entries))
unfolding siblings steps
fields-named [] = tt
fields-named (entry ∷ entries) = (refl, fields-named entries)

-- the written names of fields are words, those of arrays with a mark behind them
words-of : (entries : List (Sibling × Field)) → Every IsUnfoldedElement (siblings (map field_under entries)) → AllByRecursion FieldHasNames (steps (siblings (map field_under entries)))
unfolding siblings steps Every
words-of [] every = tt
words-of (entry ∷ entries) every =
    (record { accessor = marked-accessor entry.0.name _ every.0.form.0; marker = marked-marker entry.0.name _ every.0.form.0 }, words-of entries every.2)

-- ---- the rows of fields

members-some : (count step : Option ℕ) → 1 ≤ unwrap_or count 1 → 1 ≤ unwrap_or (option_map (λ dim. dim.count) (field_dim count step)) 1
members-some None step some = some
members-some (Some n) step some = some

module _ (readable writable : Bool) (kind : Option WriteKind) where
  abbrev rows_for : List (Sibling × Field) → List FieldRow
  rows_for entries = map (λ entry. field_row readable writable kind (field_part entry)) entries

  told-of : (entries : List (Sibling × Field)) → map (λ field. field.name) (rows_for entries) ≡ accessor_names (siblings (map field_under entries))
  unfolding field_row siblings steps
  told-of [] = refl
  told-of (entry ∷ entries) = ap (λ names. accessor_name entry.0.name ∷ names) (told-of entries)

  give-values : (values : List Variant) → AreNamed values → GiveNames variant_call_name (map plain_value values)
  give-values [] named = tt
  give-values (v ∷ values) named = (variants_are v.name (λ e. absurd (none v.name named.0 e)), give-values values named.1)
    where
      none : (name : List ℕ) → 1 ≤ length name → name ≡ [] → ⊥
      none [] some e = absurd (omega (arith, some))
      none (byte ∷ bytes) some e = absurd cc

  give-sets : (sets : List Values) → SetsAreNamed sets → AllByRecursion (λ set. GiveNames variant_call_name set.1) (map plain_set sets)
  give-sets [] named = tt
  give-sets (s ∷ sets) named = (give-values s.items.items named.0, give-sets sets named.1)

  give-tests : (sets : List Values) → AllByRecursion (λ set. GiveNames is_call_name set.1) (map plain_set sets)
  give-tests [] = tt
  give-tests (s ∷ sets) = (each s.items.items, give-tests sets)
    where
      each : (values : List Variant) → GiveNames is_call_name (map plain_value values)
      each [] = tt
      each (v ∷ values) = (tests_are v.name, each values)

  named-of : (bits : ℕ) (entries : List (Sibling × Field)) → AllByRecursion (PlaceFits bits) entries → Every IsUnfoldedElement (siblings (map field_under entries)) → AllByRecursion FieldIsNamed (rows_for entries)
  unfolding siblings Every
  named-of bits [] fits every = tt
  named-of bits (entry ∷ entries) fits every = (
    subst FieldIsNamed (sym (row-field entry.0 entry.1 readable writable kind fits.0.distinct)) (record {
      free = (marked-accessor entry.0.name _ every.0.form.0).free;
      tests = are-calls serves_reading is_call_name (unwrap_or entry.1.place.width 1) (map plain_set entry.1.values.items) (give-tests entry.1.values.items);
      sets = are-calls serves_writing variant_call_name (unwrap_or entry.1.place.width 1) (map plain_set entry.1.values.items) (give-sets entry.1.values.items fits.0.named);
      some = members-some entry.1.dim.count entry.1.dim.step fits.0.members;
    }),
    named-of bits entries fits.1 every.2,
  )

-- ---- a register

-- fields of one marker have one accessor
markers-tell : (one other : Step) → ⊤ → ⊤ → marker_of one ≡ marker_of other → accessor_name one.name ≡ accessor_name other.name
markers-tell one other _ _ same = markers_tell one.name other.name same

all-tt : {X : Type 0} (xs : List X) → AllByRecursion (λ x. ⊤) xs
all-tt [] = tt
all-tt (x ∷ xs) = (tt, all-tt xs)

module _ (outer : Props) (key : Sibling) (r : Register) where
  abbrev fields : Forest Step Key
  fields = (register_tree r).below

  abbrev keys : List Key
  keys = stated (register_places r)

  abbrev props : Props
  props = register_properties r outer

  inside-register : props_inside keys outer ≡ props
  inside-register = ap (λ p. holding (p ∷ outer ∷ [])) (register-props r)

  pub register-checked : (start : ℕ) → FitIn start outer (siblings (register_under key r ∷ [])) → Every IsUnfoldedElement fields → first_clash [] fields ≡ None → count is_counted fields ≤ element_limit → RegisterIsChecked (props_inside keys outer) keys fields
  unfolding register_row
  register-checked start fit every none few =
      let fits : RegisterFits start outer r None = fit-register start outer key r None tt fit in
      let size : is_size (size_at props) ≡ true = fits.size in
      let made = row-register r fits.distinct no_path 0 outer in
      let named = fields-named r.fields.entries in
      let are = are-siblings fields named none few in
      subst (λ (p : Props). RegisterIsChecked p keys fields) (sym inside-register) (record {
        some = grind (arith, nat_tests, size);
        most = grind (arith, nat_tests, size);
        kinds = fields-of r.fields.entries;
        siblings = are;
        markers = tells-distinct (λ step. ⊤) (λ step. accessor_name step.name) marker_of markers-tell (steps fields) (all-tt (steps fields)) are.names;
        fields = words-of r.fields.entries every;
        row = row-anywhere _ (register-fits start outer r None no_path fits);
        named = subst (λ (row : TableRow). AllByRecursion FieldIsNamed row.fields) (sym made) (named-of (can_read (access_at r outer)) (can_write (access_at r outer)) r.kind (bits_of (width_of (size_at props))) r.fields.entries fits.fields every);
        told = ap (λ (row : TableRow). map (λ field. field.name) row.fields) made ∙ told-of (can_read (access_at r outer)) (can_write (access_at r outer)) r.kind r.fields.entries;
      })
