-- The names of a register's fields are identifiers, so are their markers and the names of their calls; and each field has 1 to 64 bits.
use Rattle.std.proofs.Common.{◌≡◌, ℕ, ◌≤◌, List, [], ◌∷◌, map, refl, sym, ap, subst, arith, lit≤}
use Rattle.std.specs.List.{AllByRecursion}
use Rattle.checked_tree.specs.Names.{accessor_names}
use Rattle.checked_tree.specs.Registers.{FieldHasNames, FieldIsNamed}
use Rattle.pac_base.specs.declared.width.Width.{Width}
use Rattle.pac_base.specs.declared.width.Width.TheVariants.{W8, W16, W32, W64}
use Rattle.pac_base.specs.Widths.{bits_of}
use Rattle.reg_table.specs.declared.row.Call.{Call}
use Rattle.reg_table.specs.declared.row.FieldRow.{FieldRow}
use Rattle.reg_table.specs.declared.row.Row.{Row as TableRow}
use Rattle.reg_table.specs.Walk.{props_inside}
use Rattle.register_form.specs.Fields.{HasBits}
use Rattle.rust_names.specs.Identifiers.{IsIdentifier}
use Rattle.svd_model.specs.declared.device.Field.{Field}
use Rattle.svd_model.specs.declared.device.Register.{Register}
use Rattle.svd_model.specs.declared.props.Props.{Props}
use Rattle.svd_model.specs.declared.sibling.Sibling.{Sibling}
use Rattle.svd_model.specs.Trees.{field_under, register_places, register_tree, register_under}
use Rattle.svd_rows.specs.Forest.{siblings, steps}
use Rattle.svd_rows.specs.Ranks.{stated}
use Rattle.svd_values.specs.Identifiers.{IsCallName}
use Rattle.table_sem.specs.RowFacts.{FieldFits}
use Rattle.table_sem.proofs.Rows.{member-narrow}
use Rattle.crate_form.specs.Elements.{CallIsNamed, FieldIsReady, HasName, IsMarked, StandsAlone, entry_marker, register_at}
use Rattle.crate_form.specs.Registers.{field_of, marked, markers_of, row_here}
use Rattle.crate_form.proofs.Standing.{checked-register}

-- ---- fields as they are declared

names_ready : (entries : List (Sibling × Field)) → AllByRecursion FieldHasNames (steps (siblings (map field_under entries))) → AllByRecursion HasName entries → AllByRecursion IsIdentifier (accessor_names (siblings (map field_under entries)))
unfolding steps siblings
names_ready [] named some = tt
names_ready (entry ∷ entries) named some = (named.0.accessor.identifier some.0, names_ready entries named.1 some.1)

markers_ready : (entries : List (Sibling × Field)) → AllByRecursion FieldHasNames (steps (siblings (map field_under entries))) → AllByRecursion IsMarked entries
unfolding steps siblings
markers_ready [] named = tt
markers_ready (entry ∷ entries) named = (named.0.marker, markers_ready entries named.1)

pub markers-entries : (entries : List (Sibling × Field)) → markers_of (siblings (map field_under entries)) ≡ map entry_marker entries
unfolding steps siblings
markers-entries [] = refl
markers-entries (entry ∷ entries) = ap (λ markers. entry_marker entry ∷ markers) (markers-entries entries)

-- ---- fields with their markers

pub marked-no_markers : (rows : List FieldRow) → marked [] rows ≡ []
unfolding marked
marked-no_markers rows = refl

pub marked-no_rows : (markers : List (List ℕ)) → marked markers [] ≡ []
unfolding marked
marked-no_rows [] = refl
marked-no_rows (marker ∷ markers) = refl

pub marked-first : (marker : List ℕ) (markers : List (List ℕ)) (row : FieldRow) (rows : List FieldRow) → marked (marker ∷ markers) (row ∷ rows) ≡ field_of marker row ∷ marked markers rows
unfolding marked
marked-first marker markers row rows = refl

-- ---- their rows

calls_ready : (calls : List Call) → AllByRecursion (λ call. IsCallName call.name) calls → AllByRecursion CallIsNamed calls
calls_ready [] named = tt
calls_ready (call ∷ calls) named = (named.0.identifier, calls_ready calls named.1)

fields_ready : (fields : List FieldRow) → AllByRecursion IsIdentifier (map (λ field. field.name) fields) → AllByRecursion FieldIsNamed fields → AllByRecursion FieldIsReady fields
fields_ready [] names named = tt
fields_ready (field ∷ fields) names named = (
  record { named = names.0; tests = calls_ready field.is_calls named.0.tests.named; sets = calls_ready field.set_calls named.0.sets.named },
  fields_ready fields names.1 named.1,
)

most_bits : (width : Width) → bits_of width ≤ 64
most_bits W8 = lit≤ tt
most_bits W16 = lit≤ tt
most_bits W32 = lit≤ tt
most_bits W64 = lit≤ tt

bits_ready : (row : TableRow) (markers : List (List ℕ)) (fields : List FieldRow) → AllByRecursion (FieldFits row) fields → AllByRecursion FieldIsNamed fields → AllByRecursion HasBits (marked markers fields)
unfolding marked
bits_ready row [] fields fit named = tt
bits_ready row (marker ∷ markers) [] fit named = tt
bits_ready row (marker ∷ markers) (field ∷ fields) fit named =
    let within = member-narrow row field fit.0 named.0.some in
    let most = most_bits row.width in
    (record { some = fit.0.some; most = omega (arith, within, most) }, bits_ready row markers fields fit.1 named.1)

-- ---- a register

module _ (outer : Props) (key : Sibling) (r : Register) (stand : StandsAlone outer (register_under key r)) where
  pub register_ready : AllByRecursion HasName r.fields.entries → AllByRecursion FieldIsReady (row_here (props_inside (stated (register_places r)) outer) (stated (register_places r)) (register_tree r).below).fields
  register_ready some =
      let checked = checked-register outer key r stand in
      fields_ready _ (subst (AllByRecursion IsIdentifier) (sym checked.told) (names_ready r.fields.entries checked.fields some)) checked.named

  pub register_marked : AllByRecursion IsMarked r.fields.entries
  register_marked = markers_ready r.fields.entries (checked-register outer key r stand).fields

  pub register_bits : AllByRecursion HasBits (register_at outer (register_under key r)).fields
  register_bits =
      let checked = checked-register outer key r stand in
      bits_ready _ (markers_of (register_tree r).below) _ checked.row.fields checked.named
