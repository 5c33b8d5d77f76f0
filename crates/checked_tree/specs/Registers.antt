-- What checking says of a register, wherever it stands.
use Rattle.std.specs.Prelude.{◌≡◌, ◌≢◌, ◌≤◌, true, false, List, [], map, unwrap_or}
use Rattle.std.specs.List.{AllByRecursion}
use Rattle.checked_tree.specs.Kinds.{AreFields}
use Rattle.checked_tree.specs.Names.{AreSiblings, HasAccessor, accessor_names, marker_names, marker_of}
use Rattle.frag_sem.specs.Modules.{are_distinct_names}
use Rattle.reg_table.specs.Members.{member_count}
use Rattle.reg_table.specs.Registers.{register_row}
use Rattle.reg_table.specs.declared.row.Call.{Call}
use Rattle.reg_table.specs.declared.row.FieldRow.{FieldRow}
use Rattle.reg_table.specs.declared.row.Row.{Row as TableRow}
use Rattle.svd_model.specs.declared.props.Props.{Props}
use Rattle.svd_model.specs.Keys.{Key}
use Rattle.svd_model.specs.Properties.{size_at}
use Rattle.svd_model.specs.Steps.{Step}
use Rattle.svd_rows.specs.Forest.{Forest, steps}
use Rattle.svd_rows.specs.Rows.{rows}
use Rattle.svd_values.specs.Identifiers.{IsCallName}
use Rattle.rust_names.specs.Identifiers.{IsIdentifier}
use Rattle.rust_names.specs.PreludeNames.{is_prelude_name}
use Rattle.table_sem.specs.RowFacts.{RowFits}
use Rattle.table_sem.specs.TableSurface.{no_path}

-- ---- fields

-- the row of a register with these keys and fields, in which these properties hold; its path and its address have no part in what is said of it
abbrev pub row_of : Props → List Key → Forest Step Key → TableRow
row_of props keys children = register_row no_path 0 props (rows (record { keys = keys; below = children }))

-- the calls of a field's values have distinct names, which may be those of calls
pub record AreCalls (calls : List Call) : Type 0 where
  pub distinct : are_distinct_names (map (λ call. call.name) calls) ≡ true
  pub named : AllByRecursion (λ call. IsCallName call.name) calls

-- a field's calls have names of their own, and an array has a member
pub record FieldIsNamed (field : FieldRow) : Type 0 where
  pub free : is_prelude_name field.name ≡ false
  pub tests : AreCalls field.is_calls
  pub sets : AreCalls field.set_calls
  pub some : 1 ≤ unwrap_or (member_count field) 1

-- its accessor, and its marker, are names
pub record FieldHasNames (step : Step) : Type 0 where
  pub accessor : HasAccessor step.name
  pub marker : step.name ≢ [] → IsIdentifier (marker_of step)

-- ---- registers

-- A register with these keys and children, in which these properties hold: it has 1 to 64 bits; nothing but fields stands below it, which have distinct accessors and distinct markers; its row fits, and is told field by field.
pub record RegisterIsChecked (props : Props) (keys : List Key) (children : Forest Step Key) : Type 0 where
  pub some : 1 ≤ size_at props
  pub most : size_at props ≤ 64
  pub kinds : AreFields children
  pub siblings : AreSiblings children
  pub markers : are_distinct_names (marker_names children) ≡ true
  pub fields : AllByRecursion FieldHasNames (steps children)
  pub row : RowFits (row_of props keys children)
  pub named : AllByRecursion FieldIsNamed (row_of props keys children).fields
  pub told : map (λ field. field.name) (row_of props keys children).fields ≡ accessor_names children
