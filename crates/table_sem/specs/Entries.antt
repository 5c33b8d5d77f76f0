-- When a surface names a row of a register table, and when a table has the rows that a surface names (this project's own).
use Rattle.std.specs.Prelude.{ℕ, ◌≡◌, List, [], ◌∷◌, ◌++◌, Some, IfSome, ⊤}
use Rattle.frag_sem.specs.Surfaces.{Entry, RegisterCalls, Step as Accessor, Surface}
use Rattle.pac_base.specs.declared.path.Step.{Step as NamedStep}
use Rattle.reg_table.specs.declared.row.Row.{Row}
use Rattle.reg_table.specs.Members.{IsIndexOf}
use Rattle.table_sem.specs.TableSurface.{row_calls}

-- the steps are accessors of these names, each with an index just where there is a count, and below it
unfoldable pub LeadsOver : List Accessor → List NamedStep → Type 0
LeadsOver [] [] = ⊤
LeadsOver [] (step ∷ steps) = ⊥
LeadsOver (accessor ∷ accessors) [] = ⊥
LeadsOver (accessor ∷ accessors) (step ∷ steps) = (accessor.name ≡ step.name) × IsIndexOf accessor.count step.index × LeadsOver accessors steps

-- the entry has the slot of the row, accessors over which its path leads, and just its calls
pub record IsEntryOf (row : Row) (entry : Entry) : Type 0 where
  pub slot : entry.slot ≡ row.path.slot
  pub leads : LeadsOver entry.below.steps row.path.steps
  pub calls : entry.below.register ≡ Some (row_calls row)

-- one of the entries is that of the row
pub record HasEntry (surface : Surface) (row : Row) : Type 0 where
  pub before : Surface
  pub entry : Entry
  pub behind : Surface
  pub stands : surface ≡ before ++ entry ∷ behind
  pub is_of : IsEntryOf row entry

-- a row of this slot, with these accessors and indexes, that offers these calls
pub record IsRowOf (slot : List ℕ) (steps : List NamedStep) (calls : RegisterCalls) (row : Row) : Type 0 where
  pub slot_is : row.path.slot ≡ slot
  pub steps_are : row.path.steps ≡ steps
  pub calls_are : row_calls row ≡ calls

-- one of the rows is such a one
pub record HasRow (table : List Row) (slot : List ℕ) (steps : List NamedStep) (calls : RegisterCalls) : Type 0 where
  pub before : List Row
  pub row : Row
  pub behind : List Row
  pub stands : table ≡ before ++ row ∷ behind
  pub is_of : IsRowOf slot steps calls row

-- wherever the entry of a register leads, the table has a row with its calls
abbrev pub HasRows : List Row → Entry → Type 0
HasRows table entry = IfSome entry.below.register (λ calls. (steps : List NamedStep) → LeadsOver entry.below.steps steps → HasRow table entry.slot steps calls)
