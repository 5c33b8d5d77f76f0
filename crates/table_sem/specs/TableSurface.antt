-- The surface of a description's flat rows: what a script may call, by the names of its elements and by the rows of the register table (this project's own rule). It looks at no crate text.
use Rattle.std.specs.Prelude.{cond, List, [], map, Option, Some, None}
use Rattle.frag_sem.specs.Surfaces.{Entry, ReadCall, ReadField, RegisterCalls, Surface, WriteCall, WriteField}
use Rattle.reg_table.specs.Registers.{register_row}
use Rattle.reg_table.specs.declared.row.FieldRow.{FieldRow}
use Rattle.reg_table.specs.declared.row.Row.{Row as TableRow}
use Rattle.reg_table.specs.declared.row.RowPath.{RowPath}
use Rattle.svd_model.specs.Keys.{Key}
use Rattle.svd_model.specs.Stating.{is_of, properties_of}
use Rattle.svd_model.specs.Steps.{Step, register}
use Rattle.svd_model.specs.Visits.{Visit}
use Rattle.svd_rows.specs.LookUps.{ends_with}
use Rattle.svd_rows.specs.Rows.{Row}
use Rattle.reg_table.specs.Members.{member_count}
use Rattle.table_sem.specs.Methods.{ReadMethod, WriteMethod, read_methods, write_methods}
use Rattle.table_sem.specs.Names.{Named, named, named_visits}
use Rattle.table_sem.specs.RowActs.{readable_fields, writable_fields}

-- ---- a row

abbrev pub read_call : ReadMethod → ReadCall
read_call method = record { name = method.name; gives = method.gives }

abbrev pub write_call : WriteMethod → WriteCall
write_call method = record { name = method.name; takes = method.takes }

abbrev pub read_field : FieldRow → ReadField
read_field field = record { name = field.name; count = member_count field; calls = map read_call (read_methods field) }

abbrev pub write_field : FieldRow → WriteField
write_field field = record { name = field.name; count = member_count field; calls = map write_call (write_methods field) }

-- what the register of a row offers: its path and its address have no part in that
unfoldable pub row_calls : TableRow → RegisterCalls
row_calls row = record {
  width = row.width;
  readable = row.readable;
  writable = row.writable;
  readers = map read_field (readable_fields row);
  writers = map write_field (writable_fields row);
}

-- ---- a description

abbrev pub no_path : RowPath
no_path = record { slot = []; steps = [] }

-- what an element offers, where it is a register: its members' rows differ in path and address alone
abbrev pub visit_calls : Visit → Option RegisterCalls
visit_calls visit = cond (ends_with (is_of register) visit.path) (Some (row_calls (register_row no_path 0 (properties_of visit.down) visit.own))) None

-- an entry of this name
abbrev pub entry_of : Named → Option RegisterCalls → Entry
entry_of name calls = record { slot = name.slot; below = record { steps = name.accessors; register = calls } }

abbrev pub visit_entry : Visit → Entry
visit_entry visit = entry_of (named visit.path visit.down) (visit_calls visit)

-- the surface: each peripheral, cluster and register in document order
unfoldable pub table_surface : List (Row Step Key) → Surface
table_surface all = map visit_entry (named_visits all)
