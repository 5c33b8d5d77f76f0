-- What a script does against a register table: its events, and the presets before it (this project's own rule). It looks at the flat rows alone.
use Rattle.std.specs.Prelude.{ℕ, Bool, List, find, map, option_map}
use Rattle.frag_tree.specs.declared.event.Event.{Event}
use Rattle.frag_tree.specs.declared.script.Script.{Script}
use Rattle.frag_tree.specs.declared.statement.Place.{Place}
use Rattle.frag_sem.specs.Meaning.{Places, meaning}
use Rattle.frag_sem.specs.Presets.{Preset, presets, same_place}
use Rattle.reg_table.specs.declared.row.Row.{Row}
use Rattle.reg_table.specs.declared.row.RowPath.{RowPath}
use Rattle.table_sem.specs.RowActs.{row_found}

-- the path of a row as the place that a script writes for it
abbrev pub place_of : RowPath → Place
place_of path = record { slot = path.slot; steps = map (λ step. record { name = step.name; index = step.index }) path.steps }

-- the row of the place: of one slot, and of the same accessors with the same indexes
abbrev pub is_at : Place → Row → Bool
is_at place row = same_place place (place_of row.path)

unfoldable pub row_at : List Row → Places
row_at table place = option_map row_found (find (is_at place) table)

-- The events of a script against a table, where the k-th read gives the k-th answer.
unfoldable pub table_run : List Row → Script → List ℕ → List Event
table_run table script answers = meaning (row_at table) script answers

-- the presets of a script against a table
unfoldable pub table_presets : List Row → Script → List Preset
table_presets table script = presets (row_at table) script
