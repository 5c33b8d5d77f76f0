-- What a register of the table keeps, and the events of a script against a table.
use Rattle.std.proofs.Common.{ℕ, ◌^◌, ◌<◌, Bool, true, false, cond, List, [], ◌∷◌, find, Option, Some, None, IfSome, option_map, bytes_eq, mod-lt}
use Rattle.std.specs.List.{AllByRecursion}
use Rattle.pac_base.specs.Widths.{bits_of}
use Rattle.frag_tree.specs.declared.statement.Place.{Place}
use Rattle.frag_sem.specs.Meaning.{meaning}
use Rattle.frag_sem.specs.Presets.{called_places, presets}
use Rattle.frag_sem.proofs.Events.{InRange, lines_answered, lines_in_range, presets_of_places}
use Rattle.frag_sem.proofs.Words.{some_power}
use Rattle.reg_table.specs.declared.row.FieldRow.{FieldRow}
use Rattle.reg_table.specs.declared.row.Row.{Row as TableRow}
use Rattle.table_sem.specs.Laws.{PresetsInRange, RowKeepsWords, RunInRange, RunIsAnswered}
use Rattle.table_sem.specs.RowActs.{field_put, row_acts, row_found, writable_fields}
use Rattle.table_sem.specs.RowFacts.{RowFits}
use Rattle.table_sem.specs.TableMeaning.{is_at, row_at, table_presets, table_run}
use Rattle.table_sem.proofs.StartNumbers.{start_stays}

put_stays : (bits : ℕ) (index : Option ℕ) (method : List ℕ) (value word : ℕ) (o : Option FieldRow) → word < 2 ^ bits → field_put bits index method value word o < 2 ^ bits
put_stays bits index method value word None small = small
put_stays bits index method value word (Some field) small = mod-lt _ (some_power bits)

pub row_keeps_words : RowKeepsWords
unfolding row_acts
row_keeps_words row fits = record {
  reset = fits.reset;
  start = λ word small. start_stays (bits_of row.width) word row.one row.zero;
  put = λ field index method value word small. put_stays (bits_of row.width) index method value word (find (λ one. bytes_eq field one.name) (writable_fields row)) small;
}

row_in_range : (row : TableRow) → RowFits row → InRange (row_found row)
unfolding row_acts
row_in_range row fits = record { ends = fits.ends; words = row_keeps_words row fits }

-- what stands at a place is in range, where each row fits
place_in_range : (table : List TableRow) → AllByRecursion RowFits table → (place : Place) → IfSome (option_map row_found (find (is_at place) table)) InRange
place_in_range [] fits place = tt
place_in_range (row ∷ table) fits place = by (is_at place row) (place_in_range table fits.1 place)
  where
    by : (b : Bool) → IfSome (option_map row_found (find (is_at place) table)) InRange → IfSome (option_map row_found (cond b (Some row) (find (is_at place) table))) InRange
    by true others = row_in_range row fits.0
    by false others = others

pub run_in_range : RunInRange
unfolding table_run row_at meaning
run_in_range table fits script answers = lines_in_range (row_at table) (place_in_range table fits) script.lines (record { answers = answers; names = [] })

pub presets_in_range : PresetsInRange
unfolding table_presets row_at presets
presets_in_range table fits script = presets_of_places (row_at table) (place_in_range table fits) (called_places script)

pub run_is_answered : RunIsAnswered
unfolding table_run meaning
run_is_answered table script answers = lines_answered (row_at table) script.lines (record { answers = answers; names = [] })
