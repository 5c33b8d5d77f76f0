-- The rows of a table as pairs of a word's bytes and its code: what a table is seen as.
use Rattle.std.specs.Prelude.{ℕ, List, map}
use Rattle.case_table.specs.declared.row.CaseRow.{CaseRow}

abbrev pub entry_of : CaseRow → List ℕ × ℕ
entry_of row = (row.word.now, row.code)

abbrev pub entries_of : List CaseRow → List (List ℕ × ℕ)
entries_of rows = map entry_of rows

abbrev pub word_of : List ℕ × ℕ → List ℕ
word_of entry = entry.0

abbrev pub words_of : List (List ℕ × ℕ) → List (List ℕ)
words_of entries = map word_of entries
