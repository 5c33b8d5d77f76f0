use Rattle.std.specs.List.{AllAdjacentBelow}
use Rattle.case_table.specs.Entries.{entries_of, words_of}
use Rattle.case_table.specs.Rising.{IsBelow}
use Rattle.case_table.proofs.table.CaseTable.new.Given as goal

abbrev pub invariant-loop-at : goal.invariant-loop-at
invariant-loop-at g l = AllAdjacentBelow IsBelow (words_of (entries_of l.rows)) l.at
