use Rattle.std.proofs.Common.{rules}
use Rattle.std.specs.declared.cmp.Ordering.{Ordering}
use Rattle.std.specs.Ordering.{nat_cmp}
use Rattle.std.specs.Cmp.Lexicographic.{slice_cmp}
use Rattle.std.proofs.lemmas.Fn.{always_returns_same}
use Rattle.case_table.specs.declared.row.CaseRow.{CaseRow}
use Rattle.case_table.proofs.Lookup.{hit, miss, searchable, found_exactly}
use Rattle.case_table.proofs.table.CaseTable.find.Goals as goal

pub returns-in-Ok-clause-value : goal.returns-in-Ok-clause-value
returns-in-Ok-clause-value g c =
    let compared : CaseRow → Ordering = λ row. slice_cmp nat_cmp row.word.now c.args.word.now in
    let equal = c.in-Ok.ensures.position compared (always_returns_same _ _ _ (λ a r f' called. (search rules, search rules))) in
    rw (← c.self.view_is) (hit c.args.word.now c.self.inside.rows.now c.in-Ok.at _ c.self.invariant c.in-Ok.ensures.bound equal)

pub returns-in-Ok-clause-found : goal.returns-in-Ok-clause-found
returns-in-Ok-clause-found g c =
    rw (← c.self.view_is) (found_exactly c.args.word.now _ _ c.self.invariant (rw c.self.view_is (returns-in-Ok-clause-value g c)))

pub returns-in-Err-clause-value : goal.returns-in-Err-clause-value
returns-in-Err-clause-value g c =
    let compared : CaseRow → Ordering = λ row. slice_cmp nat_cmp row.word.now c.args.word.now in
    let parts = c.in-Err.ensures.position compared (always_returns_same _ _ _ (λ a r f' called. (search rules, search rules))) (searchable c.args.word.now c.self.inside.rows.now c.self.invariant) in
    rw (← c.self.view_is) (miss c.args.word.now c.self.inside.rows.now c.in-Err.field-0 parts)

pub returns-in-Err-clause-found : goal.returns-in-Err-clause-found
returns-in-Err-clause-found g c =
    rw (← c.self.view_is) (found_exactly c.args.word.now _ _ c.self.invariant (rw c.self.view_is (returns-in-Err-clause-value g c)))
