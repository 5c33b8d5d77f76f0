use Rattle.std.proofs.Common.{◌≡◌, sym, ◌∙◌, Result, Ok, Err}
use Rattle.std.specs.Prelude.{IsErrOf}
use Rattle.std.proofs.lemmas.Result.{err_from_is_err_and}
use Rattle.svd_values.specs.declared.index.IndexFault.TheVariants.{NotAnIndex}
use Rattle.svd_values.proofs.IndexRanges.{numbers_exactly, letters_exactly, no_index}
use Rattle.svd_values.proofs.index.dim_index.Goals as goal

pub returns-in-Some-clause-ok : goal.returns-in-Some-clause-ok
returns-in-Some-clause-ok c = (numbers_exactly c.args.text.now c.in-Some.first c.in-Some.last).0 (sym c.number_range.ensures ∙ c.in-Some.is)

pub returns-in-Some-letter_range-clause-ok : goal.returns-in-Some-letter_range-clause-ok
returns-in-Some-letter_range-clause-ok c =
    (letters_exactly c.args.text.now c.in-Some-letter_range.first c.in-Some-letter_range.last).0 (sym c.letter_range.ensures ∙ c.in-Some-letter_range.is)

err_is : {T E : Type 0} (result : Result T E) (fault wanted : E) → IsErrOf result wanted → result ≡ Err fault → fault ≡ wanted
err_is (Ok value) fault wanted of is = cc
err_is (Err other) fault wanted of is = cc

pub returns-in_err-words-clause-refused : goal.returns-in_err-words-clause-refused
returns-in_err-words-clause-refused c = λ fault.
    let p = err_from_is_err_and c.from_residual.result c.from_residual.ensures.1 in
    let told : c.in_err-words.field-0.0 ≡ NotAnIndex = sym p.2 ∙ err_is c.from_residual.result p.0 NotAnIndex fault p.1 in
    no_index c.args.text.now (sym c.in_default.is ∙ c.number_range.ensures) (sym c.in_default-letter_range.is ∙ c.letter_range.ensures) (c.in_err-words.ensures told)
