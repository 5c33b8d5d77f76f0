use Rattle.std.proofs.Common.{subst, sym}
use Rattle.std.proofs.lemmas.List.{drop_all}
use Rattle.std.specs.List.{AllByRecursion}
use Rattle.register_form.specs.Numbers.{FieldIsNumbered}
use Rattle.register_form.proofs.Valid.{one_more}
use Rattle.register_form.proofs.numbers.fields_numbers.Goals as goal

pub loop-field-preserved : goal.loop-field-preserved
loop-field-preserved c = λ rest. c.loop-field.invariant (one_more FieldIsNumbered c.args.fields.now c.loop-field.field-index c.field-item.result c.loop-field-test.true c.field-item.is c.field_numbers.ensures rest)

pub returns : goal.returns
returns c = c.loop-field.invariant (subst (AllByRecursion FieldIsNumbered) (sym (drop_all c.loop-field.field-index c.args.fields.now c.loop-field-test.false)) tt)
