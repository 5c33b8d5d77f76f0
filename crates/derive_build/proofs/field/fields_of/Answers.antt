use Rattle.std.proofs.Common.{Some, get_or, sym, subst}
use Rattle.derive_build.specs.Tables.{IsKid, IsNew, under}
use Rattle.derive_build.proofs.Told.{one-made, all-made, new-at}
use Rattle.svd_model.specs.Steps.{register}
use Rattle.svd_model.specs.Trees.{field_under}
use Rattle.derive_build.proofs.field.fields_of.Goals as goal

pub loop-number-preserved : goal.loop-number-preserved
loop-number-preserved c = λ levels all apart.
    let l = c.loop-number in
    let before = l.invariant levels all apart in
    one-made (IsKid c.args.table.now levels (Some register)) (under c.args.table.now levels) field_under c.args.numbers.now l.number-index l.made.entries c.add_field.new.made.entries c.loop-number-test.true all
    (λ kid. c.in_ok-add_field.ensures levels kid
    (subst (λ made. IsNew c.args.table.now made (get_or c.args.numbers.now l.number-index 0)) (sym before) (new-at c.args.table.now levels c.args.numbers.now l.number-index c.loop-number-test.true apart)))
    before

pub returns : goal.returns
returns c = λ levels all apart.
    all-made (under c.args.table.now levels) field_under c.args.numbers.now c.loop-number.number-index c.loop-number.made.entries c.loop-number-test.false (c.loop-number.invariant levels all apart)
