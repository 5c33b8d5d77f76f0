use Rattle.std.proofs.Common.{None, ◌+◌, get_or, sym, subst}
use Rattle.derive_build.specs.Tables.{IsKid, IsNew, under}
use Rattle.derive_build.proofs.Told.{one-made, all-made, new-at}
use Rattle.svd_model.specs.Trees.{peripheral_under}
use Rattle.derive_build.proofs.device.peripherals_of.Goals as goal

pub loop-number-preserved : goal.loop-number-preserved
loop-number-preserved c = λ all apart.
    let l = c.loop-number in
    let levels = c.args.levels + 1 in
    let before = l.invariant all apart in
    one-made (IsKid c.args.table.now levels None) (under c.args.table.now levels) peripheral_under c.args.numbers.now l.number-index l.made.entries c.add_peripheral.new.made.entries c.loop-number-test.true all
    (λ kid. c.in_ok-add_peripheral.ensures kid
    (subst (λ made. IsNew c.args.table.now made (get_or c.args.numbers.now l.number-index 0)) (sym before) (new-at c.args.table.now levels c.args.numbers.now l.number-index c.loop-number-test.true apart)))
    before

pub returns : goal.returns
returns c = λ all apart.
    all-made (under c.args.table.now (c.args.levels + 1)) peripheral_under c.args.numbers.now c.loop-number.number-index c.loop-number.made.entries c.loop-number-test.false (c.loop-number.invariant all apart)
