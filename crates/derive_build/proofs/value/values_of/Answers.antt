use Rattle.std.proofs.Common.{Some}
use Rattle.derive_build.specs.Tables.{IsKid, named}
use Rattle.derive_build.proofs.Told.{one-made, all-made}
use Rattle.svd_model.specs.Steps.{set}
use Rattle.svd_model.specs.Trees.{value_tree}
use Rattle.derive_build.proofs.value.values_of.Goals as goal

pub loop-number-preserved : goal.loop-number-preserved
loop-number-preserved c = λ levels all.
    one-made (IsKid c.args.table.now levels (Some set)) (named c.args.table.now levels) value_tree c.args.numbers.now c.loop-number.number-index c.loop-number.made.items c.add_value.new.made.items c.loop-number-test.true all
    (c.in_ok-add_value.ensures levels) (c.loop-number.invariant levels all)

pub returns : goal.returns
returns c = λ levels all.
    all-made (named c.args.table.now levels) value_tree c.args.numbers.now c.loop-number.number-index c.loop-number.made.items c.loop-number-test.false (c.loop-number.invariant levels all)
