use Rattle.std.proofs.Common.{arith, get_or, subst}
use Rattle.derive_build.specs.Filling.{Comes}
use Rattle.derive_build.proofs.Filled.{filled-more, number-inside, table-long}
use Rattle.derive_build.proofs.table.settle.Goals as goal

pub settled-requires-clause-inside : goal.settled-requires-clause-inside
settled-requires-clause-inside c =
    number-inside c.args.owns.now c.args.sources.now c.args.elements.now c.args.order.now c.requires.order c.requires.needed c.loop-number.number-index c.loop-number-test.true

pub index_mut-requires : goal.index_mut-requires
index_mut-requires c =
    omega (
      arith,
      number-inside c.args.owns.now c.args.sources.now c.args.elements.now c.args.order.now c.requires.order c.requires.needed c.loop-number.number-index c.loop-number-test.true,
      table-long c.loop-number.table.items c.args.owns.now c.loop-number.invariant.owns_are,
      c.as_slice.ensures.len,
    )

pub loop-number-preserved : goal.loop-number-preserved
loop-number-preserved c =
    filled-more c.args.owns.now c.args.sources.now c.args.elements.now c.args.order.now c.requires.order c.requires.needed c.loop-number.number-index c.loop-number.table.items c.in_ok-made.made c.loop-number-test.true c.loop-number.invariant
    (subst (λ table. Comes c.args.owns.now c.args.sources.now c.args.elements.now table (get_or c.args.order.now c.loop-number.number-index 0) c.in_ok-made.made) c.as_slice.ensures.value c.in_ok-made.ensures)
