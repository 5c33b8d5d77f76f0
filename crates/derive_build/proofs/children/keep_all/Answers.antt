use Rattle.std.proofs.Common.{take, get_or, refl}
use Rattle.derive_build.proofs.Named.{kept_step, names_step, kept_end, drop_next}
use Rattle.derive_build.proofs.children.keep_all.Goals as goal

pub loop-child-preserved : goal.loop-child-preserved
loop-child-preserved c =
    let l = c.loop-child in
    let x = get_or c.args.source.now l.child-index 0 in
    record {
      made = kept_step c.args.owns.now c.args.source.now c.args.own.now l.made.items c.keep.new.made.items l.child-index _ x c.loop-child-test.true (drop_next c.args.source.now l.child-index c.loop-child-test.true) refl (c.in_ok-keep.ensures c.args.own.now (take l.child-index c.args.source.now) c.in_ok-index.ensures l.invariant.passed) l.invariant.made;
      passed = names_step c.args.owns.now c.args.source.now l.child-index x l.passed c.set.new.self c.name_of.result.now c.loop-child-test.true refl l.invariant.passed c.name_of.ensures c.in_ok-set.ensures;
    }

pub returns-clause-made : goal.returns-clause-made
returns-clause-made c = kept_end c.args.owns.now c.args.source.now c.args.own.now c.loop-child.made.items c.loop-child.child-index c.loop-child-test.false c.loop-child.invariant.made
