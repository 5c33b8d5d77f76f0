use Rattle.std.proofs.Common.{take, get_or, refl}
use Rattle.derive_build.proofs.Named.{added_step, names_step, added_end, drop_next}
use Rattle.derive_build.proofs.children.add_all.Goals as goal

pub loop-child-preserved : goal.loop-child-preserved
loop-child-preserved c =
    let l = c.loop-child in
    let x = get_or c.args.own.now l.child-index 0 in
    record {
      made = λ theirs holds. added_step c.args.owns.now c.args.own.now theirs l.made.items c.add.new.made.items l.child-index _ x c.loop-child-test.true (drop_next c.args.own.now l.child-index c.loop-child-test.true) refl (c.in_ok-add.ensures theirs (take l.child-index c.args.own.now) holds l.invariant.passed) (l.invariant.made theirs holds);
      passed = names_step c.args.owns.now c.args.own.now l.child-index x l.passed c.set.new.self c.name_of.result.now c.loop-child-test.true refl l.invariant.passed c.name_of.ensures c.in_ok-set.ensures;
    }

pub returns : goal.returns
returns c = λ theirs holds. added_end c.args.owns.now c.args.own.now theirs c.loop-child.made.items c.args.made.now.items c.loop-child.child-index c.loop-child-test.false (c.loop-child.invariant.made theirs holds)
