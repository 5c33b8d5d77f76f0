use Rattle.std.proofs.Common.{subst, sym}
use Rattle.std.proofs.lemmas.List.{drop_all}
use Rattle.std.specs.List.{AllByRecursion}
use Rattle.register_form.specs.Numbers.{CallIsNumbered}
use Rattle.register_form.proofs.Valid.{one_more}
use Rattle.register_form.proofs.numbers.calls_numbers.Goals as goal

pub loop-call-preserved : goal.loop-call-preserved
loop-call-preserved c = λ rest. c.loop-call.invariant (one_more CallIsNumbered c.args.calls.now c.loop-call.call-index c.call-item.result c.loop-call-test.true c.call-item.is c.call_numbers.ensures rest)

pub returns : goal.returns
returns c = c.loop-call.invariant (subst (AllByRecursion CallIsNumbered) (sym (drop_all c.loop-call.call-index c.args.calls.now c.loop-call-test.false)) tt)
