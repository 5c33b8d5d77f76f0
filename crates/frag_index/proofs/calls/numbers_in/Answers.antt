use Rattle.frag_rules.proofs.ByName.{none-left}
use Rattle.frag_sem.specs.ProxyTypes.{number_calls}
use Rattle.frag_tree.specs.declared.register.NumberCall.{NumberCall}
use Rattle.frag_index.proofs.Calling.{taken-all, taken-begin, taken-more}
use Rattle.frag_index.proofs.calls.numbers_in.Goals as goal

pub loop-first-init : goal.loop-first-init
loop-first-init c = taken-begin (λ (call : NumberCall). call.name) number_calls c.new-held.result c.args.values.now c.new-held.ensures.empty

pub loop-first-preserved : goal.loop-first-preserved
loop-first-preserved c =
    taken-more (λ (call : NumberCall). call.name) number_calls c.loop-first.held c.keep_all.new.held c.loop-first.rest.now c.in-Some.others.now c.args.values.now c.in-Some.first.now _ c.numbers_of.result.now
    c.in-Some.ensures.cases.0 c.key_of_values.ensures c.numbers_of.ensures c.in_ok-keep_all.ensures c.loop-first.invariant

pub returns : goal.returns
returns c = taken-all (λ (call : NumberCall). call.name) number_calls c.loop-first.held c.loop-first.rest.now c.args.values.now (none-left _ c.in_default.ensures.cases) c.loop-first.invariant
