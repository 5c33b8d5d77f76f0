use Rattle.std.proofs.Common.{sym, ap, ◌∙◌, map, List, drop, ◌+◌, arith}
use Rattle.frag_rules.specs.declared.proxy.CallKey.{CallKey}
use Rattle.frag_rules.specs.Keys.{call_seen, calls_seen, same_call_key}
use Rattle.frag_rules.proofs.Distinct.{drop-at, drop-end, fresh-all, fresh-done, fresh-more, fresh-stops, fresh_behind}
use Rattle.frag_rules.proofs.Keys.{call-turned}
use Rattle.frag_rules.proofs.values.first_call_again.Goals as goal

pub loop-at-init : goal.loop-at-init
loop-at-init c =
    ap (λ (seen : List CallKey). fresh_behind same_call_key (map call_seen seen) (map call_seen c.args.calls.now)) c.new-seen.ensures.empty ∙ fresh-all same_call_key call-turned (map call_seen c.args.calls.now)

pub loop-at-preserved : goal.loop-at-preserved
loop-at-preserved c =
    fresh-more same_call_key (calls_seen c.loop-at.seen) (calls_seen c.is_new_call.new.seen) (map call_seen (drop c.loop-at.at c.args.calls.now)) (map call_seen (drop (c.loop-at.at + 1) c.args.calls.now)) _
    (ap (map call_seen) (drop-at c.args.calls.now c.loop-at.at _ c.loop-at-test.true)) (sym c.if-not-branch.false ∙ c.in_ok-is_new_call.ensures.new) (c.in_ok-is_new_call.ensures.kept c.if-not-branch.false)
    ∙ c.loop-at.invariant

pub returns-then-not-branch : goal.returns-then-not-branch
returns-then-not-branch c =
    fresh-stops same_call_key (calls_seen c.loop-at.seen) (map call_seen (drop c.loop-at.at c.args.calls.now)) (map call_seen (drop (c.loop-at.at + 1) c.args.calls.now)) _
    (ap (map call_seen) (drop-at c.args.calls.now c.loop-at.at _ c.loop-at-test.true)) (sym c.if-not-branch.true ∙ c.in_ok-is_new_call.ensures.new)
    ∙ c.loop-at.invariant

pub returns : goal.returns
returns c = fresh-done same_call_key (calls_seen c.loop-at.seen) (map call_seen (drop c.loop-at.at c.args.calls.now)) (ap (map call_seen) (drop-end c.args.calls.now c.loop-at.at (omega arith))) ∙ c.loop-at.invariant
