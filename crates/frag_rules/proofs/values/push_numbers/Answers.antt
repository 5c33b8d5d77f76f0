use Rattle.std.proofs.Common.{sym, ap, ◌∙◌, map, ◌++◌, ◌∷◌, []}
use Rattle.std.proofs.lemmas.List.{append-nil, map-append}
use Rattle.frag_rules.specs.Keys.{call_seen, key_seen}
use Rattle.frag_rules.proofs.ByName.{none-left}
use Rattle.frag_rules.proofs.Keys.{calls-more}
use Rattle.frag_rules.proofs.values.push_numbers.Goals as goal

pub loop-first-preserved : goal.loop-first-preserved
loop-first-preserved c =
    calls-more _ _ _ _ _ (ap (map (λ call. (key_seen c.args.on, call.name))) c.in-Some.ensures.cases.0)
    (ap (map call_seen) c.in_ok-push.ensures.items ∙ (map-append call_seen c.loop-first.calls.items _ ∙ ap (λ name. map call_seen c.loop-first.calls.items ++ (key_seen c.args.on, name) ∷ []) c.bytes-name.ensures.same))
    ∙ c.loop-first.invariant

pub returns : goal.returns
returns c =
    sym (append-nil (map call_seen c.loop-first.calls.items))
    ∙ (ap (λ left. map call_seen c.loop-first.calls.items ++ map (λ call. (key_seen c.args.on, call.name)) left) (sym (none-left _ c.in_default.ensures.cases)) ∙ c.loop-first.invariant)
