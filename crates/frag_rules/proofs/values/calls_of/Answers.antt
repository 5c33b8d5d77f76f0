use Rattle.std.proofs.Common.{sym, ap, ◌∙◌, map, ◌++◌, refl}
use Rattle.std.proofs.lemmas.List.{append-nil}
use Rattle.std.specs.List.{flat_map}
use Rattle.frag_rules.specs.Keys.{call_key, call_seen, calls_on}
use Rattle.frag_rules.proofs.ByName.{none-left}
use Rattle.frag_rules.proofs.Keys.{all-calls-more}
use Rattle.frag_rules.proofs.values.calls_of.Goals as goal

pub loop-first-init : goal.loop-first-init
loop-first-init c = rw (c.new-calls.ensures.items, c.as_slice-rest.ensures) refl

pub loop-first-preserved : goal.loop-first-preserved
loop-first-preserved c = all-calls-more _ _ _ _ _ c.in-Some.ensures.cases.0 c.in_ok-push_calls.ensures ∙ c.loop-first.invariant

pub returns : goal.returns
returns c =
    sym (append-nil (map call_seen c.loop-first.calls.items))
    ∙ (ap (λ left. map call_seen c.loop-first.calls.items ++ map call_key (flat_map calls_on left)) (sym (none-left _ c.in_default.ensures.cases)) ∙ c.loop-first.invariant)
