use Rattle.std.proofs.Common.{ap, ◌∙◌, map}
use Rattle.frag_sem.specs.CrateTyping.{value_calls}
use Rattle.frag_sem.specs.Modules.{are_distinct}
use Rattle.frag_rules.specs.Keys.{call_seen, same_call_key}
use Rattle.frag_rules.proofs.Keys.{calls-distinct}
use Rattle.frag_rules.proofs.values.value_calls.Goals as goal

pub returns : goal.returns
returns c =
    c.found_call.ensures ∙ (c.in_ok-again.ensures ∙ (ap (λ calls. are_distinct same_call_key (map call_seen calls)) c.as_slice.ensures.value ∙ (ap (are_distinct same_call_key) c.in_ok-calls.ensures ∙ calls-distinct (value_calls c.args.unit.now))))
