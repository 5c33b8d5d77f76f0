use Rattle.std.proofs.Common.{◌≡◌, map, drop}
use Rattle.frag_sem.specs.Modules.{are_distinct}
use Rattle.frag_rules.specs.Keys.{call_seen, calls_seen, same_call_key}
use Rattle.frag_rules.proofs.Distinct.{fresh_behind}
use Rattle.frag_rules.proofs.values.first_call_again.Given as goal

abbrev pub invariant-loop-at : goal.invariant-loop-at
invariant-loop-at l = fresh_behind same_call_key (calls_seen l.seen) (map call_seen (drop l.at l.calls)) ≡ are_distinct same_call_key (map call_seen l.calls)
