use Rattle.std.proofs.Common.{◌≡◌, length, map, ◌++◌}
use Rattle.frag_rules.specs.Keys.{call_seen, key_seen}
use Rattle.frag_rules.proofs.values.push_numbers.Given as goal

abbrev pub invariant-loop-first : goal.invariant-loop-first
invariant-loop-first l =
    map call_seen l.calls.items ++ map (λ call. (key_seen l.fn.on, call.name)) l.rest ≡ map call_seen l.fn.calls.items ++ map (λ call. (key_seen l.fn.on, call.name)) l.fn.numbers

abbrev pub decreases-loop-first : goal.decreases-loop-first
decreases-loop-first l = length l.rest
