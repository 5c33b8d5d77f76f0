use Rattle.std.proofs.Common.{◌≡◌, length, map, ◌++◌}
use Rattle.std.specs.List.{flat_map}
use Rattle.frag_rules.specs.Keys.{call_key, call_seen, calls_on}
use Rattle.frag_rules.proofs.values.calls_of.Given as goal

abbrev pub invariant-loop-first : goal.invariant-loop-first
invariant-loop-first l = map call_seen l.calls.items ++ map call_key (flat_map calls_on l.rest) ≡ map call_key (flat_map calls_on l.fn.unit.values)

abbrev pub decreases-loop-first : goal.decreases-loop-first
decreases-loop-first l = length l.rest
