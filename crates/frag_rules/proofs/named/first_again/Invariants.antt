use Rattle.std.proofs.Common.{◌≡◌, length, map}
use Rattle.std.specs.Str.{bytes_eq}
use Rattle.frag_sem.specs.Modules.{are_distinct_names}
use Rattle.frag_rules.specs.Held.{names_seen}
use Rattle.frag_rules.proofs.Distinct.{fresh_behind}
use Rattle.frag_rules.proofs.named.first_again.Given as goal

abbrev pub invariant-loop-first : goal.invariant-loop-first
invariant-loop-first g l = fresh_behind bytes_eq (names_seen l.seen) (map g.T.HasName.name_of l.rest) ≡ are_distinct_names (map g.T.HasName.name_of l.fn.items)

abbrev pub decreases-loop-first : goal.decreases-loop-first
decreases-loop-first g l = length l.rest
