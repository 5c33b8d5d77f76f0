use Rattle.std.proofs.Common.{◌≡◌}
use Rattle.std.specs.List.{list_any}
use Rattle.glob_select.specs.Matching.{matches}
use Rattle.patch_edits.proofs.opening.matches_one.Given as goal

abbrev pub invariant-loop-key : goal.invariant-loop-key
invariant-loop-key g l = list_any (λ entry. matches l.pattern entry.0.name) l.key-iterator ≡ list_any (λ entry. matches l.pattern entry.0.name) l.entries.entries
