use Rattle.std.proofs.Common.{◌≡◌}
use Rattle.std.specs.List.{list_any}
use Rattle.glob_select.specs.Matching.{matches}
use Rattle.patch_growth.proofs.walking.matches_one.Given as goal

abbrev pub invariant-loop-key : goal.invariant-loop-key
invariant-loop-key l = list_any (λ entry. matches l.pattern entry.0.name) l.key-iterator ≡ list_any (λ entry. matches l.pattern entry.0.name) l.fields.entries
