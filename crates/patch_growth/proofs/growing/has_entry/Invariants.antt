use Rattle.std.proofs.Common.{◌≡◌}
use Rattle.std.specs.List.{list_any}
use Rattle.std.specs.Str.{bytes_eq}
use Rattle.patch_growth.proofs.growing.has_entry.Given as goal

abbrev pub invariant-loop-key : goal.invariant-loop-key
invariant-loop-key g l = list_any (λ entry. bytes_eq l.name entry.0.name) l.key-iterator ≡ list_any (λ entry. bytes_eq l.name entry.0.name) l.entries.entries
