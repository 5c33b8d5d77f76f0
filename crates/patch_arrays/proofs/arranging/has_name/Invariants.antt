use Rattle.std.proofs.Common.{◌≡◌, drop}
use Rattle.std.specs.List.{list_any}
use Rattle.std.specs.Str.{bytes_eq}
use Rattle.patch_arrays.proofs.arranging.has_name.Given as goal

abbrev pub invariant-loop-entry : goal.invariant-loop-entry
invariant-loop-entry g l = list_any (λ entry. bytes_eq l.name entry.0.name) (drop l.entry-index l.children) ≡ list_any (λ entry. bytes_eq l.name entry.0.name) l.children
