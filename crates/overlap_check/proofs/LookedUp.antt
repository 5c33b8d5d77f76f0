-- A look-up among names under their accessor names.
use Rattle.std.proofs.Common.{◌≡◌, ℕ, cond, List, [], ◌∷◌, Some, refl, ap}
use Rattle.std.specs.Map.{lookup}
use Rattle.std.specs.Str.{bytes_eq}
use Rattle.overlap_check.specs.Meetings.{under_name}

pub looked-up : (key : List ℕ) (entries : List (List ℕ × List ℕ)) → lookup (bytes_eq key) entries ≡ under_name key entries
looked-up key [] = refl
looked-up key (entry ∷ entries) = ap (λ r. cond (bytes_eq key entry.0) (Some entry.1) r) (looked-up key entries)
