-- The first child that would share a name with a further one.
use Rattle.std.specs.Prelude.{ℕ, cond, List, [], ◌∷◌, Option, None, Some}
use Rattle.std.specs.Str.{bytes_eq}
use Rattle.patch_sem.specs.Stripping.{stripped}

-- the written name of the first that stands under this name without the prefix
abbrev pub under_name : List ℕ → List (List ℕ × List ℕ) → Option (List ℕ)
under_name rest [] = None
under_name rest (entry ∷ seen) = cond (bytes_eq rest entry.0) (Some entry.1) (under_name rest seen)

-- the first of those that were seen whose name is that of this one without the prefix
unfoldable pub met : List ℕ → List ℕ → List (List ℕ × List ℕ) → Option (List ℕ)
met prefix name seen = under_name (stripped prefix name) seen
