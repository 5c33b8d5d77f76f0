-- The names of the prelude of version 1.
use Rattle.std.proofs.Common.{◌≡◌, ℕ, Bool, true, false, not, ◌||◌, List, refl, sym, ap, ◌∙◌}
use Rattle.std.specs.Prelude.{codes}
use Rattle.std.specs.List.{list_any}
use Rattle.std.specs.Str.{bytes_eq}
use Rattle.std.proofs.lemmas.Slice.Eq.{bytes_eq-Decides}
use Rattle.rust_names.specs.PreludeNames.{first_names, prelude_names}

-- a name of version 2 that isn't its one more is one of version 1
pub among-first : (name word : List ℕ) (ne : Bool) → word ≡ codes "at_bit" → ne ≡ not (bytes_eq name word) → ne ≡ true → list_any (bytes_eq name) prelude_names ≡ list_any (bytes_eq name) first_names
among-first name word ne is differs so = ap (λ b. b || list_any (bytes_eq name) first_names) (by (bytes_eq name (codes "at_bit")) (sym so ∙ (differs ∙ ap (λ w. not (bytes_eq name w)) is)))
  where
    by : (b : Bool) → true ≡ not b → b ≡ false
    by false e = refl
    by true e = e

pub other-than-first : (name word : List ℕ) (ne : Bool) → word ≡ codes "at_bit" → ne ≡ not (bytes_eq name word) → ne ≡ false → ne ≡ list_any (bytes_eq name) first_names
other-than-first name word ne is differs so =
    so ∙ sym (ap (λ n. list_any (bytes_eq n) first_names) ((bytes_eq-Decides name (codes "at_bit")).0 (by (bytes_eq name (codes "at_bit")) (sym so ∙ (differs ∙ ap (λ w. not (bytes_eq name w)) is)))))
  where
    by : (b : Bool) → false ≡ not b → b ≡ true
    by true e = refl
    by false e = e
