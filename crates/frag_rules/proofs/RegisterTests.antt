-- The tests of a register's fields, as they are decided by maps.
use Rattle.std.proofs.Common.{◌≡◌, ℕ, Bool, true, false, ◌||◌, List, [], ◌∷◌, map, Some, find, is_some, refl, ap, ◌∙◌, if◌then◌else◌}
use Rattle.std.specs.Borrow.{Bor}
use Rattle.std.specs.List.{list_any}
use Rattle.std.specs.Str.{bytes_eq}
use Rattle.frag_sem.specs.CrateTyping.{is_marker}
use Rattle.frag_tree.specs.declared.register.RegisterModule.{RegisterModule}
use Rattle.frag_rules.specs.Naming.{FindsFirst, named_in}

is-among : (name : List ℕ) (names : List (List ℕ)) → is_some (find (λ other. bytes_eq name other) names) ≡ list_any (bytes_eq name) names
is-among name [] = refl
is-among name (first ∷ others) = by (bytes_eq name first) (is-among name others)
  where
    by : (b : Bool) → is_some (find (λ other. bytes_eq name other) others) ≡ list_any (bytes_eq name) others → is_some (if b then Some first else find (λ other. bytes_eq name other) others) ≡ (b || list_any (bytes_eq name) others)
    by true more = refl
    by false more = more

-- a marker is found just where it is declared
pub is-declared : (unit : RegisterModule) (markers : List (List ℕ)) (named : List (List ℕ × Bor (List ℕ))) → markers ≡ unit.markers → FindsFirst (λ name. name) markers named → (marker : List ℕ) → is_some (named_in named marker) ≡ is_marker unit marker
is-declared unit markers named is finds marker = ap is_some (finds marker) ∙ (is-among marker markers ∙ ap (list_any (bytes_eq marker)) is)

pub same : {A : Type 0} (xs : List A) → map (λ x. x) xs ≡ xs
same [] = refl
same (x ∷ xs) = ap (λ ys. x ∷ ys) (same xs)
