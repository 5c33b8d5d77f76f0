-- The mappings that are open, as they are closed one by one.
use Rattle.std.proofs.Common.{◌≡◌, ◌<◌, ◌≤◌, ℕ, true, false, List, [], ◌∷◌, ◌++◌, refl, ap, ◌∙◌, arith}
use Rattle.std.specs.Prelude.{nat_lt, reverse}
use Rattle.std.proofs.lemmas.Bool.Decides.{nat_tests}
use Rattle.std.proofs.lemmas.List.{reverse-append}
use Rattle.yaml_block.specs.Passing.{down_to}

pub down_to-last : (indent top : ℕ) (outer : List ℕ) → outer ≡ [] → down_to indent top outer ≡ (top, [])
unfolding down_to
down_to-last indent top outer none = ap (down_to indent top) none

pub down_to-deeper : (indent top next : ℕ) (old new : List ℕ) → nat_lt indent top ≡ true → old ≡ new ++ next ∷ [] → down_to indent top (reverse old) ≡ down_to indent next (reverse new)
unfolding down_to
down_to-deeper indent top next old new deeper whole =
    let turned : reverse old ≡ next ∷ reverse new = ap reverse whole ∙ reverse-append new (next ∷ []) in
    ap (down_to indent top) turned ∙ rw deeper refl

pub down_to-here : (indent top : ℕ) (outer : List ℕ) → nat_lt indent top ≡ false → down_to indent top outer ≡ (top, outer)
unfolding down_to
down_to-here indent top [] here = refl
down_to-here indent top (next ∷ outer) here = rw here refl

pub less_test : (a b : ℕ) → a < b → nat_lt a b ≡ true
less_test a b less = grind (arith, nat_tests, less)

pub not_less_test : (a b : ℕ) → b ≤ a → nat_lt a b ≡ false
not_less_test a b less = grind (arith, nat_tests, less)
