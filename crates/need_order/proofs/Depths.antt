-- An element needs no more levels than stand below it.
use Rattle.std.proofs.Common.{◌≡◌, inl, inr, ℕ, zero, suc, ◌+◌, Bool, true, false, nat_eq, List, [], ◌∷◌, sym, ap, ◌∙◌, arith}
use Rattle.std.specs.List.{list_any}
use Rattle.std.proofs.lemmas.Bool.{eqb-true, or_cases, true≢false}
use Rattle.need_order.specs.Children.{is_deep}
use Rattle.need_order.specs.Levels.{by_levels, IsMadeOfNeeds}
use Rattle.need_order.specs.Needs.{among}
use Rattle.need_order.proofs.Numbers.{or_none}

-- none of these passes the test
pub none_passes : (test : ℕ → Bool) (ds : List ℕ) → list_any test ds ≡ false → (d : ℕ) → among d ds ≡ true → test d ≡ false
none_passes test [] h d p = absurd (true≢false (sym p))
none_passes test (x ∷ ds) h d p = elim (or_cases (nat_eq d x) (among d ds) p) [
  | inl q ↦ ap test (eqb-true d x q) ∙ (or_none (test x) (list_any test ds) h).0
  | inr q ↦ none_passes test ds (or_none (test x) (list_any test ds) h).1 d q
]

-- more levels than the depth don't matter
pub shallow : {X : Type 0} (children : ℕ → List ℕ) (make : (ℕ → X) → ℕ → X) (none : X) → IsMadeOfNeeds (λ e. e) children make → (levels e more : ℕ) → is_deep children levels e ≡ false → by_levels make none (levels + more) e ≡ by_levels make none levels e
unfolding is_deep by_levels
shallow children make none uses zero e more h = absurd (true≢false h)
shallow children make none uses (suc levels) e more h =
    ap (λ j. by_levels make none j e) (shift levels more)
    ∙ uses (by_levels make none (levels + more)) (by_levels make none levels) e (λ d p. shallow children make none uses levels d more (none_passes (is_deep children levels) (children e) h d p))
  where
    shift : (a b : ℕ) → suc a + b ≡ suc (a + b)
    shift a b = omega arith
