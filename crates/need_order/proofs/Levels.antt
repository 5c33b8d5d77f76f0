-- Where an order stands, levels are never used up.
use Rattle.std.proofs.Common.{◌≡◌, inl, inr, ℕ, suc, ◌+◌, ◌-◌, ◌≤◌, true, false, List, [], ◌∷◌, ◌++◌, length, sym, ap, ◌∙◌, subst, arith, append_assoc, append-nil}
use Rattle.std.proofs.lemmas.Bool.{true≢false}
use Rattle.std.proofs.lemmas.List.{length_push}
use Rattle.need_order.specs.Needs.{among}
use Rattle.need_order.specs.Gathering.{lacks}
use Rattle.need_order.specs.Settling.{Follows}
use Rattle.need_order.specs.Levels.{by_levels, IsMadeOfNeeds}
use Rattle.need_order.proofs.Numbers.{among-cases, among-one, lacks-none}

module _ {P X : Type 0} (at : ℕ → P) (needs : ℕ → List ℕ) (make : (P → X) → P → X) (none : X) (uses : IsMadeOfNeeds at needs make) where
  -- the value of these doesn't change from this level on
  abbrev Rests : ℕ → List ℕ → Type 0
  Rests k items = (e : ℕ) → among e items ≡ true → (more : ℕ) → by_levels make none (k + more) (at e) ≡ by_levels make none k (at e)

  rests-more : (k : ℕ) (items : List ℕ) (e : ℕ) → Rests k items → lacks items (needs e) ≡ false → Rests (k + 1) (items ++ e ∷ [])
  unfolding by_levels
  rests-more k items e h l d there more = elim (among-cases d items (e ∷ []) there) [
    | inl p ↦ ap (λ j. by_levels make none j (at d)) (same k more) ∙ h d p (1 + more) ∙ sym (h d p 1)
    | inr q ↦ subst (λ i. by_levels make none ((k + 1) + more) (at i) ≡ by_levels make none (k + 1) (at i)) (sym (among-one d e q)) here
  ]
    where
      same : (k more : ℕ) → (k + 1) + more ≡ k + (1 + more)
      same k more = omega arith

      step : (j : ℕ) → j + 1 ≡ suc j
      step j = omega arith

      shift : (k more : ℕ) → (k + 1) + more ≡ suc (k + more)
      shift k more = omega arith

      here : by_levels make none ((k + 1) + more) (at e) ≡ by_levels make none (k + 1) (at e)
      here =
          ap (λ j. by_levels make none j (at e)) (shift k more)
          ∙ uses (by_levels make none (k + more)) (by_levels make none k) e (λ i p. h i (lacks-none items (needs e) l i p) more)
          ∙ sym (ap (λ j. by_levels make none j (at e)) (step k))

  rests : (before rest : List ℕ) → Follows needs before rest → Rests (length before) before → Rests (length (before ++ rest)) (before ++ rest)
  unfolding Follows
  rests before [] f h = subst (λ b. Rests (length b) b) (sym (append-nil before)) h
  rests before (e ∷ rest) f h =
      subst (λ b. Rests (length b) b) (append_assoc before (e ∷ []) rest)
      (rests (before ++ e ∷ []) rest f.1 (subst (λ k. Rests k (before ++ e ∷ [])) (sym (length_push before e)) (rests-more (length before) before e h f.0)))

  pub rests-order : (order : List ℕ) → Follows needs [] order → (e : ℕ) → among e order ≡ true → (more : ℕ) → by_levels make none (length order + more) (at e) ≡ by_levels make none (length order) (at e)
  rests-order order f = rests [] order f (λ e there. absurd (true≢false (sym there)))

  -- each value is made of the values of the same level
  pub made_along : (order : List ℕ) → Follows needs [] order → (levels : ℕ) → length order ≤ levels → (e : ℕ) → among e order ≡ true → by_levels make none levels (at e) ≡ make (by_levels make none levels) (at e)
  unfolding by_levels
  made_along order f levels enough e there =
      ap (λ j. by_levels make none j (at e)) (less levels (length order) enough)
      ∙ rests-order order f e there (levels - length order)
      ∙ sym (ap (λ j. by_levels make none j (at e)) (more levels (length order) enough) ∙ rests-order order f e there (suc (levels - length order)))
    where
      less : (a b : ℕ) → b ≤ a → a ≡ b + (a - b)
      less a b h = omega (arith, h)

      more : (a b : ℕ) → b ≤ a → suc a ≡ b + suc (a - b)
      more a b h = omega (arith, h)
