-- Lists that are made one item after the other.
use Rattle.std.proofs.Common.{◌≡◌, inl, inr, ℕ, ◌+◌, ◌<◌, List, [], ◌∷◌, ◌++◌, length, get_or, sym, subst, arith}
use Rattle.std.proofs.lemmas.Bool.{cases_lt}
use Rattle.std.proofs.lemmas.List.{get_or_append_left}
use Rattle.std.proofs.Math.Seq.{get_or-append_seam}

-- what holds at each place so far, and of the next item, holds at each place
pub each_more : {X : Type 0} (P : ℕ → X → Type 0) (made : List X) (x d : X) → ((e : ℕ) → e < length made → P e (get_or made e d)) → P (length made) x → (e : ℕ) → e < length made + 1 → P e (get_or (made ++ x ∷ []) e d)
each_more P made x d so_far here e below = elim (cases_lt e (length made)) [
  | inl inside ↦ subst (P e) (sym (get_or_append_left made (x ∷ []) d e inside)) (so_far e inside)
  | inr past ↦
      let same : e ≡ length made = omega (arith, past, below) in
      subst (λ i. P i (get_or (made ++ x ∷ []) i d)) (sym same) (subst (P (length made)) (sym (get_or-append_seam made x [] d)) here)
]
