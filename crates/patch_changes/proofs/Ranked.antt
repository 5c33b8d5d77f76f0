-- Keys that are set stand by rank again.
use Rattle.std.proofs.Common.{◌≡◌, ℕ, ◌<◌, Bool, true, false, cond, nat_lt, nat_eq, List, [], ◌∷◌, refl, subst, arith, eqb-true, ltb-true, ltb-false}
use Rattle.std.proofs.lemmas.Bool.{eqb-false}
use Rattle.std.specs.List.{AllByRecursion}
use Rattle.svd_model.specs.Keys.{Key, rank}
use Rattle.svd_rows.specs.Ranks.{IsRanked, set_key}

abbrev Above : ℕ → List Key → Type 0
Above n keys = AllByRecursion (λ later. n < rank later) keys

set-above : (n : ℕ) (one : Key) (keys : List Key) → n < rank one → Above n keys → Above n (set_key rank one keys)
unfolding set_key
set-above n one [] less above = (less, tt)
set-above n one (first ∷ keys) less above = cases (nat_lt (rank first) (rank one)) (nat_eq (rank first) (rank one)) (set-above n one keys less above.1)
  where
    cases : (lower same : Bool) → Above n (set_key rank one keys) → Above n (cond lower (first ∷ set_key rank one keys) (cond same (one ∷ keys) (one ∷ (first ∷ keys))))
    cases true same more = (above.0, more)
    cases false true more = (less, above.1)
    cases false false more = (less, above)

above-less : (m n : ℕ) (keys : List Key) → m < n → Above n keys → Above m keys
above-less m n [] less above = tt
above-less m n (first ∷ keys) less above = (omega (arith, less, above.0), above-less m n keys less above.1)

pub set-ranked : (one : Key) (keys : List Key) → IsRanked rank keys → IsRanked rank (set_key rank one keys)
unfolding IsRanked set_key
set-ranked one [] ranked = (tt, tt)
set-ranked one (first ∷ keys) ranked = cases (nat_lt (rank first) (rank one)) refl (nat_eq (rank first) (rank one)) refl (set-ranked one keys ranked.1)
  where
    over : nat_lt (rank first) (rank one) ≡ false → nat_eq (rank first) (rank one) ≡ false → rank one < rank first
    over low equal = let le = ltb-false (rank first) (rank one) low in let ne = eqb-false (rank first) (rank one) equal in omega (arith, le, ne)

    cases : (lower : Bool) → nat_lt (rank first) (rank one) ≡ lower → (same : Bool) → nat_eq (rank first) (rank one) ≡ same → IsRanked rank (set_key rank one keys) → IsRanked rank (cond lower (first ∷ set_key rank one keys) (cond same (one ∷ keys) (one ∷ (first ∷ keys))))
    cases true low same equal more = (set-above (rank first) one keys (ltb-true (rank first) (rank one) low) ranked.0, more)
    cases false low true equal more = (subst (λ (n : ℕ). Above n keys) (eqb-true (rank first) (rank one) equal) ranked.0, ranked.1)
    cases false low false equal more = ((over low equal, above-less (rank one) (rank first) keys (over low equal) ranked.0), ranked)
