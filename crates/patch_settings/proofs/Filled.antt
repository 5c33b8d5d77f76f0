-- In which places a key stands where keys were set one after the other.
use Rattle.std.proofs.Common.{◌≡◌, ◌<◌, ℕ, zero, suc, Bool, true, false, ◌||◌, nat_eq, List, [], ◌∷◌, set, length, slice_get, Option, Some, None, is_some, option_map, refl, sym, ap, ◌∙◌, arith, length-set}
use Rattle.std.proofs.lemmas.Bool.Decides.{nat_tests}
use Rattle.std.specs.List.{list_any}
use Rattle.patch_settings.proofs.Placing.{rank-below}
use Rattle.patch_settings.specs.Places.{KeyPlaces, none_placed, placed}
use Rattle.svd_model.specs.Keys.{Key, rank}

-- is there a key in the place?
abbrev pub is_filled : Option (Option Key) → Bool
is_filled None = false
is_filled (Some None) = false
is_filled (Some (Some key)) = true

abbrev pub filled : KeyPlaces → ℕ → Bool
filled places n = is_filled (slice_get places n)

first-apart : (n : ℕ) → nat_eq 0 (suc n) ≡ false
first-apart n = grind (arith, nat_tests)

last-apart : (n : ℕ) → nat_eq (suc n) 0 ≡ false
last-apart n = grind (arith, nat_tests)

behind-first : (m n : ℕ) → nat_eq (suc m) (suc n) ≡ nat_eq m n
behind-first m n = cases (nat_eq m n) refl
  where
    cases : (b : Bool) → nat_eq m n ≡ b → nat_eq (suc m) (suc n) ≡ b
    cases true is = grind (arith, nat_tests, is)
    cases false is = grind (arith, nat_tests, is)

set-filled : (places : KeyPlaces) (m n : ℕ) (key : Key) → m < length places → filled (set places m (Some key)) n ≡ (nat_eq m n || filled places n)
set-filled [] m n key less = absurd (omega (arith, less))
set-filled (first ∷ places) zero zero key less = refl
set-filled (first ∷ places) zero (suc n) key less = ap (λ (b : Bool). b || filled places n) (sym (first-apart n))
set-filled (first ∷ places) (suc m) zero key less = ap (λ (b : Bool). b || filled (first ∷ places) 0) (sym (last-apart m))
set-filled (first ∷ places) (suc m) (suc n) key less = set-filled places m n key (omega (arith, less)) ∙ ap (λ (b : Bool). b || filled places n) (sym (behind-first m n))

placed-filled : (n : ℕ) (keys : List Key) (places : KeyPlaces) → length places ≡ 18 → filled (placed keys places) n ≡ (list_any (λ key. nat_eq (rank key) n) keys || filled places n)
unfolding placed
placed-filled n [] places long = refl
placed-filled n (key ∷ keys) places long =
    placed-filled n keys (set places (rank key) (Some key)) (length-set places (rank key) (Some key) ∙ long)
    ∙ ap (λ (b : Bool). list_any (λ key. nat_eq (rank key) n) keys || b) (set-filled places (rank key) n key (within (rank key) (length places) (rank-below key) long))
    ∙ turn (list_any (λ key. nat_eq (rank key) n) keys) (nat_eq (rank key) n) (filled places n)
  where
    turn : (a b c : Bool) → (a || (b || c)) ≡ ((b || a) || c)
    turn true true c = refl
    turn true false c = refl
    turn false true c = refl
    turn false false c = refl

    within : (n k : ℕ) → n < 18 → k ≡ 18 → n < k
    within n k less is = omega (arith, less, is)

-- is there one, where none stood before?
pub sets-filled : (n : ℕ) (keys : List Key) → filled none_placed n ≡ false → filled (placed keys none_placed) n ≡ list_any (λ key. nat_eq (rank key) n) keys
sets-filled n keys none = placed-filled n keys none_placed refl ∙ ap (λ (b : Bool). list_any (λ key. nat_eq (rank key) n) keys || b) none ∙ alone (list_any (λ key. nat_eq (rank key) n) keys)
  where
    alone : (b : Bool) → (b || false) ≡ b
    alone true = refl
    alone false = refl

pub stated-filled : {A : Type 0} (key : A → Key) (o : Option A) → is_some o ≡ is_filled (Some (option_map key o))
stated-filled key None = refl
stated-filled key (Some a) = refl
