-- Which keys stand where keys were set one after the other, and that a key which is set again doesn't matter before.
use Rattle.std.proofs.Common.{◌≡◌, ℕ, zero, suc, Bool, true, false, cond, ◌||◌, nat_eq, nat_lt, List, [], ◌∷◌, set, length, Option, Some, refl, sym, ap, ap₂, ◌∙◌, arith, eqb-true}
use Rattle.std.proofs.lemmas.Bool.Decides.{nat_tests}
use Rattle.std.proofs.lemmas.List.{set-set}
use Rattle.std.specs.List.{list_any}
use Rattle.patch_sem.specs.Settings.{keys_with}
use Rattle.patch_settings.proofs.Placing.{stated-placed}
use Rattle.patch_settings.specs.Places.{KeyPlaces, none_placed, placed}
use Rattle.svd_model.specs.Facts.{is_offset}
use Rattle.svd_model.specs.Keys.{Key, rank, device_name, derived_from, dim_count, dim_increment, dim_index, base_address, at_offset, bit_width, alternate_of, alternate_group, register_size, register_access, reset_value, reset_mask, write_kind, read_action, value_usage, enumerated_value}
use Rattle.patch_sem.specs.Additions.{is_base}
use Rattle.svd_rows.specs.Ranks.{IsPlaced, set_key, stated}

-- is it a key of this rank?
abbrev pub of_rank : ℕ → Key → Bool
of_rank n key = nat_eq (rank key) n

pub base-rank : (key : Key) → is_base key ≡ of_rank 5 key
unfolding rank
base-rank (device_name x) = refl
base-rank (derived_from x) = refl
base-rank (dim_count x) = refl
base-rank (dim_increment x) = refl
base-rank (dim_index x) = refl
base-rank (base_address x) = refl
base-rank (at_offset x) = refl
base-rank (bit_width x) = refl
base-rank (alternate_of x) = refl
base-rank (alternate_group x) = refl
base-rank (register_size x) = refl
base-rank (register_access x) = refl
base-rank (reset_value x) = refl
base-rank (reset_mask x) = refl
base-rank (write_kind x) = refl
base-rank (read_action x) = refl
base-rank (value_usage x) = refl
base-rank (enumerated_value x) = refl

pub offset-rank : (key : Key) → is_offset key ≡ of_rank 6 key
unfolding rank
offset-rank (device_name x) = refl
offset-rank (derived_from x) = refl
offset-rank (dim_count x) = refl
offset-rank (dim_increment x) = refl
offset-rank (dim_index x) = refl
offset-rank (base_address x) = refl
offset-rank (at_offset x) = refl
offset-rank (bit_width x) = refl
offset-rank (alternate_of x) = refl
offset-rank (alternate_group x) = refl
offset-rank (register_size x) = refl
offset-rank (register_access x) = refl
offset-rank (reset_value x) = refl
offset-rank (reset_mask x) = refl
offset-rank (write_kind x) = refl
offset-rank (read_action x) = refl
offset-rank (value_usage x) = refl
offset-rank (enumerated_value x) = refl

pub any-same : {X : Type 0} (one other : X → Bool) → ((x : X) → one x ≡ other x) → (xs : List X) → list_any one xs ≡ list_any other xs
any-same one other same [] = refl
any-same one other same (x ∷ xs) = ap₂ (λ (a b : Bool). a || b) (same x) (any-same one other same xs)

-- ---- which ranks stand

set_key-has : (n : ℕ) (key : Key) (keys : List Key) → list_any (of_rank n) (set_key rank key keys) ≡ (of_rank n key || list_any (of_rank n) keys)
unfolding set_key
set_key-has n key [] = refl
set_key-has n key (first ∷ keys) = cases (nat_lt (rank first) (rank key)) (nat_eq (rank first) (rank key)) refl (set_key-has n key keys)
  where
    turn : (a b c : Bool) → (a || (b || c)) ≡ (b || (a || c))
    turn true true c = refl
    turn true false c = refl
    turn false true c = refl
    turn false false c = refl

    twice : (a b c : Bool) → a ≡ b → (b || c) ≡ (b || (a || c))
    twice a true c e = refl
    twice true false c e = absurd cc
    twice false false c e = refl

    cases : (low equal : Bool) → nat_eq (rank first) (rank key) ≡ equal → list_any (of_rank n) (set_key rank key keys) ≡ (of_rank n key || list_any (of_rank n) keys)
        → list_any (of_rank n) (cond low (first ∷ set_key rank key keys) (cond equal (key ∷ keys) (key ∷ first ∷ keys))) ≡ (of_rank n key || (of_rank n first || list_any (of_rank n) keys))
    cases true equal e more = ap (λ (b : Bool). of_rank n first || b) more ∙ turn (of_rank n first) (of_rank n key) (list_any (of_rank n) keys)
    cases false true e more = twice (of_rank n first) (of_rank n key) (list_any (of_rank n) keys) (ap (λ (m : ℕ). nat_eq m n) (eqb-true (rank first) (rank key) e))
    cases false false e more = refl

pub keys_with-has : (n : ℕ) (set old : List Key) → list_any (of_rank n) (keys_with set old) ≡ (list_any (of_rank n) set || list_any (of_rank n) old)
unfolding keys_with
keys_with-has n [] old = refl
keys_with-has n (key ∷ set) old =
    keys_with-has n set (set_key rank key old)
    ∙ ap (λ (b : Bool). list_any (of_rank n) set || b) (set_key-has n key old)
    ∙ turn (list_any (of_rank n) set) (of_rank n key) (list_any (of_rank n) old)
  where
    turn : (a b c : Bool) → (a || (b || c)) ≡ ((b || a) || c)
    turn true true c = refl
    turn true false c = refl
    turn false true c = refl
    turn false false c = refl

pub or-none : (b : Bool) → (b || false) ≡ b
or-none true = refl
or-none false = refl

-- of keys that are set where none stood
pub made-has : (n : ℕ) (set : List Key) → list_any (of_rank n) (keys_with set []) ≡ list_any (of_rank n) set
made-has n set = keys_with-has n set [] ∙ or-none (list_any (of_rank n) set)

-- ---- a key that is set again

before : (i j : ℕ) → nat_eq (suc j) (suc i) ≡ false → nat_eq j i ≡ false
before i j e = grind (arith, nat_tests, e)

set-turn : (places : KeyPlaces) (i j : ℕ) (a b : Option Key) → nat_eq j i ≡ false → set (set places i a) j b ≡ set (set places j b) i a
set-turn [] i j a b e = refl
set-turn (first ∷ places) zero zero a b e = absurd cc
set-turn (first ∷ places) zero (suc j) a b e = refl
set-turn (first ∷ places) (suc i) zero a b e = refl
set-turn (first ∷ places) (suc i) (suc j) a b e = ap (λ r. first ∷ r) (set-turn places i j a b (before i j e))

again : (n : ℕ) (old : Option Key) (keys : List Key) (places : KeyPlaces) → list_any (of_rank n) keys ≡ true → placed keys (set places n old) ≡ placed keys places
unfolding placed
again n old [] places has = absurd cc
again n old (key ∷ keys) places has = cases (of_rank n key) refl has (again n old keys (set places (rank key) (Some key)))
  where
    cases : (b : Bool) → of_rank n key ≡ b → (b || list_any (of_rank n) keys) ≡ true → (list_any (of_rank n) keys ≡ true → placed keys (set (set places (rank key) (Some key)) n old) ≡ placed keys (set places (rank key) (Some key)))
        → placed keys (set (set places n old) (rank key) (Some key)) ≡ placed keys (set places (rank key) (Some key))
    cases true is has more =
        ap (λ (m : ℕ). placed keys (set (set places m old) (rank key) (Some key))) (sym (eqb-true (rank key) n is))
        ∙ ap (placed keys) (set-set places (rank key) old (Some key))
    cases false is has more = ap (placed keys) (set-turn places n (rank key) old (Some key) is) ∙ more has

-- where a key of its rank is set, a first key doesn't matter
over-first : (n : ℕ) (first : Key) (keys : List Key) → list_any (of_rank n) keys ≡ true → IsPlaced rank 0 (set none_placed n (Some first)) → length (set none_placed n (Some first)) ≡ 18 → IsPlaced rank 0 none_placed → stated (set none_placed n (Some first)) ≡ first ∷ [] → stated none_placed ≡ [] → keys_with keys (first ∷ []) ≡ keys_with keys []
over-first n first keys has is long none alone empty =
    ap (keys_with keys) (sym alone)
    ∙ sym (stated-placed keys (set none_placed n (Some first)) is long)
    ∙ ap stated (again n (Some first) keys none_placed has)
    ∙ stated-placed keys none_placed none refl
    ∙ ap (keys_with keys) empty

nothing-stated : stated none_placed ≡ []
unfolding stated
nothing-stated = refl

nothing-placed : IsPlaced rank 0 none_placed
unfolding IsPlaced
nothing-placed = tt

pub over-base : (b : ℕ) (keys : List Key) → list_any (of_rank 5) keys ≡ true → keys_with keys (base_address b ∷ []) ≡ keys_with keys []
unfolding IsPlaced stated rank
over-base b keys has = over-first 5 (base_address b) keys has (refl, tt) refl nothing-placed refl nothing-stated

pub over-offset : (b : ℕ) (keys : List Key) → list_any (of_rank 6) keys ≡ true → keys_with keys (at_offset b ∷ []) ≡ keys_with keys []
unfolding IsPlaced stated rank
over-offset b keys has = over-first 6 (at_offset b) keys has (refl, tt) refl nothing-placed refl nothing-stated
