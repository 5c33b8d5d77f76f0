-- Of a list nothing is at fault just where each item passes.
use Rattle.std.proofs.Common.{◌≡◌, ℕ, ◌+◌, Bool, true, false, not, ◌&&◌, List, [], ◌∷◌, Option, Some, None, is_none, length, refl, sym, ap, ◌∙◌, nat_lt, cond, arith}
use Rattle.std.proofs.lemmas.Bool.Decides.{nat_tests}
use Rattle.std.specs.List.{list_all, position_or_len}
use Rattle.frag_rules.specs.Bodies.{misfit}

is_place : (b : Bool) (n : ℕ) → is_none (cond b (Some n) None) ≡ not b
is_place true n = refl
is_place false n = refl

less-suc : {A : Type 0} (n : ℕ) (x : A) (xs : List A) → nat_lt (1 + n) (length (x ∷ xs)) ≡ nat_lt n (length xs)
less-suc n x xs = grind (arith, nat_tests)

none-less : {A : Type 0} (x : A) (xs : List A) → nat_lt 0 (length (x ∷ xs)) ≡ true
none-less x xs = grind (arith, nat_tests)

pub none-misfits : {A : Type 0} (test other : A → Bool) → ((x : A) → test x ≡ other x) → (xs : List A) → is_none (misfit test xs) ≡ list_all other xs
none-misfits {A} test other same xs = is_place (nat_lt (position_or_len (λ x. not (test x)) xs) (length xs)) (position_or_len (λ x. not (test x)) xs) ∙ all xs
  where
    by : (x : A) (xs : List A) (b : Bool) → test x ≡ b → not (nat_lt (position_or_len (λ x. not (test x)) xs) (length xs)) ≡ list_all other xs → not (nat_lt (position_or_len (λ x. not (test x)) (x ∷ xs)) (length (x ∷ xs))) ≡ (b && list_all other xs)
    by x xs true is more = rw is (ap not (less-suc (position_or_len (λ x. not (test x)) xs) x xs) ∙ more)
    by x xs false is more = rw is (ap not (none-less x xs))

    all : (xs : List A) → not (nat_lt (position_or_len (λ x. not (test x)) xs) (length xs)) ≡ list_all other xs
    all [] = refl
    all (x ∷ xs) = by x xs (test x) refl (all xs) ∙ ap (λ b. b && list_all other xs) (same x)

-- the place of an item is none just where all pass
pub no-misfit : {A : Type 0} (test other : A → Bool) (xs ys : List A) (found item : Option ℕ) → ((x : A) → test x ≡ other x) → xs ≡ ys → found ≡ misfit test xs → is_none item ≡ is_none found → is_none item ≡ list_all other ys
no-misfit test other xs ys found item same is at so = so ∙ (ap is_none at ∙ (none-misfits test other same xs ∙ ap (list_all other) is))

-- ---- the first of all that is found

pub found-more : {A : Type 0} (test : A → Bool) (all others : List A) (first : A) (found found' at item : Option ℕ) → all ≡ first ∷ others
    → is_none found' ≡ (is_none found && is_none at) → is_none at ≡ is_none item → is_none item ≡ test first
    → (is_none found' && list_all test others) ≡ (is_none found && list_all test all)
found-more test all others first found found' at item is more so tells =
    ap (λ b. b && list_all test others) (more ∙ ap (λ b. is_none found && b) (so ∙ tells))
    ∙ (by (is_none found) (test first) (list_all test others) ∙ ap (λ xs. is_none found && list_all test xs) (sym is))
  where
    by : (a b c : Bool) → ((a && b) && c) ≡ (a && (b && c))
    by true b c = refl
    by false b c = refl

pub found-done : {A : Type 0} (test : A → Bool) (all : List A) (found : Option ℕ) → all ≡ [] → is_none found ≡ (is_none found && list_all test all)
found-done test all found is = rw is (by (is_none found))
  where
    by : (b : Bool) → b ≡ (b && true)
    by true = refl
    by false = refl
