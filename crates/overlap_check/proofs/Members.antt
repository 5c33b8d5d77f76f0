-- Some member of an element is past the addresses where the greatest is; some member's address is uneven where the
-- first one's is, or where a step on the way to another is.
use Rattle.std.proofs.Common.{◌≡◌, ℕ, ◌+◌, ◌-◌, ◌*◌, ◌%◌, ◌^◌, ◌≤◌, zero, suc, Bool, true, false, ◌&&◌, ◌||◌, not, nat_lt, nat_eq, List, [], ◌∷◌, map, Option, None, Some, unwrap_or, refl, sym, ap, ap₂, ◌∙◌, arith, eqb-true, eq-eqb}
use Rattle.std.specs.List.{AllByRecursion, list_any, list_all, flat_map, range_with_len, sum_by, zip}
use Rattle.std.proofs.lemmas.Bool.{or_left, or_right, or_from, true≢false}
use Rattle.std.proofs.lemmas.Bool.Decides.{nat_tests}
use Rattle.std.proofs.lemmas.List.Folds.{list_any-append, list_all-map}
use Rattle.std.proofs.lemmas.List.Sums.{sum_by-cons}
use Rattle.std.proofs.Math.Bool.{or-false, and-true, and-false}
use Rattle.std.proofs.Math.Nat.{add-mod, mod-mod, zero-mod, mul-le-mul_right, zero-mul}
use Rattle.svd_model.specs.Checking.{is_past}
use Rattle.svd_model.specs.Keys.{Key}
use Rattle.svd_model.specs.Stating.{value_of, stated_dim, stated_increment, stated_base, stated_offset, indexes_of, choices, members_of, start_of, address_of}

-- ---- lists of tests

pub any-agree : {X : Type 0} (p q : X → Bool) → ((x : X) → p x ≡ q x) → (xs : List X) → list_any p xs ≡ list_any q xs
any-agree p q same [] = refl
any-agree p q same (x ∷ xs) = ap₂ (λ a b. a || b) (same x) (any-agree p q same xs)

any-map : {X Y : Type 0} (p : Y → Bool) (f : X → Y) (xs : List X) → list_any p (map f xs) ≡ list_any (λ x. p (f x)) xs
any-map p f [] = refl
any-map p f (x ∷ xs) = ap (λ b. p (f x) || b) (any-map p f xs)

any-flat_map : {X Y : Type 0} (p : Y → Bool) (f : X → List Y) (xs : List X) → list_any p (flat_map f xs) ≡ list_any (λ x. list_any p (f x)) xs
any-flat_map p f [] = refl
any-flat_map p f (x ∷ xs) = list_any-append p (f x) (flat_map f xs) ∙ ap (λ b. list_any p (f x) || b) (any-flat_map p f xs)

-- of a test that stays true above, the last of some numbers decides
any-up : (p : ℕ → Bool) → ((i j : ℕ) → i ≤ j → p i ≡ true → p j ≡ true) → (a n : ℕ) → list_any p (range_with_len a (suc n)) ≡ p (a + n)
any-up p up a zero = or-false (p a) ∙ ap p (omega arith)
any-up p up a (suc n) =
    ap (λ b. p a || b) (any-up p up (a + 1) n) ∙ by (p a) refl ∙ ap p here
  where
    here : a + 1 + n ≡ a + suc n
    here = omega arith

    by : (b : Bool) → p a ≡ b → (b || p (a + 1 + n)) ≡ p (a + 1 + n)
    by true e = sym (up a (a + 1 + n) (omega arith) e)
    by false e = refl

-- of one that stays true below, it does for all
all-down : (q : ℕ → Bool) → ((i j : ℕ) → i ≤ j → q j ≡ true → q i ≡ true) → (a n : ℕ) → list_all q (range_with_len a (suc n)) ≡ q (a + n)
all-down q down a zero = and-true (q a) ∙ ap q (omega arith)
all-down q down a (suc n) =
    ap (λ b. q a && b) (all-down q down (a + 1) n) ∙ by (q (a + 1 + n)) refl ∙ ap q here
  where
    here : a + 1 + n ≡ a + suc n
    here = omega arith

    by : (b : Bool) → q (a + 1 + n) ≡ b → (q a && q (a + 1 + n)) ≡ q (a + 1 + n)
    by true e = ap (λ b. b && q (a + 1 + n)) (down a (a + 1 + n) (omega arith) e)
    by false e = ap (λ b. q a && b) e ∙ and-false (q a) ∙ sym e

-- the index of a member, counted from 0
abbrev number : Option ℕ → ℕ
number index = unwrap_or index 0

indexes-up : (p : ℕ → Bool) → ((i j : ℕ) → i ≤ j → p i ≡ true → p j ≡ true) → (dim : Option ℕ) → 1 ≤ unwrap_or dim 1 → list_any (λ x. p (number x)) (indexes_of dim) ≡ p (unwrap_or dim 1 - 1)
indexes-up p up None some = or-false (p 0)
indexes-up p up (Some zero) some = absurd (omega arith)
indexes-up p up (Some (suc n)) some =
    any-map (λ x. p (number x)) (λ i. Some i) (range_with_len 0 (suc n)) ∙ any-up p up 0 n ∙ ap p (omega arith)

pub indexes-down : (q : ℕ → Bool) → ((i j : ℕ) → i ≤ j → q j ≡ true → q i ≡ true) → (dim : Option ℕ) → 1 ≤ unwrap_or dim 1 → list_all (λ x. q (number x)) (indexes_of dim) ≡ q (unwrap_or dim 1 - 1)
indexes-down q down None some = and-true (q 0)
indexes-down q down (Some zero) some = absurd (omega arith)
indexes-down q down (Some (suc n)) some =
    list_all-map (λ x. q (number x)) (λ i. Some i) (range_with_len 0 (suc n)) ∙ all-down q down 0 n ∙ ap q (omega arith)

-- ---- multiples

module _ (b : ℕ) where
  abbrev even : ℕ → Bool
  even n = nat_eq (n % b) 0

  even-sum : (c n : ℕ) → c % b ≡ 0 → (c + n) % b ≡ n % b
  even-sum c n e = add-mod c n b ∙ ap (λ r. (r + n % b) % b) e ∙ ap (λ r. r % b) (omega arith) ∙ mod-mod n b

  even-times : (i s : ℕ) → s % b ≡ 0 → (i * s) % b ≡ 0
  even-times zero s e = ap (λ r. r % b) (zero-mul s) ∙ zero-mod b
  even-times (suc i) s e = ap (λ r. r % b) again ∙ even-sum s (i * s) e ∙ even-times i s e
    where
      again : suc i * s ≡ s + i * s
      again = omega arith

  -- no index gives an odd one
  none-odd : (c s : ℕ) → c % b ≡ 0 → s % b ≡ 0 → (a n : ℕ) → list_any (λ i. not (even (c + i * s) && true)) (range_with_len a n) ≡ false
  none-odd c s hc hs a zero = refl
  none-odd c s hc hs a (suc n) =
      or_from (not (even (c + a * s) && true)) _
      (ap (λ t. not (t && true)) (eq-eqb ((c + a * s) % b) 0 (even-sum c (a * s) hc ∙ even-times a s hs)))
      (none-odd c s hc hs (a + 1) n)

  -- what is left fails at each index
  all-odd : (f : ℕ → Bool) (a n : ℕ) → list_any (λ i. not (f i && false)) (range_with_len a (suc n)) ≡ true
  all-odd f a n = or_left (not (f a && false)) _ (never (f a))
    where
      never : (t : Bool) → not (t && false) ≡ true
      never true = refl
      never false = refl

  -- every step to another member is even, where there is another
  abbrev even-dim : Option ℕ → ℕ → Bool
  even-dim dim s = nat_eq (unwrap_or dim 1 - 1) 0 || even s

  odd : (n : ℕ) → (n % b ≡ 0 → ⊥) → not (even n && true) ≡ true
  odd n unlike = grind (arith, nat_tests)

  numbers-uneven : (c s n : ℕ) (rest : Bool) → list_any (λ i. not (even (c + i * s) && rest)) (range_with_len 0 (suc n)) ≡ not (even c && ((nat_eq (suc n - 1) 0 || even s) && rest))
  numbers-uneven c s n false = all-odd (λ i. even (c + i * s)) 0 n ∙ sym (never (even c) (nat_eq (suc n - 1) 0 || even s))
    where
      never : (x y : Bool) → not (x && (y && false)) ≡ true
      never true true = refl
      never true false = refl
      never false y = refl
  numbers-uneven c s n true = by (even c) refl (even s) refl n
    where
      first : (m : ℕ) → (c % b ≡ 0 → ⊥) → list_any (λ i. not (even (c + i * s) && true)) (range_with_len 0 (suc m)) ≡ true
      first m unlike = or_left (not (even (c + 0 * s) && true)) _ (ap (λ x. not (even x && true)) (omega arith) ∙ odd c unlike)

      second : (m : ℕ) → c % b ≡ 0 → (s % b ≡ 0 → ⊥) → list_any (λ i. not (even (c + i * s) && true)) (range_with_len 0 (suc (suc m))) ≡ true
      second m hc unlike =
          or_right (not (even (c + 0 * s) && true)) _
          (or_left (not (even (c + (0 + 1) * s) && true)) _ (odd (c + (0 + 1) * s) (λ e. unlike (sym (even-sum c s hc) ∙ ap (λ x. x % b) one ∙ e))))
        where
          one : c + s ≡ c + (0 + 1) * s
          one = omega arith

      by : (x : Bool) → even c ≡ x → (y : Bool) → even s ≡ y → (m : ℕ) → list_any (λ i. not (even (c + i * s) && true)) (range_with_len 0 (suc m)) ≡ not (x && ((nat_eq (suc m - 1) 0 || y) && true))
      by false ec y es m = first m (λ e. true≢false (sym (eq-eqb (c % b) 0 e) ∙ ec))
      by true ec true es m = none-odd c s (eqb-true (c % b) 0 ec) (eqb-true (s % b) 0 es) 0 (suc m) ∙ sym (always (nat_eq (suc m - 1) 0))
        where
          always : (t : Bool) → not ((t || true) && true) ≡ false
          always true = refl
          always false = refl
      by true ec false es zero = or-false _ ∙ ap (λ x. not (even x && true)) (omega arith) ∙ ap (λ t. not (t && true)) ec
      by true ec false es (suc m) = second m (eqb-true (c % b) 0 ec) (λ e. true≢false (sym (eq-eqb (s % b) 0 e) ∙ es)) ∙ sym (ap (λ t. not ((t || false) && true)) apart)
        where
          apart : nat_eq (suc (suc m) - 1) 0 ≡ false
          apart = grind (arith, nat_tests)

  indexes-uneven : (c s : ℕ) (rest : Bool) (dim : Option ℕ) → 1 ≤ unwrap_or dim 1 → list_any (λ x. not (even (c + number x * s) && rest)) (indexes_of dim) ≡ not (even c && (even-dim dim s && rest))
  indexes-uneven c s rest None some = or-false _ ∙ ap (λ n. not (even n && rest)) (omega arith)
  indexes-uneven c s rest (Some zero) some = absurd (omega arith)
  indexes-uneven c s rest (Some (suc n)) some =
      any-map (λ x. not (even (c + number x * s) && rest)) (λ i. Some i) (range_with_len 0 (suc n)) ∙ numbers-uneven c s n rest

-- ---- an element and those round it

-- how far an element's first member starts behind what is round it
abbrev pub base_start : List Key → ℕ
base_start keys = unwrap_or (value_of stated_base keys) 0 + unwrap_or (value_of stated_offset keys) 0

abbrev pub step_at : List Key → ℕ
step_at keys = unwrap_or (value_of stated_increment keys) 0

-- how many members stand behind the first
abbrev pub others_at : List Key → ℕ
others_at keys = unwrap_or (value_of stated_dim keys) 1 - 1

abbrev pub IsSome : List Key → Type 0
IsSome keys = 1 ≤ unwrap_or (value_of stated_dim keys) 1

-- the address of the first member, and of the greatest
unfoldable pub firsts : List (List Key) → ℕ
firsts [] = 0
firsts (keys ∷ down) = base_start keys + firsts down

unfoldable pub greatest : List (List Key) → ℕ
greatest [] = 0
greatest (keys ∷ down) = base_start keys + others_at keys * step_at keys + greatest down

abbrev pub is_step_even : ℕ → List Key → Bool
is_step_even b keys = nat_eq (others_at keys) 0 || nat_eq (step_at keys % b) 0

any-cons : (test : ℕ → Bool) (keys : List Key) (down : List (List Key)) (a : ℕ) → list_any (λ member. test (a + address_of (keys ∷ down) member)) (members_of (keys ∷ down)) ≡ list_any (λ x. list_any (λ member. test (a + start_of keys x + address_of down member)) (members_of down)) (indexes_of (value_of stated_dim keys))
unfolding members_of choices address_of
any-cons test keys down a =
    any-flat_map (λ member. test (a + sum_by start (zip (keys ∷ down) member))) (λ x. map (λ chosen. x ∷ chosen) (members_of down)) (indexes_of (value_of stated_dim keys))
    ∙ any-agree _ _ (λ x.
    any-map (λ member. test (a + sum_by start (zip (keys ∷ down) member))) (λ chosen. x ∷ chosen) (members_of down)
    ∙ any-agree _ _ (λ member. ap test (ap (λ n. a + n) (sum_by-cons start (keys, x) (zip down member)) ∙ sums a (start_of keys x) (sum_by start (zip down member)))) (members_of down)) (indexes_of (value_of stated_dim keys))
  where
    start : List Key × Option ℕ → ℕ
    start level = start_of level.0 level.1

    sums : (x y z : ℕ) → x + (y + z) ≡ x + y + z
    sums x y z = omega arith

-- some member is past the addresses where the greatest is
pub past-members : (room : ℕ) (down : List (List Key)) → AllByRecursion IsSome down → (a : ℕ) → list_any (λ member. is_past room (a + address_of down member)) (members_of down) ≡ is_past room (a + greatest down)
unfolding greatest members_of choices address_of
past-members room [] some a = or-false _
past-members room (keys ∷ down) some a =
    any-cons (is_past room) keys down a
    ∙ any-agree _ _ (λ x. past-members room down some.1 (a + start_of keys x)) (indexes_of (value_of stated_dim keys))
    ∙ indexes-up (λ i. is_past room (a + (base_start keys + i * step_at keys) + greatest down)) up (value_of stated_dim keys) some.0
    ∙ ap (is_past room) (sums a (base_start keys + others_at keys * step_at keys) (greatest down))
  where
    sums : (x y z : ℕ) → x + y + z ≡ x + (y + z)
    sums x y z = omega arith

    up : (i j : ℕ) → i ≤ j → is_past room (a + (base_start keys + i * step_at keys) + greatest down) ≡ true → is_past room (a + (base_start keys + j * step_at keys) + greatest down) ≡ true
    up i j le e = past (2 ^ 64) a (base_start keys) (i * step_at keys) (j * step_at keys) (greatest down) (mul-le-mul_right (step_at keys) le) e
      where
        past : (limit p q x y r : ℕ) → x ≤ y → nat_lt limit (p + (q + x) + r + room) ≡ true → nat_lt limit (p + (q + y) + r + room) ≡ true
        past limit p q x y r less h = grind (arith, nat_tests)

-- some member is uneven where the first is, or a step to another
pub uneven-members : (b : ℕ) (down : List (List Key)) → AllByRecursion IsSome down → (a : ℕ) → list_any (λ member. not (nat_eq ((a + address_of down member) % b) 0)) (members_of down) ≡ not (nat_eq ((a + firsts down) % b) 0 && list_all (is_step_even b) down)
unfolding firsts members_of choices address_of
uneven-members b [] some a = or-false _ ∙ ap not (sym (always (nat_eq ((a + 0) % b) 0)))
  where
    always : (t : Bool) → (t && true) ≡ t
    always true = refl
    always false = refl
uneven-members b (keys ∷ down) some a =
    any-cons (λ n. not (nat_eq (n % b) 0)) keys down a
    ∙ any-agree _ _ (λ x. uneven-members b down some.1 (a + start_of keys x) ∙ ap (λ n. not (nat_eq (n % b) 0 && list_all (is_step_even b) down)) (apart a (base_start keys) (number x * step_at keys) (firsts down))) (indexes_of (value_of stated_dim keys))
    ∙ indexes-uneven b (a + base_start keys + firsts down) (step_at keys) (list_all (is_step_even b) down) (value_of stated_dim keys) some.0
    ∙ ap (λ n. not (nat_eq (n % b) 0 && (is_step_even b keys && list_all (is_step_even b) down))) (sums a (base_start keys) (firsts down))
  where
    apart : (p q x r : ℕ) → p + (q + x) + r ≡ p + q + r + x
    apart p q x r = omega arith

    sums : (x y z : ℕ) → x + y + z ≡ x + (y + z)
    sums x y z = omega arith
