-- Lists of numbers that are the same in some order.
use Rattle.std.proofs.Common.{◌≡◌, ℕ, zero, suc, ◌+◌, ◌<◌, Bool, true, false, ◌&&◌, cond, nat_eq, List, [], ◌∷◌, ◌++◌, filter, sum_by, refl, sym, ap, ap₂, ◌∙◌, subst, arith, zero-add}
use Rattle.std.specs.List.Sorted.{IsPermutation}
use Rattle.std.proofs.lemmas.Bool.{eq-eqb, lt-ltb}
use Rattle.std.proofs.lemmas.List.Sorted.{IsPermutation-refl, IsPermutation-sym, IsPermutation-trans, IsPermutation-cons, IsPermutation-middle, sum_by-IsPermutation}
use Rattle.std.proofs.lemmas.List.Sums.{sum_by-cons}
use Rattle.need_order.specs.Children.{flag_weight}
use Rattle.need_order.specs.Needs.{among}
use Rattle.need_order.proofs.Following.{Parted, parted}
use Rattle.need_order.proofs.Steps.{some_flag}

-- how often a number is there
abbrev amount : ℕ → List ℕ → ℕ
amount d xs = sum_by (λ x. flag_weight (nat_eq d x)) xs

there : (d : ℕ) (xs : List ℕ) → (amount d xs ≡ 0 → ⊥) → among d xs ≡ true
there d xs some = sym (some_flag (nat_eq d) xs) ∙ lt-ltb 0 (amount d xs) (positive (amount d xs) some)
  where
    positive : (n : ℕ) → (n ≡ 0 → ⊥) → 0 < n
    positive zero h = absurd (h refl)
    positive (suc n) h = omega arith

amount-head : (x : ℕ) (xs : List ℕ) → amount x (x ∷ xs) ≡ 1 + amount x xs
amount-head x xs = sum_by-cons (λ y. flag_weight (nat_eq x y)) x xs ∙ ap (λ b. flag_weight b + amount x xs) (eq-eqb x x refl)

-- lists in which each number is as often
by_amounts : (xs ys : List ℕ) → ((d : ℕ) → amount d xs ≡ amount d ys) → IsPermutation xs ys
by_amounts [] [] same = IsPermutation-refl []
by_amounts [] (y ∷ ys) same = absurd (omega (arith, same y, amount-head y ys))
by_amounts (x ∷ xs) ys same =
    subst (IsPermutation (x ∷ xs)) (sym r.whole)
    (IsPermutation-trans (x ∷ xs) (x ∷ (r.before ++ r.after)) (r.before ++ (x ∷ r.after))
    (IsPermutation-cons x xs (r.before ++ r.after) (by_amounts xs (r.before ++ r.after) others))
    (IsPermutation-sym (r.before ++ (x ∷ r.after)) (x ∷ (r.before ++ r.after)) (IsPermutation-middle r.before x r.after)))
  where
    r : Parted x ys
    r = parted x ys (there x ys (λ none. absurd (omega (arith, none, same x, amount-head x xs))))

    others : (d : ℕ) → amount d xs ≡ amount d (r.before ++ r.after)
    others d =
        let one = sum_by-cons (λ y. flag_weight (nat_eq d y)) x xs in
        let two = sum_by-cons (λ y. flag_weight (nat_eq d y)) x (r.before ++ r.after) in
        let three : amount d ys ≡ amount d (x ∷ (r.before ++ r.after)) = ap (amount d) r.whole ∙ sym (sum_by-IsPermutation (λ y. flag_weight (nat_eq d y)) (r.before ++ (x ∷ r.after)) (x ∷ (r.before ++ r.after)) (IsPermutation-middle r.before x r.after)) in
        let four = same d in
        omega (arith, one, two, three, four)

sum_filtered : (f : ℕ → ℕ) (p : ℕ → Bool) (xs : List ℕ) → sum_by f (filter p xs) ≡ sum_by (λ x. cond (p x) (f x) 0) xs
sum_filtered f p [] = refl
sum_filtered f p (x ∷ xs) = by (p x) (sum_filtered f p xs) ∙ sym (sum_by-cons (λ y. cond (p y) (f y) 0) x xs)
  where
    by : (b : Bool) → sum_by f (filter p xs) ≡ sum_by (λ y. cond (p y) (f y) 0) xs → sum_by f (cond b (x ∷ filter p xs) (filter p xs)) ≡ cond b (f x) 0 + sum_by (λ y. cond (p y) (f y) 0) xs
    by true e = sum_by-cons f x (filter p xs) ∙ ap (λ n. f x + n) e
    by false e = e ∙ sym (zero-add (sum_by (λ y. cond (p y) (f y) 0) xs))

-- what passes a test is the same in some order too
pub filter_shuffled : (p : ℕ → Bool) (xs ys : List ℕ) → IsPermutation xs ys → IsPermutation (filter p xs) (filter p ys)
filter_shuffled p xs ys h = by_amounts (filter p xs) (filter p ys) (λ d. sum_filtered (λ x. flag_weight (nat_eq d x)) p xs ∙ sym (sum_by-IsPermutation (λ x. cond (p x) (flag_weight (nat_eq d x)) 0) xs ys h) ∙ sym (sum_filtered (λ x. flag_weight (nat_eq d x)) p ys))

pub filter_filter : (p q : ℕ → Bool) (xs : List ℕ) → filter p (filter q xs) ≡ filter (λ x. q x && p x) xs
filter_filter p q [] = refl
filter_filter p q (x ∷ xs) = by (q x) (filter_filter p q xs)
  where
    by : (b : Bool) → filter p (filter q xs) ≡ filter (λ y. q y && p y) xs → filter p (cond b (x ∷ filter q xs) (filter q xs)) ≡ cond (b && p x) (x ∷ filter (λ y. q y && p y) xs) (filter (λ y. q y && p y) xs)
    by true e = ap (λ rest. cond (p x) (x ∷ rest) rest) e
    by false e = e

pub filter_agree : (p q : ℕ → Bool) → ((x : ℕ) → p x ≡ q x) → (xs : List ℕ) → filter p xs ≡ filter q xs
filter_agree p q same [] = refl
filter_agree p q same (x ∷ xs) = ap₂ (λ b rest. cond b (x ∷ rest) rest) (same x) (filter_agree p q same xs)

pub filter_nothing : (p : ℕ → Bool) → ((x : ℕ) → p x ≡ false) → (xs : List ℕ) → filter p xs ≡ []
filter_nothing p none [] = refl
filter_nothing p none (x ∷ xs) = ap₂ (λ b rest. cond b (x ∷ rest) rest) (none x) (filter_nothing p none xs)
