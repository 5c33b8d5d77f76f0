-- Numbers of bytes that are cut at 2^64 + 1: sums, products and roundings of cut numbers, cut again, are those of the numbers.
use Rattle.std.proofs.Common.{◌≡◌, ℕ, ◌+◌, ◌-◌, ◌*◌, ◌%◌, ◌^◌, ◌≤◌, ◌<◌, ◌⊎◌, inl, inr, nat_le, Some, None, option_map, refl, sym, ap, ◌∙◌, arith}
use Rattle.std.specs.Int.{next_multiple_of}
use Rattle.std.proofs.lemmas.Bool.{cases_lt, le-leb, lt-leb}
use Rattle.std.proofs.Math.Nat.{mul-le-mul_right}
use Rattle.frag_sem.specs.AddressEnds.{End, cut, end_fits}

pub cut-sum : (n m : ℕ) → cut (cut n + cut m) ≡ cut (n + m)
cut-sum n m = omega arith

pub cut-twice : (n : ℕ) → cut (cut n) ≡ cut n
cut-twice n = omega arith

pub cut-behind : (n m : ℕ) → cut (n + cut m) ≡ cut (n + m)
cut-behind n m = omega arith

pub cut-before : (n m : ℕ) → cut (cut n + m) ≡ cut (n + m)
cut-before n m = omega arith

rest-cut : (n r s : ℕ) → 2 ^ 64 < n → cut (cut n + r) ≡ cut (n + s)
rest-cut n r s above = omega arith

pub cut-round : (n align : ℕ) → cut (next_multiple_of (cut n) align) ≡ cut (next_multiple_of n align)
cut-round n align = by (cases_lt (2 ^ 64) n)
  where
    by : (2 ^ 64 < n) ⊎ (n ≤ 2 ^ 64) → cut (next_multiple_of (cut n) align) ≡ cut (next_multiple_of n align)
    by (inl above) = rest-cut n ((align - cut n % align) % align) ((align - n % align) % align) above
    by (inr below) = let same : cut n ≡ n = omega arith in ap (λ x. cut (next_multiple_of x align)) same

above-cut : (n m : ℕ) → 2 ^ 64 < n → 2 ^ 64 < m → cut n ≡ cut m
above-cut n m a b = omega arith

grown : (count m : ℕ) → 0 < count → 2 ^ 64 < m → 2 ^ 64 < count * m
grown count m some big =
    let more : 1 * m ≤ count * m = mul-le-mul_right m (omega (arith, some)) in
    omega (arith, more, big)

pub cut-times : (count n : ℕ) → cut (count * cut n) ≡ cut (count * n)
cut-times count n = by (cases_lt (2 ^ 64) n) (cases_lt 0 count)
  where
    by : (2 ^ 64 < n) ⊎ (n ≤ 2 ^ 64) → (0 < count) ⊎ (count ≤ 0) → cut (count * cut n) ≡ cut (count * n)
    by (inr below) some = let same : cut n ≡ n = omega arith in ap (λ x. cut (count * x)) same
    by (inl above) (inr none) = let is : count ≡ 0 = omega arith in let nothing : 0 * cut n ≡ 0 * n = omega arith in rw is (ap cut nothing)
    by (inl above) (inl some) = above-cut (count * cut n) (count * n) (grown count (cut n) some (omega arith)) (grown count n some above)

-- a cut size is in range where the size is
pub cut-size : (n : ℕ) → nat_le (cut n) (2 ^ 64) ≡ nat_le n (2 ^ 64)
cut-size n = by (cases_lt (2 ^ 64) n)
  where
    by : (2 ^ 64 < n) ⊎ (n ≤ 2 ^ 64) → nat_le (cut n) (2 ^ 64) ≡ nat_le n (2 ^ 64)
    by (inl above) = let also : 2 ^ 64 < cut n = omega arith in lt-leb (cut n) (2 ^ 64) also ∙ sym (lt-leb n (2 ^ 64) above)
    by (inr below) = let also : cut n ≤ 2 ^ 64 = omega arith in le-leb (cut n) (2 ^ 64) also ∙ sym (le-leb n (2 ^ 64) below)

-- a cut end is in range where the end is
pub cut-fits : (start : ℕ) (end : End) → end_fits start (option_map cut end) ≡ end_fits start end
cut-fits start None = refl
cut-fits start (Some n) = by (cases_lt (2 ^ 64) (start + n))
  where
    by : (2 ^ 64 < start + n) ⊎ (start + n ≤ 2 ^ 64) → nat_le (start + cut n) (2 ^ 64) ≡ nat_le (start + n) (2 ^ 64)
    by (inl above) = let also : 2 ^ 64 < start + cut n = omega arith in lt-leb (start + cut n) (2 ^ 64) also ∙ sym (lt-leb (start + n) (2 ^ 64) above)
    by (inr below) = let also : start + cut n ≤ 2 ^ 64 = omega arith in le-leb (start + cut n) (2 ^ 64) also ∙ sym (le-leb (start + n) (2 ^ 64) below)
