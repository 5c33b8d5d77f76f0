-- The bits of the number from which a write starts.
use Rattle.std.proofs.Common.{ℕ, zero, suc, ◌≡◌, ◌+◌, ◌-◌, ◌*◌, ◌^◌, ◌<◌, ◌≤◌, Bool, true, false, ◌==◌, cond, refl, sym, ap, ◌∙◌, arith}
use Rattle.std.specs.Prelude.{nat_lt}
use Rattle.std.specs.Int.{bit_at}
use Rattle.std.proofs.Math.Nat.{pow-suc}
use Rattle.std.proofs.lemmas.Bool.{ltb-true}
use Rattle.std.proofs.lemmas.Bool.Decides.{nat_tests}
use Rattle.std.proofs.lemmas.Nat.Bits.{bit_at-lt, bit_at_cat_high, bit_at_cat_low, same_from_bits_below}
use Rattle.bits_word.specs.Start.{IsStart, start_bit}
use Rattle.reg_table.specs.Masks.{number_of_bits}
use Rattle.table_sem.specs.Laws.{StartIsOne, StartIsStart, StartStays}
use Rattle.table_sem.specs.StartNumber.{start_number}

-- a number of so many bits is below the power
pub number_small : (p : ℕ → Bool) (n : ℕ) → number_of_bits p n < 2 ^ n
unfolding number_of_bits
number_small p zero = omega arith
number_small p (suc n) = by (p n) (number_small p n)
  where
    by : (b : Bool) → number_of_bits p n < 2 ^ n → cond b (2 ^ n) 0 + number_of_bits p n < 2 ^ suc n
    by true h = omega (arith, pow-suc 2 n)
    by false h = omega (arith, pow-suc 2 n)

-- a truth as a bit
abbrev bit : Bool → ℕ
bit b = cond b 1 0

scaled : (b : Bool) (n r : ℕ) → cond b (2 ^ n) 0 + r ≡ bit b * 2 ^ n + r
scaled true n r = omega arith
scaled false n r = omega arith

bit_small : (b : Bool) → bit_at (bit b) 0 ≡ bit b
bit_small true = refl
bit_small false = refl

-- its bits are those of the test
bit_of_number : (p : ℕ → Bool) (n i : ℕ) → i < n → bit_at (number_of_bits p n) i ≡ bit (p i)
unfolding number_of_bits
bit_of_number p zero i h = absurd (omega (arith, h))
bit_of_number p (suc n) i h = ap (λ (x : ℕ). bit_at x i) (scaled (p n) n (number_of_bits p n)) ∙ by (nat_lt i n) refl (bit_of_number p n i)
  where
    last : i ≡ n → bit_at (bit (p n) * 2 ^ n + number_of_bits p n) i ≡ bit (p i)
    last is =
        let zero_behind : i - n ≡ 0 = omega arith in
        let same : n ≤ i = omega arith in
        bit_at_cat_high (bit (p n)) n (number_of_bits p n) i (number_small p n) same
        ∙ (ap (bit_at (bit (p n))) zero_behind
        ∙ (bit_small (p n) ∙ ap (λ (k : ℕ). bit (p k)) (sym is)))

    by : (b : Bool) → nat_lt i n ≡ b → (i < n → bit_at (number_of_bits p n) i ≡ bit (p i)) → bit_at (bit (p n) * 2 ^ n + number_of_bits p n) i ≡ bit (p i)
    by true e lower =
        let below = ltb-true i n e in
        bit_at_cat_low (bit (p n)) n (number_of_bits p n) i below ∙ lower below
    by false e lower =
        let is : i ≡ n = grind (arith, nat_tests, e, h) in
        last is

-- what the rule says of a bit is a bit
bit_again : (x : ℕ) → x < 2 → bit (x == 1) ≡ x
bit_again zero h = refl
bit_again (suc zero) h = refl
bit_again (suc (suc x)) h = absurd (omega (arith, h))

start_bit_small : (raised one base : ℕ) → base < 2 → start_bit raised one base < 2
start_bit_small raised one base h = by (raised == 1) (one == 1)
  where
    by : (b c : Bool) → cond b 1 (cond c 0 base) < 2
    by true c = omega arith
    by false true = omega arith
    by false false = h

pub start_is_start : StartIsStart
unfolding IsStart start_number
start_is_start bits base one raised i h =
    bit_of_number (λ k. start_bit (bit_at raised k) (bit_at one k) (bit_at base k) == 1) bits i h
    ∙ bit_again (start_bit (bit_at raised i) (bit_at one i) (bit_at base i)) (start_bit_small (bit_at raised i) (bit_at one i) (bit_at base i) (bit_at-lt base i))

pub start_stays : StartStays
unfolding start_number
start_stays bits base one raised = number_small (λ k. start_bit (bit_at raised k) (bit_at one k) (bit_at base k) == 1) bits

pub start_is_one : StartIsOne
unfolding IsStart
start_is_one bits base one raised word small is =
    same_from_bits_below bits word (start_number bits base one raised) small (start_stays bits base one raised) (λ i h. is i h ∙ sym (start_is_start bits base one raised i h))
