-- Shifts by 64 bits and more.
use Rattle.std.proofs.Common.{ℕ, ◌≡◌, ◌+◌, ◌-◌, ◌*◌, ◌/◌, ◌%◌, ◌^◌, ◌<◌, ◌≤◌, sym, ap, ◌∙◌, arith}
use Rattle.std.proofs.Math.Nat.{div-eq_of_lt, mul_assoc, mul-mod_left, pow-le-pow_right}
use Rattle.std.proofs.lemmas.Nat.{and_le_l, pow-add}
use Rattle.pac_base.specs.declared.width.Width.{Width}
use Rattle.pac_base.specs.declared.width.Width.TheVariants.{W8, W16, W32, W64}
use Rattle.pac_base.specs.Widths.{bits_of}
use Rattle.frag_sem.specs.PreludeWords.{shifted_up, taken}

-- a width has at most 64 bits
pub bits_few : (width : Width) → bits_of width ≤ 64
bits_few W8 = omega arith
bits_few W16 = omega arith
bits_few W32 = omega arith
bits_few W64 = omega arith

-- what is moved up by 64 bits leaves every width
pub all_lost : (width : Width) (word offset : ℕ) → 64 ≤ offset → 0 ≡ shifted_up (bits_of width) word offset
all_lost width word offset far =
    let bits = bits_of width in
    let few : bits ≤ 64 = bits_few width in
    let apart : offset - bits + bits ≡ offset = omega arith in
    sym (ap (λ (n : ℕ). word * n % 2 ^ bits) (ap (λ (n : ℕ). 2 ^ n) (sym apart) ∙ pow-add 2 (offset - bits) bits)
    ∙ (ap (λ (n : ℕ). n % 2 ^ bits) (sym (mul_assoc word (2 ^ (offset - bits)) (2 ^ bits)))
    ∙ mul-mod_left (word * 2 ^ (offset - bits)) (2 ^ bits)))

-- what is moved down by 64 bits is 0
pub none_taken : (word offset mask : ℕ) → 64 ≤ offset → word < 2 ^ 64 → 0 ≡ taken word offset mask
unfolding taken
none_taken word offset mask far small =
    let more : 2 ^ 64 ≤ 2 ^ offset = pow-le-pow_right (omega arith) far in
    let none : word / 2 ^ offset ≡ 0 = div-eq_of_lt (omega arith) in
    omega (arith, and_le_l (word / 2 ^ offset) mask)
