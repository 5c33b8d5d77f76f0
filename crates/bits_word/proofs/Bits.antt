-- Shifts and masks are division and remainder.
use Rattle.std.proofs.Common.{◌≡◌, ℕ, ◌+◌, ◌-◌, ◌*◌, ◌/◌, ◌%◌, ◌^◌, ◌<◌, ◌≤◌, min, max, sym, ap, subst, ◌∙◌, arith}
use Rattle.std.specs.Prelude.{bit_and, bit_or}
use Rattle.std.specs.Int.{Width, bit_at}
use mir.Val.{bits}
use Rattle.std.proofs.Math.Nat.{add-mul, one-le-pow, mod-lt, mod-eq_of_lt, mul-le-mul_right, pow-le-pow_right}
use Rattle.std.proofs.lemmas.Nat.{and_le_l, and_le_r, and_comm, or_lt, and_mask, or_disjoint, and_assoc, and-not, pow-add, shl-shr}
use Rattle.std.proofs.lemmas.Nat.Bits.{and_high, ones_shr, bit_at_and, bit_at_or, bit_at_not, bit_at-lt}
use Rattle.std.proofs.lemmas.Bool.Decides.{nat_tests}
use Rattle.bits_word.specs.Places.{get, put, mask}
use Rattle.bits_word.specs.Start.{start_bit, IsStart}

pow_pos : (n : ℕ) → 0 < 2 ^ n
pow_pos n = omega (arith, one-le-pow n 2 (omega arith))

pub ones-shift : (width : ℕ) → 1 ≤ width → width ≤ 64 → (2 ^ 64 - 1) / 2 ^ (64 - width) ≡ 2 ^ width - 1
ones-shift width some within = ones_shr 64 (64 - width) (omega arith) ∙ ap (λ (n : ℕ). 2 ^ n - 1) {x = 64 - (64 - width)} {y = width} (omega arith)

-- a number of so many bits, moved up
pub scaled_below : (x width offset bits : ℕ) → x < 2 ^ width → offset + width ≤ bits → x * 2 ^ offset < 2 ^ bits
scaled_below x width offset bits h within =
    let pos : 0 < 2 ^ offset = pow_pos offset in
    let next : (x + 1) * 2 ^ offset ≤ 2 ^ width * 2 ^ offset = mul-le-mul_right (2 ^ offset) (omega arith) in
    let parted : (x + 1) * 2 ^ offset ≡ x * 2 ^ offset + 1 * 2 ^ offset = add-mul x 1 (2 ^ offset) in
    let joined : 2 ^ (width + offset) ≡ 2 ^ width * 2 ^ offset = pow-add 2 width offset in
    let more : 2 ^ (width + offset) ≤ 2 ^ bits = pow-le-pow_right (omega arith) (omega arith) in
    omega arith

pub mask_below : (offset width bits : ℕ) → offset + width ≤ bits → mask offset width < 2 ^ bits
unfolding mask
mask_below offset width bits within =
    let pos : 0 < 2 ^ width = pow_pos width in
    scaled_below (2 ^ width - 1) width offset bits (omega arith) within

pub mask-shift : (offset width bits : ℕ) → offset + width ≤ bits → (2 ^ width - 1) * 2 ^ offset % 2 ^ bits ≡ mask offset width
unfolding mask
mask-shift offset width bits within = mod-eq_of_lt (mask_below offset width bits within)

mask-high : (offset width : ℕ) → mask offset width ≡ 2 ^ (width + offset) - 2 ^ offset
unfolding mask
mask-high offset width =
    let pos : 0 < 2 ^ width = pow_pos width in
    let whole : 2 ^ width - 1 + 1 ≡ 2 ^ width = omega arith in
    let parted : (2 ^ width - 1 + 1) * 2 ^ offset ≡ (2 ^ width - 1) * 2 ^ offset + 1 * 2 ^ offset = add-mul (2 ^ width - 1) 1 (2 ^ offset) in
    let same : (2 ^ width - 1 + 1) * 2 ^ offset ≡ 2 ^ width * 2 ^ offset = ap (λ (n : ℕ). n * 2 ^ offset) whole in
    let joined : 2 ^ (width + offset) ≡ 2 ^ width * 2 ^ offset = pow-add 2 width offset in
    let there : (2 ^ width - 1) * 2 ^ offset + 2 ^ offset ≡ 2 ^ (width + offset) = omega arith in
    omega arith

pub get-and : (word offset width : ℕ) → bit_and (word / 2 ^ offset) (2 ^ width - 1) ≡ get word offset width
unfolding get
get-and word offset width = and_mask (word / 2 ^ offset) width

pub get_below : (word offset width bits : ℕ) → offset + width ≤ bits → get word offset width < 2 ^ bits
unfolding get
get_below word offset width bits within =
    let low : word / 2 ^ offset % 2 ^ width < 2 ^ width = mod-lt (word / 2 ^ offset) (pow_pos width) in
    let more : 2 ^ width ≤ 2 ^ bits = pow-le-pow_right (omega arith) (omega arith) in
    omega arith

and-mask : (word offset width : ℕ) → bit_and word (mask offset width) ≡ get word offset width * 2 ^ offset
unfolding get
and-mask word offset width = ap (bit_and word) (mask-high offset width) ∙ and_high word width offset

and-zero : (n : ℕ) → bit_and n 0 ≡ 0
and-zero n = omega (arith, and_le_r n 0)

placed_get : (x offset width : ℕ) → x < 2 ^ width → get (x * 2 ^ offset) offset width ≡ x
unfolding get
placed_get x offset width h = ap (λ (n : ℕ). n % 2 ^ width) (shl-shr x offset) ∙ mod-eq_of_lt h

-- what stands at the place is in the mask, so nothing of it is outside
outside : (bits x offset width : ℕ) → x < 2 ^ width → offset + width ≤ bits → bit_and (2 ^ bits - 1 - mask offset width) (x * 2 ^ offset) ≡ 0
outside bits x offset width h within =
    let all : bit_and (2 ^ bits - 1 - mask offset width) (x * 2 ^ offset) + bit_and (mask offset width) (x * 2 ^ offset) ≡ x * 2 ^ offset =
    and-not bits (mask offset width) (x * 2 ^ offset) (mask_below offset width bits within) (scaled_below x width offset bits h within) in
    let inside : bit_and (mask offset width) (x * 2 ^ offset) ≡ x * 2 ^ offset =
    and_comm (mask offset width) (x * 2 ^ offset) ∙ and-mask (x * 2 ^ offset) offset width ∙ ap (λ (n : ℕ). n * 2 ^ offset) (placed_get x offset width h) in
    omega arith

others-minus : (bits word offset width : ℕ) → word < 2 ^ bits → offset + width ≤ bits → bit_and word (2 ^ bits - 1 - mask offset width) ≡ word - get word offset width * 2 ^ offset
others-minus bits word offset width small within =
    let all : bit_and (2 ^ bits - 1 - mask offset width) word + bit_and (mask offset width) word ≡ word =
    and-not bits (mask offset width) word (mask_below offset width bits within) small in
    let inside : bit_and (mask offset width) word ≡ get word offset width * 2 ^ offset = and_comm (mask offset width) word ∙ and-mask word offset width in
    let turned : bit_and word (2 ^ bits - 1 - mask offset width) ≡ bit_and (2 ^ bits - 1 - mask offset width) word = and_comm word (2 ^ bits - 1 - mask offset width) in
    omega arith

put_placed : (bits word offset width x : ℕ) → word < 2 ^ bits → offset + width ≤ bits → x < 2 ^ width
    → bit_or (bit_and word (2 ^ bits - 1 - mask offset width)) (x * 2 ^ offset) ≡ word - get word offset width * 2 ^ offset + x * 2 ^ offset
put_placed bits word offset width x small within h =
    or_disjoint (bit_and word (2 ^ bits - 1 - mask offset width)) (x * 2 ^ offset)
    (and_assoc (x * 2 ^ offset) word (2 ^ bits - 1 - mask offset width) ∙ ap (bit_and word) (outside bits x offset width h within) ∙ and-zero word)
    ∙ ap (λ (n : ℕ). n + x * 2 ^ offset) (others-minus bits word offset width small within)

placed : (bits value offset width : ℕ) → offset + width ≤ bits → bit_and value (2 ^ width - 1) * 2 ^ offset % 2 ^ bits ≡ value % 2 ^ width * 2 ^ offset
placed bits value offset width within =
    ap (λ (n : ℕ). n * 2 ^ offset % 2 ^ bits) (and_mask value width) ∙ mod-eq_of_lt (scaled_below (value % 2 ^ width) width offset bits (mod-lt value (pow_pos width)) within)

pub put-bits : (bits word offset width value m ones : ℕ) → word < 2 ^ bits → offset + width ≤ bits → m ≡ mask offset width → ones ≡ 2 ^ width - 1
    → bit_or (bit_and word (2 ^ bits - 1 - m)) (bit_and value ones * 2 ^ offset % 2 ^ bits) ≡ put word offset width value
unfolding put
put-bits bits word offset width value m ones small within m_is ones_is =
    ap (λ (n : ℕ). bit_or (bit_and word (2 ^ bits - 1 - n)) (bit_and value ones * 2 ^ offset % 2 ^ bits)) m_is
    ∙ ap (λ (n : ℕ). bit_or (bit_and word (2 ^ bits - 1 - mask offset width)) (bit_and value n * 2 ^ offset % 2 ^ bits)) ones_is
    ∙ ap (bit_or (bit_and word (2 ^ bits - 1 - mask offset width))) (placed bits value offset width within)
    ∙ put_placed bits word offset width (value % 2 ^ width) small within (mod-lt value (pow_pos width))

pub put_below : (word offset width value others ones bits : ℕ) → offset + width ≤ 64 → ones ≡ 2 ^ width - 1 → word < 2 ^ bits → offset + width ≤ bits
    → bit_or (bit_and word others) (bit_and value ones * 2 ^ offset % 2 ^ 64) < 2 ^ bits
put_below word offset width value others ones bits within ones_is small inside =
    or_lt bits (bit_and word others) (bit_and value ones * 2 ^ offset % 2 ^ 64) (omega (arith, and_le_l word others))
    (subst (λ (n : ℕ). n < 2 ^ bits) (sym (ap (λ (n : ℕ). bit_and value n * 2 ^ offset % 2 ^ 64) ones_is ∙ placed 64 value offset width within))
    (scaled_below (value % 2 ^ width) width offset bits (mod-lt value (pow_pos width)) inside))

by_bits : (raised one bit : ℕ) → raised < 2 → one < 2 → bit < 2 → max (min bit (1 - one)) raised ≡ start_bit raised one bit
by_bits raised one bit p q r = grind (arith, nat_tests)

pub start-bits : (w : Width) (word one raised : ℕ) → one < 2 ^ bits w → IsStart (bits w) word one raised (bit_or (bit_and word (2 ^ bits w - 1 - one)) raised)
unfolding IsStart
start-bits w word one raised small =
    λ i below. bit_at_or (bit_and word (2 ^ bits w - 1 - one)) raised i
    ∙ ap (λ (n : ℕ). max n (bit_at raised i)) (bit_at_and word (2 ^ bits w - 1 - one) i ∙ ap (min (bit_at word i)) (bit_at_not w one i small below))
    ∙ by_bits (bit_at raised i) (bit_at one i) (bit_at word i) (bit_at-lt raised i) (bit_at-lt one i) (bit_at-lt word i)

pub start_below : (word others raised bits : ℕ) → word < 2 ^ bits → raised < 2 ^ bits → bit_or (bit_and word others) raised < 2 ^ bits
start_below word others raised bits p q = or_lt bits (bit_and word others) raised (omega (arith, and_le_l word others)) q

-- a start word by its 64 bits has fewer bits right too
pub start_fewer : (bits word one raised start cut : ℕ) → bits ≤ 64 → IsStart 64 word one raised start → cut ≡ start → IsStart bits word one raised cut
unfolding IsStart
start_fewer bits word one raised start cut within is same = λ i below. ap (λ (n : ℕ). bit_at n i) same ∙ is i (omega arith)

pub kept_whole : (n bits value r : ℕ) → value ≡ n % 2 ^ bits → n < 2 ^ bits → n ≡ r → value ≡ r
kept_whole n bits value r cut small is = cut ∙ mod-eq_of_lt small ∙ is
