-- Places in words that are cut at 64 bits.
use Rattle.std.proofs.Common.{ℕ, ◌≡◌, ◌+◌, ◌-◌, ◌*◌, ◌%◌, ◌^◌, ◌<◌, ◌≤◌, ◌⊎◌, inl, inr, min, bit_and, bit_or, sym, ap, ap₂, ◌∙◌, arith, add-mul}
use Rattle.std.proofs.Math.Nat.{one-le-pow}
use Rattle.std.proofs.lemmas.Bool.{cases_lt}
use Rattle.std.proofs.lemmas.Nat.{and_mod, mod_low, mul-mod_first, pow-add}
use Rattle.pac_base.specs.declared.width.Width.{Width}
use Rattle.pac_base.specs.Widths.{bits_of}
use Rattle.frag_sem.specs.PreludeWords.{complement, ones, shifted_up, taken, written}
use Rattle.frag_eval.proofs.Words.{all_lost, bits_few, none_taken}

-- what is taken from a spot that is cut
pub taken_cut : (word offset mask : ℕ) → word < 2 ^ 64 → taken word (min offset 64) mask ≡ taken word offset mask
taken_cut word offset mask small = by (cases_lt 64 offset)
  where
    by : (64 < offset) ⊎ (offset ≤ 64) → taken word (min offset 64) mask ≡ taken word offset mask
    by (inl far) = sym (none_taken word (min offset 64) mask (omega arith) small) ∙ none_taken word offset mask (omega arith) small
    by (inr near) = let same : min offset 64 ≡ offset = omega arith in ap (λ (n : ℕ). taken word n mask) same

up_cut : (width : Width) (word offset : ℕ) → shifted_up (bits_of width) word (min offset 64) ≡ shifted_up (bits_of width) word offset
up_cut width word offset = by (cases_lt 64 offset)
  where
    by : (64 < offset) ⊎ (offset ≤ 64) → shifted_up (bits_of width) word (min offset 64) ≡ shifted_up (bits_of width) word offset
    by (inl far) = sym (all_lost width word (min offset 64) (omega arith)) ∙ all_lost width word offset (omega arith)
    by (inr near) = let same : min offset 64 ≡ offset = omega arith in ap (λ (n : ℕ). shifted_up (bits_of width) word n) same

-- what is written at a spot that is cut
pub written_cut : (width : Width) (word offset bits value : ℕ) → written (bits_of width) word (min offset 64) bits value ≡ written (bits_of width) word offset bits value
unfolding written
written_cut width word offset bits value =
    ap₂ (λ (m v : ℕ). bit_or (bit_and word (complement (bits_of width) m)) v) (up_cut width (ones bits) offset) (up_cut width (bit_and value (ones bits)) offset)

-- so many ones or more are as many in a word
ones_cut : (N n : ℕ) → N ≤ n → ones n % 2 ^ N ≡ ones N
ones_cut N n fits =
    let q : ℕ = 2 ^ (n - N) in
    let some : 1 ≤ q = one-le-pow (n - N) 2 (omega arith) in
    let low : 1 ≤ 2 ^ N = one-le-pow N 2 (omega arith) in
    let apart : n - N + N ≡ n = omega arith in
    let whole : 2 ^ n ≡ q * 2 ^ N = ap (λ (k : ℕ). 2 ^ k) (sym apart) ∙ pow-add 2 (n - N) N in
    let before : q - 1 + 1 ≡ q = omega arith in
    let sum : q * 2 ^ N ≡ (q - 1) * 2 ^ N + 1 * 2 ^ N = ap (λ (k : ℕ). k * 2 ^ N) (sym before) ∙ add-mul (q - 1) 1 (2 ^ N) in
    let is : ones n ≡ (q - 1) * 2 ^ N + ones N = omega (arith, whole, sum, low) in
    ap (λ (k : ℕ). k % 2 ^ N) is ∙ mod_low (q - 1) N (ones N) (omega (arith, low))

up_same : (N x y offset : ℕ) → x % 2 ^ N ≡ y % 2 ^ N → shifted_up N x offset ≡ shifted_up N y offset
up_same N x y offset same = sym (mul-mod_first x (2 ^ offset) (2 ^ N)) ∙ (ap (λ (k : ℕ). k * 2 ^ offset % 2 ^ N) same ∙ mul-mod_first y (2 ^ offset) (2 ^ N))

-- what is written to more bits than a word has
pub bits_cut : (width : Width) (word offset bits value : ℕ) → written (bits_of width) word offset (min bits 64) value ≡ written (bits_of width) word offset bits value
unfolding written
bits_cut width word offset bits value = by (cases_lt 64 bits)
  where
    N : ℕ
    N = bits_of width

    by : (64 < bits) ⊎ (bits ≤ 64) → bit_or (bit_and word (complement N (shifted_up N (ones (min bits 64)) offset))) (shifted_up N (bit_and value (ones (min bits 64))) offset) ≡ bit_or (bit_and word (complement N (shifted_up N (ones bits) offset))) (shifted_up N (bit_and value (ones bits)) offset)
    by (inl far) =
        let few : N ≤ 64 = bits_few width in
        let same : ones (min bits 64) % 2 ^ N ≡ ones bits % 2 ^ N = ones_cut N (min bits 64) (omega arith) ∙ sym (ones_cut N bits (omega arith)) in
        let both : bit_and value (ones (min bits 64)) % 2 ^ N ≡ bit_and value (ones bits) % 2 ^ N =
        and_mod value (ones (min bits 64)) N ∙ (ap (λ (k : ℕ). bit_and (value % 2 ^ N) k) same ∙ sym (and_mod value (ones bits) N)) in
        ap₂ (λ (m v : ℕ). bit_or (bit_and word (complement N m)) v) (up_same N (ones (min bits 64)) (ones bits) offset same) (up_same N (bit_and value (ones (min bits 64))) (bit_and value (ones bits)) offset both)
    by (inr near) = let same : min bits 64 ≡ bits = omega arith in ap (λ (n : ℕ). bit_or (bit_and word (complement N (shifted_up N (ones n) offset))) (shifted_up N (bit_and value (ones n)) offset)) same
