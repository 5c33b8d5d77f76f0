-- The prelude's formulas are division and remainder.
use Rattle.std.proofs.Common.{ℕ, ◌≡◌, ◌+◌, ◌-◌, ◌*◌, ◌/◌, ◌%◌, ◌^◌, ◌<◌, ◌≤◌, refl, ap, ◌∙◌, arith, bit_and, w8, w16, w32, w64, mod-lt, mod-eq_of_lt, add-mul, div-add-mod', zero, suc, List, [], ◌∷◌}
use Rattle.std.proofs.Math.Nat.{one-le-pow, pow-le-pow_right}
use Rattle.std.proofs.lemmas.Nat.{and_mask, and_le_l, and_le_r, or_lt, or_disjoint, div-mul-add, mod-mul-add}
use Rattle.bits_word.specs.Places.{get, put}
use Rattle.bits_word.proofs.Bits.{get-and, mask-shift, put-bits, start-bits}
use Rattle.pac_base.specs.declared.width.Width.TheVariants.{W8, W16, W32, W64}
use Rattle.pac_base.specs.Widths.{bits_of}
use Rattle.frag_sem.specs.Laws.{BitReaderGets, ReaderGets, ReadsWritten, StartStays, StartWithoutMasks, StartWordIsStart, WriterPuts, WrittenStays}
use Rattle.frag_sem.specs.Meaning.{next_answer}
use Rattle.frag_sem.specs.PreludeWords.{bit_of, complement, is_set, ones, shifted_up, start_word, taken, written}

pub some_power : (n : ℕ) → 0 < 2 ^ n
some_power n = omega (arith, one-le-pow n 2 (omega arith))

-- ---- readers

taken_get : (w o n : ℕ) → taken w o (ones n) ≡ get w o n
unfolding taken
taken_get w o n = get-and w o n

get_small : (w o n : ℕ) → get w o n < 2 ^ n
unfolding get
get_small w o n = mod-lt (w / 2 ^ o) (some_power n)

pub reader_gets : ReaderGets
reader_gets type w o n fits =
    let below : get w o n < 2 ^ n = get_small w o n in
    let wider : 2 ^ n ≤ 2 ^ bits_of type = pow-le-pow_right (omega arith) fits in
    ap (λ (x : ℕ). x % 2 ^ bits_of type) (taken_get w o n) ∙ mod-eq_of_lt (omega arith)

-- a bit as a truth, and as a number again
bit_again : (x : ℕ) → x < 2 → bit_of (is_set x) ≡ x
bit_again zero small = refl
bit_again (suc zero) small = refl
bit_again (suc (suc x)) small = absurd (omega arith)

pub bit_reader_gets : BitReaderGets
bit_reader_gets w o = ap (λ (x : ℕ). bit_of (is_set x)) (taken_get w o 1) ∙ bit_again (get w o 1) (get_small w o 1)

-- ---- writers

pub writer_puts : WriterPuts
unfolding written
writer_puts N w o n v small within = put-bits N w o n v (shifted_up N (ones n) o) (ones n) small within (mask-shift o n N within) refl

-- whatever is written, a word of N bits is one again
pub written_small : WrittenStays
unfolding written
written_small N w o n v small =
    let kept = bit_and w (complement N (shifted_up N (ones n) o)) in
    let below : kept ≤ w = and_le_l w (complement N (shifted_up N (ones n) o)) in
    or_lt N kept (shifted_up N (bit_and v (ones n)) o) (omega arith) (mod-lt (bit_and v (ones n) * 2 ^ o) (some_power N))

-- what was put at a place stands there
get_put : (w o n x : ℕ) → x < 2 ^ n → get (w - get w o n * 2 ^ o + x * 2 ^ o) o n ≡ x
unfolding get
get_put w o n x small =
    let q = w / 2 ^ o in
    let h = q / 2 ^ n in
    let parted : q * 2 ^ o + w % 2 ^ o ≡ w = div-add-mod' w (2 ^ o) in
    let above : h * 2 ^ n + q % 2 ^ n ≡ q = div-add-mod' q (2 ^ n) in
    let spread : (h * 2 ^ n + q % 2 ^ n) * 2 ^ o ≡ h * 2 ^ n * 2 ^ o + q % 2 ^ n * 2 ^ o = add-mul (h * 2 ^ n) (q % 2 ^ n) (2 ^ o) in
    let same : (h * 2 ^ n + q % 2 ^ n) * 2 ^ o ≡ q * 2 ^ o = ap (λ (k : ℕ). k * 2 ^ o) above in
    let joined : (h * 2 ^ n + x) * 2 ^ o ≡ h * 2 ^ n * 2 ^ o + x * 2 ^ o = add-mul (h * 2 ^ n) x (2 ^ o) in
    let whole : w - q % 2 ^ n * 2 ^ o + x * 2 ^ o ≡ (h * 2 ^ n + x) * 2 ^ o + w % 2 ^ o = omega arith in
    ap (λ (k : ℕ). k / 2 ^ o % 2 ^ n) whole
    ∙ (ap (λ (k : ℕ). k % 2 ^ n) (div-mul-add (h * 2 ^ n + x) (2 ^ o) (w % 2 ^ o) (mod-lt w (some_power o)))
    ∙ mod-mul-add h (2 ^ n) x small)

pub reads_written : ReadsWritten
unfolding put
reads_written N w o n v small within =
    taken_get (written N w o n v) o n
    ∙ (ap (λ (k : ℕ). get k o n) (writer_puts N w o n v small within)
    ∙ get_put w o n (v % 2 ^ n) (mod-lt v (some_power n)))

-- ---- the start word

pub start_is : StartWordIsStart
unfolding start_word
start_is W8 b one raised small = start-bits w8 b one raised small
start_is W16 b one raised small = start-bits w16 b one raised small
start_is W32 b one raised small = start-bits w32 b one raised small
start_is W64 b one raised small = start-bits w64 b one raised small

-- a start word is one of N bits again
pub start_small : StartStays
unfolding start_word
start_small N b one raised small fits =
    let kept = bit_and b (complement N one) in
    let below : kept ≤ b = and_le_l b (complement N one) in
    or_lt N kept raised (omega arith) fits

pub start_plain : StartWithoutMasks
unfolding start_word
start_plain N b small =
    let all : 2 ^ N - 1 - 0 ≡ 2 ^ N - 1 = omega arith in
    let kept = bit_and b (2 ^ N - 1 - 0) in
    let none : bit_and kept 0 ≡ 0 = omega (arith, and_le_r kept 0) in
    or_disjoint kept 0 none ∙ (omega (arith, ap (bit_and b) all, and_mask b N, mod-eq_of_lt small))

-- ---- answers

-- an answer is a word of its width
pub answer_small : (bits : ℕ) (answers : List ℕ) → next_answer bits answers < 2 ^ bits
answer_small bits [] = some_power bits
answer_small bits (first ∷ others) = mod-lt first (some_power bits)
