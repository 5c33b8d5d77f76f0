-- Places in words, and the members of fields.
use Rattle.std.proofs.Common.{ℕ, ◌≡◌, ◌+◌, ◌-◌, ◌*◌, ◌/◌, ◌%◌, ◌^◌, ◌<◌, ◌≤◌, Bool, true, false, refl, sym, ap, ap₂, ◌∙◌, subst, arith, bit_and, bit_or, mod-lt, mod-eq_of_lt, add-mul, div-add-mod'}
use Rattle.std.specs.Prelude.{nat_le}
use Rattle.std.proofs.Math.Nat.{mul_assoc, mul-le-mul_right, mul-mod_left, add-mul-mod_self_right, div-eq_of_lt, pow-le-pow_right, zero-mod}
use Rattle.std.proofs.Math.Pow.{mod-mod-pow}
use Rattle.std.proofs.lemmas.Bool.Decides.{nat_tests}
use Rattle.std.proofs.lemmas.Nat.{and_mask, mod-mul-add, pow-add}
use Rattle.bits_word.specs.Places.{get, put}
use Rattle.bits_word.proofs.Bits.{get-and, scaled_below}
use Rattle.pac_base.specs.Widths.{bits_of}
use Rattle.frag_sem.specs.PreludeWords.{complement, ones, start_word, taken, written}
use Rattle.frag_sem.proofs.Words.{reads_written, some_power, start_plain, writer_puts, written_small}
use Rattle.table_sem.specs.Laws.{MemberIsPut, MemberReadsBack, WrittenIsPut}
use Rattle.reg_table.specs.Members.{member_at}

-- a value that is put within a word stays in the word
pub put_small : (N w o n v : ℕ) → w < 2 ^ N → o + n ≤ N → put w o n v < 2 ^ N
put_small N w o n v small within = subst (λ (x : ℕ). x < 2 ^ N) (writer_puts N w o n v small within) (written_small N w o n v small)

-- what is shifted up by o in a word of m + o bits has m bits left
shifted_cut : (m o x : ℕ) → x * 2 ^ o % 2 ^ (m + o) ≡ x % 2 ^ m * 2 ^ o
shifted_cut m o x =
    let h = x / 2 ^ m in
    let r = x % 2 ^ m in
    let parted : h * 2 ^ m + r ≡ x = div-add-mod' x (2 ^ m) in
    let spread : (h * 2 ^ m + r) * 2 ^ o ≡ h * 2 ^ m * 2 ^ o + r * 2 ^ o = add-mul (h * 2 ^ m) r (2 ^ o) in
    let joined : 2 ^ (m + o) ≡ 2 ^ m * 2 ^ o = pow-add 2 m o in
    let around : h * 2 ^ (m + o) ≡ h * 2 ^ m * 2 ^ o = ap (λ (k : ℕ). h * k) joined ∙ sym (mul_assoc h (2 ^ m) (2 ^ o)) in
    let whole : x * 2 ^ o ≡ h * 2 ^ (m + o) + r * 2 ^ o = ap (λ (k : ℕ). k * 2 ^ o) (sym parted) ∙ omega arith in
    let small : r * 2 ^ o < 2 ^ (m + o) = scaled_below r m o (m + o) (mod-lt x (some_power m)) (omega arith) in
    ap (λ (k : ℕ). k % 2 ^ (m + o)) whole ∙ mod-mul-add h (2 ^ (m + o)) (r * 2 ^ o) small

-- the ones of more bits, cut to m bits, are those of m bits
ones_cut : (d m : ℕ) → ones (d + m) % 2 ^ m ≡ ones m
ones_cut d m =
    let joined : 2 ^ (d + m) ≡ 2 ^ d * 2 ^ m = pow-add 2 d m in
    let some : 0 < 2 ^ d = some_power d in
    let few : 0 < 2 ^ m = some_power m in
    let one_more : 2 ^ d - 1 + 1 ≡ 2 ^ d = omega arith in
    let spread : (2 ^ d - 1 + 1) * 2 ^ m ≡ (2 ^ d - 1) * 2 ^ m + 1 * 2 ^ m = add-mul (2 ^ d - 1) 1 (2 ^ m) in
    let same : (2 ^ d - 1 + 1) * 2 ^ m ≡ 2 ^ d * 2 ^ m = ap (λ (k : ℕ). k * 2 ^ m) one_more in
    let whole : ones (d + m) ≡ (2 ^ d - 1) * 2 ^ m + ones m = omega arith in
    ap (λ (k : ℕ). k % 2 ^ m) whole ∙ mod-mul-add (2 ^ d - 1) (2 ^ m) (ones m) (omega arith)

-- what is below 2^k is below a greater power
below_more : (x k n : ℕ) → x < 2 ^ k → k ≤ n → x < 2 ^ n
below_more x k n small fits =
    let wider : 2 ^ k ≤ 2 ^ n = pow-le-pow_right (omega arith) fits in
    omega arith

-- the place begins in a word of m + o bits, at o, and ends d bits above it
module _ (m o d w v : ℕ) (small : w < 2 ^ (m + o)) where
  parted : w / 2 ^ o * 2 ^ o + w % 2 ^ o ≡ w
  parted = div-add-mod' w (2 ^ o)

  above : w / 2 ^ o < 2 ^ m
  above = by (nat_le (2 ^ m) (w / 2 ^ o)) refl
    where
      by : (b : Bool) → nat_le (2 ^ m) (w / 2 ^ o) ≡ b → w / 2 ^ o < 2 ^ m
      by true e =
          let least : 2 ^ m ≤ w / 2 ^ o = grind (arith, nat_tests, e) in
          let more : 2 ^ m * 2 ^ o ≤ w / 2 ^ o * 2 ^ o = mul-le-mul_right (2 ^ o) least in
          let joined : 2 ^ (m + o) ≡ 2 ^ m * 2 ^ o = pow-add 2 m o in
          absurd (omega (arith, parted, small))
      by false e = grind (arith, nat_tests, e)

  get_all : get w o (d + m) ≡ w / 2 ^ o
  unfolding get
  get_all = mod-eq_of_lt (below_more (w / 2 ^ o) m (d + m) above (omega arith))

  get_some : get w o m ≡ w / 2 ^ o
  unfolding get
  get_some = mod-eq_of_lt above

  -- the writer writes the bits that are left
  written_less : written (m + o) w o (d + m) v ≡ written (m + o) w o m v
  unfolding written
  written_less =
      ap₂ (λ (mask value : ℕ). bit_or (bit_and w (complement (m + o) mask)) value)
      (shifted_cut m o (ones (d + m)) ∙ (ap (λ (k : ℕ). k * 2 ^ o) (ones_cut d m ∙ sym (mod-eq_of_lt fewer)) ∙ sym (shifted_cut m o (ones m))))
      (ap (λ (k : ℕ). k * 2 ^ o % 2 ^ (m + o)) (and_mask v (d + m))
      ∙ (shifted_cut m o (v % 2 ^ (d + m))
      ∙ (ap (λ (k : ℕ). k * 2 ^ o) (mod-mod-pow v d m ∙ sym (mod-eq_of_lt (mod-lt v (some_power m))))
      ∙ (sym (shifted_cut m o (v % 2 ^ m)) ∙ ap (λ (k : ℕ). k * 2 ^ o % 2 ^ (m + o)) (sym (and_mask v m))))))
    where
      fewer : ones m < 2 ^ m
      fewer = omega (arith, some_power m)

  put_less : put w o (d + m) v % 2 ^ (m + o) ≡ put w o m v
  unfolding put
  put_less =
      let h = v % 2 ^ (d + m) / 2 ^ m in
      let low = v % 2 ^ (d + m) % 2 ^ m in
      let cut : low ≡ v % 2 ^ m = mod-mod-pow v d m in
      let split : h * 2 ^ m + low ≡ v % 2 ^ (d + m) = div-add-mod' (v % 2 ^ (d + m)) (2 ^ m) in
      let spread : (h * 2 ^ m + low) * 2 ^ o ≡ h * 2 ^ m * 2 ^ o + low * 2 ^ o = add-mul (h * 2 ^ m) low (2 ^ o) in
      let scaled : (h * 2 ^ m + low) * 2 ^ o ≡ v % 2 ^ (d + m) * 2 ^ o = ap (λ (k : ℕ). k * 2 ^ o) split in
      let joined : 2 ^ (m + o) ≡ 2 ^ m * 2 ^ o = pow-add 2 m o in
      let around : h * 2 ^ (m + o) ≡ h * 2 ^ m * 2 ^ o = ap (λ (k : ℕ). h * k) joined ∙ sym (mul_assoc h (2 ^ m) (2 ^ o)) in
      let same : low * 2 ^ o ≡ v % 2 ^ m * 2 ^ o = ap (λ (k : ℕ). k * 2 ^ o) cut in
      let left : w - w / 2 ^ o * 2 ^ o ≡ w % 2 ^ o = omega (arith, parted) in
      let stays : w - w / 2 ^ o * 2 ^ o + v % 2 ^ m * 2 ^ o < 2 ^ (m + o) = subst (λ (g : ℕ). w - g * 2 ^ o + v % 2 ^ m * 2 ^ o < 2 ^ (m + o)) get_some (put_small (m + o) w o m v small (omega arith)) in
      let whole : w - w / 2 ^ o * 2 ^ o + v % 2 ^ (d + m) * 2 ^ o ≡ h * 2 ^ (m + o) + (w - w / 2 ^ o * 2 ^ o + v % 2 ^ m * 2 ^ o) = omega arith in
      ap (λ (g : ℕ). (w - g * 2 ^ o + v % 2 ^ (d + m) * 2 ^ o) % 2 ^ (m + o)) get_all
      ∙ (ap (λ (k : ℕ). k % 2 ^ (m + o)) whole
      ∙ (mod-mul-add h (2 ^ (m + o)) (w - w / 2 ^ o * 2 ^ o + v % 2 ^ m * 2 ^ o) stays
      ∙ ap (λ (g : ℕ). w - g * 2 ^ o + v % 2 ^ m * 2 ^ o) (sym get_some)))

-- a place that begins above the word
module _ (N o n w v : ℕ) (small : w < 2 ^ N) (behind : N ≤ o) where
  -- nothing of what is shifted there is left
  shifted_away : (x : ℕ) → x * 2 ^ o % 2 ^ N ≡ 0
  shifted_away x =
      let joined : 2 ^ (o - N + N) ≡ 2 ^ (o - N) * 2 ^ N = pow-add 2 (o - N) N in
      let same : o - N + N ≡ o = omega arith in
      let scaled : x * 2 ^ o ≡ x * 2 ^ (o - N) * 2 ^ N = ap (λ (k : ℕ). x * 2 ^ k) (sym same) ∙ (ap (λ (k : ℕ). x * k) joined ∙ sym (mul_assoc x (2 ^ (o - N)) (2 ^ N))) in
      ap (λ (k : ℕ). k % 2 ^ N) scaled ∙ mul-mod_left (x * 2 ^ (o - N)) (2 ^ N)

  written_nothing : written N w o n v ≡ w
  unfolding written start_word
  written_nothing =
      ap₂ (λ (mask value : ℕ). bit_or (bit_and w (complement N mask)) value) (shifted_away (ones n)) (shifted_away (bit_and v (ones n)))
      ∙ start_plain N w small

  put_nothing : put w o n v % 2 ^ N ≡ w
  unfolding put get
  put_nothing =
      let none : w / 2 ^ o ≡ 0 = div-eq_of_lt (below_more w N o small behind) in
      let nothing : w / 2 ^ o % 2 ^ n ≡ 0 = ap (λ (k : ℕ). k % 2 ^ n) none ∙ zero-mod (2 ^ n) in
      let kept : w - 0 * 2 ^ o + v % 2 ^ n * 2 ^ o ≡ w + v % 2 ^ n * 2 ^ (o - N) * 2 ^ N = omega (arith, scaled (v % 2 ^ n)) in
      ap (λ (k : ℕ). (w - k * 2 ^ o + v % 2 ^ n * 2 ^ o) % 2 ^ N) nothing
      ∙ (ap (λ (k : ℕ). k % 2 ^ N) kept
      ∙ (add-mul-mod_self_right w (v % 2 ^ n * 2 ^ (o - N)) (2 ^ N) ∙ mod-eq_of_lt small))
    where
      scaled : (x : ℕ) → x * 2 ^ o ≡ x * 2 ^ (o - N) * 2 ^ N
      scaled x =
          let joined : 2 ^ (o - N + N) ≡ 2 ^ (o - N) * 2 ^ N = pow-add 2 (o - N) N in
          let same : o - N + N ≡ o = omega arith in
          ap (λ (k : ℕ). x * 2 ^ k) (sym same) ∙ (ap (λ (k : ℕ). x * k) joined ∙ sym (mul_assoc x (2 ^ (o - N)) (2 ^ N)))

pub written_is_put : WrittenIsPut
written_is_put N w o n v small = by (nat_le (o + n) N) refl (nat_le N o) refl
  where
    across : (m d : ℕ) → N ≡ m + o → n ≡ d + m → written N w o n v ≡ put w o n v % 2 ^ N
    across m d bits width =
        let below : w < 2 ^ (m + o) = subst (λ (k : ℕ). w < 2 ^ k) bits small in
        ap₂ (λ (k l : ℕ). written k w o l v) bits width
        ∙ (written_less m o d w v below
        ∙ (writer_puts (m + o) w o m v below (omega arith)
        ∙ (sym (put_less m o d w v below)
        ∙ ap₂ (λ (k l : ℕ). put w o l v % 2 ^ k) (sym bits) (sym width))))

    by : (b : Bool) → nat_le (o + n) N ≡ b → (c : Bool) → nat_le N o ≡ c → written N w o n v ≡ put w o n v % 2 ^ N
    by true e c f =
        let within : o + n ≤ N = grind (arith, nat_tests, e) in
        writer_puts N w o n v small within ∙ sym (mod-eq_of_lt (put_small N w o n v small within))
    by false e true f =
        let behind : N ≤ o = grind (arith, nat_tests, f) in
        written_nothing N o n w v small behind ∙ sym (put_nothing N o n w v small behind)
    by false e false f =
        let over : N < o + n = grind (arith, nat_tests, e) in
        let inside : o < N = grind (arith, nat_tests, f) in
        across (N - o) (n - (N - o)) (omega arith) (omega arith)

-- ---- members

-- within the word nothing is cut
pub member_is_put : MemberIsPut
member_is_put row field index word value fits admitted small = mod-eq_of_lt (put_small (bits_of row.width) word (member_at field index) field.width value small (fits.within index admitted))

pub member_reads_back : MemberReadsBack
unfolding taken
member_reads_back row field index word value fits admitted small =
    let within = fits.within index admitted in
    let N = bits_of row.width in
    ap (λ (x : ℕ). get x (member_at field index) field.width)
    (member_is_put row field index word value fits admitted small ∙ sym (writer_puts N word (member_at field index) field.width value small within))
    ∙ (sym (get-and (written N word (member_at field index) field.width value) (member_at field index) field.width)
    ∙ reads_written N word (member_at field index) field.width value small within)
