-- Values in memory, little end first.
use Rattle.std.proofs.Common.{ℕ, zero, suc, ◌≡◌, ◌≤◌, ◌<◌, ◌+◌, ◌-◌, ◌*◌, ◌^◌, ◌/◌, ◌%◌, ◌==◌, nat_le, nat_lt, Bool, true, false, refl, sym, ap, ◌∙◌, arith, ◌⊎◌, inl, inr}
use Rattle.std.proofs.lemmas.Bool.{cases_order}
use Rattle.std.proofs.lemmas.Bool.Decides.{nat_tests}
use Rattle.std.proofs.Math.Nat.{pow-suc, div-one, div-div-eq-div-mul, mod-add-div}
use Rattle.pac_bus.specs.Memory.{Memory, value_at, with_value}
use Rattle.pac_bus.specs.Stores.{with_byte}

-- a byte of the value
pub byte_inside : (memory : Memory) (address count value other : ℕ) → address ≤ other → other < address + count → with_value memory address count value other ≡ value / 256 ^ (other - address) % 256
byte_inside memory address count value other from below =
    let at : nat_le address other ≡ true = grind (arith, nat_tests, from) in
    let to : nat_lt other (address + count) ≡ true = grind (arith, nat_tests, below) in
    rw (at, to) refl

-- a byte before the value
pub byte_before : (memory : Memory) (address count value other : ℕ) → other < address → with_value memory address count value other ≡ memory other
byte_before memory address count value other below =
    let at : nat_le address other ≡ false = grind (arith, nat_tests, below) in
    rw at refl

-- a byte behind the value
pub byte_behind : (memory : Memory) (address count value other : ℕ) → address + count ≤ other → with_value memory address count value other ≡ memory other
byte_behind memory address count value other above = by_test (nat_le address other) refl
  where
    past : nat_lt other (address + count) ≡ false
    past = grind (arith, nat_tests, above)

    by_test : (test : Bool) → nat_le address other ≡ test → with_value memory address count value other ≡ memory other
    by_test true e = rw (e, past) refl
    by_test false e = rw e refl

-- the one byte that was set
byte_set : (memory : Memory) (address byte other : ℕ) → other ≡ address → with_byte memory address byte other ≡ byte
byte_set memory address byte other same =
    let at : (other == address) ≡ true = grind (arith, nat_tests, same) in
    rw at refl

-- another byte than the one that was set
byte_not_set : (memory : Memory) (address byte other : ℕ) → (other < address) ⊎ (address < other) → with_byte memory address byte other ≡ memory other
byte_not_set memory address byte other (inl below) =
    let at : (other == address) ≡ false = grind (arith, nat_tests, below) in
    rw at refl
byte_not_set memory address byte other (inr above) =
    let at : (other == address) ≡ false = grind (arith, nat_tests, above) in
    rw at refl

-- a power of one more, and the division by it
divided : (value k : ℕ) → value / 256 / 256 ^ k ≡ value / 256 ^ (k + 1)
divided value k = div-div-eq-div-mul value 256 (256 ^ k) ∙ ap (λ (n : ℕ). value / n) (omega (arith, pow-suc 256 k, ap (λ (m : ℕ). 256 ^ m) {x = k + 1} {y = suc k} (omega arith)))

-- the byte of the least place
first_byte : (value k : ℕ) → k ≡ 0 → value / 256 ^ k % 256 ≡ value % 256
first_byte value k none = ap (λ (m : ℕ). value / 256 ^ m % 256) none ∙ ap (λ (n : ℕ). n % 256) (div-one value)

byte_in_turn : (memory : Memory) (address count value other : ℕ) → with_value (with_byte memory address (value % 256)) (address + 1) count (value / 256) other ≡ with_value memory address (suc count) value other
byte_in_turn memory address count value other = by_order (cases_order other address)
  where
    set : Memory
    set = with_byte memory address (value % 256)

    behind : address < other → (other < address + 1 + count) ⊎ (address + 1 + count ≤ other) → with_value set (address + 1) count (value / 256) other ≡ with_value memory address (suc count) value other
    behind above (inl below) =
        byte_inside set (address + 1) count (value / 256) other (omega (arith, above)) below
        ∙ ap (λ (n : ℕ). n % 256) (divided value (other - (address + 1)) ∙ ap (λ (k : ℕ). value / 256 ^ k) {x = other - (address + 1) + 1} {y = other - address} (omega (arith, above)))
        ∙ sym (byte_inside memory address (suc count) value other (omega (arith, above)) (omega (arith, below)))
    behind above (inr past) =
        byte_behind set (address + 1) count (value / 256) other past ∙ byte_not_set memory address (value % 256) other (inr above)
        ∙ sym (byte_behind memory address (suc count) value other (omega (arith, past)))

    by_limit : address < other → (other ≡ address + 1 + count) ⊎ ((other < address + 1 + count) ⊎ (address + 1 + count < other)) → with_value set (address + 1) count (value / 256) other ≡ with_value memory address (suc count) value other
    by_limit above (inl at) = behind above (inr (omega (arith, at)))
    by_limit above (inr (inl below)) = behind above (inl below)
    by_limit above (inr (inr past)) = behind above (inr (omega (arith, past)))

    by_order : (other ≡ address) ⊎ ((other < address) ⊎ (address < other)) → with_value set (address + 1) count (value / 256) other ≡ with_value memory address (suc count) value other
    by_order (inl same) =
        byte_before set (address + 1) count (value / 256) other (omega (arith, same)) ∙ byte_set memory address (value % 256) other same
        ∙ sym (byte_inside memory address (suc count) value other (omega (arith, same)) (omega (arith, same)) ∙ first_byte value (other - address) (omega (arith, same)))
    by_order (inr (inl below)) =
        byte_before set (address + 1) count (value / 256) other (omega (arith, below)) ∙ byte_not_set memory address (value % 256) other (inl below)
        ∙ sym (byte_before memory address (suc count) value other below)
    by_order (inr (inr above)) = by_limit above (cases_order other (address + 1 + count))

-- A value is set by its first byte and then the others.
pub value_in_turn : (memory : Memory) (address count value : ℕ) → with_value (with_byte memory address (value % 256)) (address + 1) count (value / 256) ≡ with_value memory address (suc count) value
value_in_turn memory address count value = λ i other. byte_in_turn memory address count value other i

-- nothing is set
none_at : (memory : Memory) (address value other : ℕ) → with_value memory address 0 value other ≡ memory other
none_at memory address value other = by_order (cases_order other address)
  where
    by_order : (other ≡ address) ⊎ ((other < address) ⊎ (address < other)) → with_value memory address 0 value other ≡ memory other
    by_order (inl same) = byte_behind memory address 0 value other (omega (arith, same))
    by_order (inr (inl below)) = byte_before memory address 0 value other below
    by_order (inr (inr above)) = byte_behind memory address 0 value other (omega (arith, above))

none_set : (memory : Memory) (address value : ℕ) → with_value memory address 0 value ≡ memory
none_set memory address value = λ i other. none_at memory address value other i

quotient_below : (value count : ℕ) → value < 256 ^ suc count → value / 256 < 256 ^ count
quotient_below value count below = omega (arith, below, pow-suc 256 count, mod-add-div value 256)

pub read_back : (memory : Memory) (address count value : ℕ) → value < 256 ^ count → value_at (with_value memory address count value) address count ≡ value
read_back memory address zero value below = omega (arith, below)
read_back memory address (suc count) value below =
    let first = byte_inside memory address (suc count) value address (omega arith) (omega arith) ∙ first_byte value (address - address) (omega arith) in
    let others = ap (λ (m : Memory). value_at m (address + 1) count) (sym (value_in_turn memory address count value)) ∙ read_back (with_byte memory address (value % 256)) (address + 1) count (value / 256) (quotient_below value count below) in
    omega (arith, first, others, mod-add-div value 256)

pub left_alone : (memory : Memory) (address count value other many : ℕ) → (other + many ≤ address) ⊎ (address + count ≤ other) → value_at (with_value memory address count value) other many ≡ value_at memory other many
left_alone memory address count value other zero apart = refl
left_alone memory address count value other (suc many) (inl before) =
    omega (arith, byte_before memory address count value other (omega (arith, before)), left_alone memory address count value (other + 1) many (inl (omega (arith, before))))
left_alone memory address count value other (suc many) (inr behind) =
    omega (arith, byte_behind memory address count value other behind, left_alone memory address count value (other + 1) many (inr (omega (arith, behind))))

-- one more byte of a value that is being set
pub put_more : (old mid now : Memory) (address at count value rest : ℕ) → at < count → with_value mid (address + at) (count - at) rest ≡ with_value old address count value → now ≡ with_byte mid (address + at) (rest % 256) → with_value now (address + (at + 1)) (count - (at + 1)) (rest / 256) ≡ with_value old address count value
put_more old mid now address at count value rest below so_far one =
    ap (λ (m : Memory). with_value m (address + (at + 1)) (count - (at + 1)) (rest / 256)) one
    ∙ ap (λ (a : ℕ). with_value (with_byte mid (address + at) (rest % 256)) a (count - (at + 1)) (rest / 256)) {x = address + (at + 1)} {y = address + at + 1} (omega arith)
    ∙ value_in_turn mid (address + at) (count - (at + 1)) rest
    ∙ ap (λ (n : ℕ). with_value mid (address + at) n rest) {x = suc (count - (at + 1))} {y = count - at} (omega (arith, below)) ∙ so_far

-- all bytes of a value were set
pub put_all : (old now : Memory) (address at count value rest : ℕ) → count ≤ at → with_value now (address + at) (count - at) rest ≡ with_value old address count value → now ≡ with_value old address count value
put_all old now address at count value rest past so_far =
    sym (ap (λ (n : ℕ). with_value now (address + at) n rest) {x = count - at} {y = 0} (omega (arith, past)) ∙ none_set now (address + at) rest) ∙ so_far

value_from : (memory : Memory) (address count rest : ℕ) → count ≡ rest + 1 → value_at memory address count ≡ memory address + 256 * value_at memory (address + 1) rest
value_from memory address count rest e = ap (value_at memory address) {x = count} {y = suc rest} (omega (arith, e))

-- one more byte of a value that is being read, from the last byte to the first
pub value_more : (memory : Memory) (address at count value byte : ℕ) → 0 < at → at ≤ count → value ≡ value_at memory (address + at) (count - at) → byte ≡ memory (address + (at - 1)) → value * 256 + byte ≡ value_at memory (address + (at - 1)) (count - (at - 1))
value_more memory address at count value byte some within so_far one =
    let here = value_from memory (address + (at - 1)) (count - (at - 1)) (count - at) (omega (arith, some, within)) in
    let there = ap (λ (a : ℕ). value_at memory a (count - at)) {x = address + (at - 1) + 1} {y = address + at} (omega (arith, some)) in
    omega (arith, here, there, so_far, one)

pub below_more : (k count value byte : ℕ) → count ≡ k + 1 → value < 256 ^ k → byte < 256 → value * 256 + byte < 256 ^ count
below_more k count value byte e below small = omega (arith, ap (λ (m : ℕ). 256 ^ m) {x = count} {y = suc k} (omega (arith, e)), pow-suc 256 k, below, small)

-- eight bytes at most hold a number below 2^64
pub few_bytes : (k : ℕ) → k ≤ 8 → 256 ^ k ≤ 2 ^ 64
few_bytes zero few = omega arith
few_bytes (suc zero) few = omega arith
few_bytes (suc (suc zero)) few = omega arith
few_bytes (suc (suc (suc zero))) few = omega arith
few_bytes (suc (suc (suc (suc zero)))) few = omega arith
few_bytes (suc (suc (suc (suc (suc zero))))) few = omega arith
few_bytes (suc (suc (suc (suc (suc (suc zero)))))) few = omega arith
few_bytes (suc (suc (suc (suc (suc (suc (suc zero))))))) few = omega arith
few_bytes (suc (suc (suc (suc (suc (suc (suc (suc zero)))))))) few = omega arith
few_bytes (suc (suc (suc (suc (suc (suc (suc (suc (suc k))))))))) few = absurd (omega (arith, few))
