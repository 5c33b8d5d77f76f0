-- How long the texts of a sample are: none passes 64 MiB.
use Rattle.std.proofs.Common.{ℕ, ◌≡◌, ◌<◌, ◌≤◌, ◌+◌, ◌-◌, ◌*◌, ◌/◌, ◌%◌, ◌^◌, ◌==◌, zero, suc, min, Bool, true, false, List, [], ◌++◌, length, codes, decimal, if◌then◌else◌, ap, sym, subst, arith}
use Rattle.std.specs.Int.{div_ceil}
use Rattle.std.specs.List.{flat_map, range_with_len}
use Rattle.std.proofs.lemmas.Fmt.{length-decimal-le}
use Rattle.std.proofs.lemmas.List.{length-append}
use Rattle.pac_sample.specs.Description.{field_a, field_b, field_place, kind_of, register_state, reset_value, sample_peripheral, sample_register, sample_text}
use Rattle.pac_sample.specs.Elements.{element, end_tag, start_tag}
use Rattle.pac_sample.specs.Numbered.{between, registers_of}
use Rattle.pac_sample.specs.Script.{register_place, sample_script, script_line}
use Rattle.pac_sample.specs.Wanted.{IsCount}
use Rattle.pac_sample.proofs.Registers.{registers_of-between}

joined : (a b : ℕ) (xs ys : List ℕ) → length xs ≤ a → length ys ≤ b → length (xs ++ ys) ≤ a + b
joined a b xs ys first second = let both = length-append xs ys in omega (arith, both, first, second)

-- an element whose name has at most 20 bytes
in_element : (b : ℕ) (tag inside : List ℕ) → length tag ≤ 20 → length inside ≤ b → length (element tag inside) ≤ b + 45
unfolding start_tag end_tag
in_element b tag inside named held =
    let closed = joined 20 1 tag (codes ">") named (omega arith) in
    let start = joined 1 21 (codes "<") (tag ++ codes ">") (omega arith) closed in
    let end = joined 2 21 (codes "</") (tag ++ codes ">") (omega arith) closed in
    let rest = joined b 23 inside (codes "</" ++ (tag ++ codes ">")) held end in
    let whole = joined 22 (b + 23) (codes "<" ++ (tag ++ codes ">")) (inside ++ (codes "</" ++ (tag ++ codes ">"))) start rest in
    omega (arith, whole)

digits_of : (n : ℕ) → n < 2 ^ 64 → length (decimal n) ≤ 20
digits_of n below = length-decimal-le 20 n (omega arith) (omega (arith, below)) below

-- an element that holds a number
number_in : (tag : List ℕ) (n : ℕ) → length tag ≤ 20 → n < 2 ^ 64 → length (element tag (decimal n)) ≤ 65
number_in tag n named below = in_element 20 tag (decimal n) named (digits_of n below)

-- ---- a register

kind_length : (one two : Bool) → length (if one then codes "modify" else (if two then codes "oneToClear" else codes "zeroToSet")) ≤ 10
kind_length true two = omega arith
kind_length false true = omega arith
kind_length false false = omega arith

place_length : (name : List ℕ) (offset width : ℕ) → length name ≤ 1 → offset < 2 ^ 64 → width < 2 ^ 64 → length (field_place name offset width) ≤ 176
unfolding field_place
place_length name offset width named offset_below width_below =
    joined 46 130 (element (codes "name") name) _ (in_element 1 (codes "name") name (omega arith) named)
    (joined 65 65 (element (codes "bitOffset") (decimal offset)) _ (number_in (codes "bitOffset") offset (omega arith) offset_below) (number_in (codes "bitWidth") width (omega arith) width_below))

field_a-length : (j : ℕ) → length (field_a j) ≤ 276
unfolding field_a
field_a-length j =
    in_element 231 (codes "field") _ (omega arith)
    (joined 176 55 (field_place (codes "A") 0 8) _ (place_length (codes "A") 0 8 (omega arith) (omega arith) (omega arith))
    (in_element 10 (codes "modifiedWriteValues") (kind_of j) (omega arith) (kind_length (j % 3 == 0) (j % 3 == 1))))

field_b-length : (j : ℕ) → length (field_b j) ≤ 221
unfolding field_b
field_b-length j =
    in_element 176 (codes "field") _ (omega arith)
    (joined 176 0 (field_place (codes "B") 8 (2 + j % 7)) [] (place_length (codes "B") 8 (2 + j % 7) (omega arith) (omega arith) (omega arith)) (omega arith))

state_length : (reset j : ℕ) → reset < 2 ^ 64 → length (register_state reset j) ≤ 672
unfolding register_state
state_length reset j below =
    joined 65 607 (element (codes "size") (decimal 32)) _ (number_in (codes "size") 32 (omega arith) (omega arith))
    (joined 65 542 (element (codes "resetValue") (decimal reset)) _ (number_in (codes "resetValue") reset (omega arith) below)
    (in_element 497 (codes "fields") (field_a j ++ field_b j) (omega arith) (joined 276 221 (field_a j) (field_b j) (field_a-length j) (field_b-length j))))

register_length : (number j : ℕ) → length (sample_register number j) ≤ 848
unfolding sample_register
register_length number j =
    in_element 803 (codes "register") _ (omega arith)
    (joined 66 737 (element (codes "name") (codes "R" ++ decimal (j % 64))) _
    (in_element 21 (codes "name") (codes "R" ++ decimal (j % 64)) (omega arith) (joined 1 20 (codes "R") (decimal (j % 64)) (omega arith) (digits_of (j % 64) (omega arith))))
    (joined 65 672 (element (codes "addressOffset") (decimal (4 * (j % 64)))) _ (number_in (codes "addressOffset") (4 * (j % 64)) (omega arith) (omega arith))
    (state_length (reset_value number j) j (omega arith))))

-- ---- so many parts

parts_length : (part : ℕ → List ℕ) (most end : ℕ) → ((n : ℕ) → n < end → length (part n) ≤ most) → (first count : ℕ) → first + count ≤ end
    → length (flat_map part (range_with_len first count)) ≤ count * most
parts_length part most end each first zero inside = omega arith
parts_length part most end each first (suc count) inside =
    let product : suc count * most ≡ most + count * most = omega arith in
    subst (λ n. length (part first ++ flat_map part (range_with_len (first + 1) count)) ≤ n) (sym product)
    (joined most (count * most) (part first) (flat_map part (range_with_len (first + 1) count)) (each first (omega (arith, inside)))
    (parts_length part most end each (first + 1) count (omega (arith, inside))))

-- ---- a peripheral

registers_length : (number count p : ℕ) → length (flat_map (sample_register number) (registers_of count p)) ≤ 54272
registers_length number count p =
    let last = min (64 * p + 64) count in
    let all = parts_length (sample_register number) 848 (64 * p + (last - 64 * p)) (λ j below. register_length number j) (64 * p) (last - 64 * p) (omega arith) in
    let at = ap (λ (js : List ℕ). length (flat_map (sample_register number) js)) (registers_of-between p count) in
    let few : last - 64 * p ≤ 64 = omega arith in
    omega (arith, all, at, few)

peripheral_length : (number count p : ℕ) → p < 1024 → length (sample_peripheral number count p) ≤ 54493
unfolding sample_peripheral
peripheral_length number count p below =
    in_element 54448 (codes "peripheral") _ (omega arith)
    (joined 66 54382 (element (codes "name") (codes "P" ++ decimal p)) _
    (in_element 21 (codes "name") (codes "P" ++ decimal p) (omega arith) (joined 1 20 (codes "P") (decimal p) (omega arith) (digits_of p (omega (arith, below)))))
    (joined 65 54317 (element (codes "baseAddress") (decimal (0x40000000 + 0x400 * p))) _ (number_in (codes "baseAddress") (0x40000000 + 0x400 * p) (omega arith) (omega (arith, below)))
    (in_element 54272 (codes "registers") _ (omega arith) (registers_length number count p))))

-- ---- the whole

pub text_length : (number count : ℕ) → IsCount count → length (sample_text number count) ≤ 67108864
unfolding sample_text
text_length number count is =
    let within = is.within in
    let few : div_ceil count 64 - 0 ≤ 1024 = omega (arith, within) in
    let inside = parts_length (sample_peripheral number count) 54493 1024 (peripheral_length number count) 0 (div_ceil count 64 - 0) (omega (arith, few)) in
    let inner = flat_map (sample_peripheral number count) (between 0 (div_ceil count 64)) in
    let small : length inner ≤ 55800832 = omega (arith, inside, few) in
    let rest = joined 55800832 40 inner (codes "</peripherals></device>") small (omega arith) in
    let whole = joined 40 55800872 (codes "<device><name>D</name><peripherals>") (inner ++ codes "</peripherals></device>") (omega arith) rest in
    omega (arith, whole)

line_length : (j : ℕ) → j < 65536 → length (script_line j) ≤ 77
unfolding script_line register_place
line_length j below =
    joined 43 34 (codes "P" ++ (decimal (j / 64) ++ (codes ".r" ++ decimal (j % 64)))) (codes "().modify(|_, w| w.b().bits(1));\n")
    (joined 1 42 (codes "P") (decimal (j / 64) ++ (codes ".r" ++ decimal (j % 64))) (omega arith)
    (joined 20 22 (decimal (j / 64)) (codes ".r" ++ decimal (j % 64)) (digits_of (j / 64) (omega (arith, below)))
    (joined 2 20 (codes ".r") (decimal (j % 64)) (omega arith) (digits_of (j % 64) (omega arith)))))
    (omega arith)

pub script_length : (count : ℕ) → IsCount count → length (sample_script count) ≤ 67108864
unfolding sample_script
script_length count is =
    let within = is.within in
    let inside = parts_length script_line 77 65536 line_length 0 (count - 0) (omega (arith, within)) in
    omega (arith, inside, within)
