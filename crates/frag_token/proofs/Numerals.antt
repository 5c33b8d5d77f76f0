-- The words that are numerals: exactly those that are printed for their number.
use Rattle.std.proofs.Common.{ℕ, zero, suc, ◌≡◌, ◌<◌, ◌/◌, ◌%◌, arith, List, [], ◌∷◌, drop, Bool, true, false, Some, None, refl, sym, ap, ◌∙◌, inl, inr}
use Rattle.std.specs.Prelude.{◌&&◌, ◌==◌, ◌^◌, nat_lt, codes, if◌then◌else◌}
use Rattle.std.specs.Fmt.{digits, digits_onto, digit_glyph}
use Rattle.std.specs.List.{list_all}
use Rattle.std.specs.Str.{bytes_eq}
use Rattle.std.proofs.lemmas.Bool.{cases_Bool}
use Rattle.std.proofs.lemmas.Bool.Decides.{nat_tests}
use Rattle.std.proofs.lemmas.Slice.Eq.{bytes_eq-Decides}
use Rattle.text_scan.specs.Classes.{has}
use Rattle.text_scan.specs.Fronts.{stripped_of}
use Rattle.text_scan.specs.Numbers.{are_digits, base_of, digits_of, number_of, value_of}
use Rattle.text_scan.specs.declared.radix.Radix.{Radix}
use Rattle.text_scan.specs.declared.radix.Radix.TheVariants.{Decimal, Hexadecimal}
use Rattle.text_scan.proofs.FixedText.{stripped-append, stripped-Some}
use Rattle.text_scan.proofs.Steps.{guard_some}
use Rattle.frag_words.specs.Words.{Word}
use Rattle.frag_words.proofs.Readings.{both, both_right}
use Rattle.frag_tree.specs.Numerals.{decimal_word, hexadecimal_word}
use Rattle.frag_tree.specs.Productions.{numeral_at}
use Rattle.frag_tree.specs.Validity.{is_number}
use Rattle.frag_token.specs.Reading.{decimal_of, hexadecimal_of}

-- ---- what is printed are digits

glyph_digit : (radix : Radix) (d : ℕ) → d < base_of radix → has (digits_of radix) (digit_glyph false d) ≡ true
unfolding has
glyph_digit Decimal d small = grind (arith, nat_tests, small)
glyph_digit Hexadecimal d small = grind (arith, nat_tests, small)

low : (radix : Radix) (n : ℕ) → n % base_of radix < base_of radix
low Decimal n = omega arith
low Hexadecimal n = omega arith

onto_either : (radix : Radix) (last : Bool) (one other : List ℕ) → are_digits radix one ≡ true → are_digits radix other ≡ true → are_digits radix (if last then one else other) ≡ true
onto_either radix true one other h k = h
onto_either radix false one other h k = k

onto_digits : (radix : Radix) (k n d : ℕ) (acc : List ℕ) → are_digits radix (d ∷ acc) ≡ true → are_digits radix (digits_onto k (base_of radix) false n (d ∷ acc)) ≡ true
onto_digits radix zero n d acc so_far = so_far
onto_digits radix (suc k) n d acc so_far =
    let glyph = digit_glyph false (n % base_of radix) in
    let more : are_digits radix (glyph ∷ (d ∷ acc)) ≡ true = both (has (digits_of radix) glyph) (list_all (has (digits_of radix)) (d ∷ acc)) (glyph_digit radix (n % base_of radix) (low radix n)) so_far in
    onto_either radix (n / base_of radix == 0) (glyph ∷ (d ∷ acc)) (digits_onto k (base_of radix) false (n / base_of radix) (glyph ∷ (d ∷ acc))) more (onto_digits radix k (n / base_of radix) glyph (d ∷ acc) more)

printed_digits : (radix : Radix) (n : ℕ) → are_digits radix (digits (base_of radix) false n) ≡ true
unfolding digits
printed_digits radix n =
    let glyph = digit_glyph false (n % base_of radix) in
    let one : are_digits radix (glyph ∷ []) ≡ true = both (has (digits_of radix) glyph) true (glyph_digit radix (n % base_of radix) (low radix n)) refl in
    onto_either radix (n / base_of radix == 0) (glyph ∷ []) (digits_onto 63 (base_of radix) false (n / base_of radix) (glyph ∷ [])) one (onto_digits radix 63 (n / base_of radix) glyph [] one)

-- ---- the number of digits

number_some : (radix : Radix) (text : List ℕ) (n : ℕ) → number_of radix text ≡ Some n → (is_number n ≡ true) × (value_of (base_of radix) text ≡ n)
unfolding number_of
number_some radix text n e =
    let hit = guard_some (are_digits radix text && nat_lt (value_of (base_of radix) text) (2 ^ 64)) (value_of (base_of radix) text) n e in
    (ap is_number (sym hit.1) ∙ both_right (are_digits radix text) (nat_lt (value_of (base_of radix) text) (2 ^ 64)) hit.0, hit.1)

-- digits that stand for no number below 2^64
number_none : (radix : Radix) (text : List ℕ) → number_of radix text ≡ None → are_digits radix text ≡ true → is_number (value_of (base_of radix) text) ≡ false
unfolding number_of
number_none radix text e digits_are =
    elim (cases_Bool (is_number (value_of (base_of radix) text))) [
      | inl small ↦ absurd (let found : Some (value_of (base_of radix) text) ≡ None = sym (ap (λ (test : Bool). if test then Some (value_of (base_of radix) text) else None) (both (are_digits radix text) (nat_lt (value_of (base_of radix) text) (2 ^ 64)) digits_are small)) ∙ e in cc)
      | inr large ↦ large
    ]

-- ---- a numeral

numeral_if : (spell : ℕ → Word) (number : ℕ) (word : Word) (test : Bool) → (bytes_eq word (spell number) && is_number number) ≡ test → numeral_at spell number word ≡ (if test then Some number else None)
numeral_if spell number word test e = ap (λ (t : Bool). if t then Some number else None) e

false_left : (x y : Bool) → x ≡ false → (x && y) ≡ false
false_left true y h = absurd cc
false_left false y h = refl

false_right : (x y : Bool) → y ≡ false → (x && y) ≡ false
false_right true y h = h
false_right false y h = refl

numeral_same : (spell : ℕ → Word) (value number : ℕ) (word : Word) (same : Bool) → value ≡ number → is_number number ≡ true → same ≡ bytes_eq word (spell number) → true ≡ same → Some number ≡ numeral_at spell value word
numeral_same spell value number word same is valid tested agrees =
    sym (ap (λ v. numeral_at spell v word) is ∙ numeral_if spell number word true (both (bytes_eq word (spell number)) (is_number number) (sym (agrees ∙ tested)) valid))

numeral_other : (spell : ℕ → Word) (value number : ℕ) (word : Word) (same : Bool) → value ≡ number → same ≡ bytes_eq word (spell number) → false ≡ same → None ≡ numeral_at spell value word
numeral_other spell value number word same is tested differs =
    sym (ap (λ v. numeral_at spell v word) is ∙ numeral_if spell number word false (false_left (bytes_eq word (spell number)) (is_number number) (sym (differs ∙ tested))))

-- no numeral, where the word would be one that is printed
numeral_none : (spell : ℕ → Word) (value : ℕ) (word : Word) → (word ≡ spell value → is_number value ≡ false) → None ≡ numeral_at spell value word
numeral_none spell value word refused =
    elim (cases_Bool (bytes_eq word (spell value))) [
      | inl same ↦ sym (numeral_if spell value word false (false_right (bytes_eq word (spell value)) (is_number value) (refused ((bytes_eq-Decides word (spell value)).0 same))))
      | inr other ↦ sym (numeral_if spell value word false (false_left (bytes_eq word (spell value)) (is_number value) other))
    ]

-- ---- decimal

pub decimal_yes : (word : Word) (number : ℕ) (same : Bool) → number_of Decimal word ≡ Some number → same ≡ bytes_eq word (decimal_word number) → true ≡ same → Some number ≡ decimal_of word
unfolding decimal_of
decimal_yes word number same e tested agrees = let hit = number_some Decimal word number e in numeral_same decimal_word (value_of 10 word) number word same hit.1 hit.0 tested agrees

pub decimal_no : (word : Word) (number : ℕ) (same : Bool) → number_of Decimal word ≡ Some number → same ≡ bytes_eq word (decimal_word number) → false ≡ same → None ≡ decimal_of word
unfolding decimal_of
decimal_no word number same e tested differs = let hit = number_some Decimal word number e in numeral_other decimal_word (value_of 10 word) number word same hit.1 tested differs

pub decimal_none : (word : Word) → number_of Decimal word ≡ None → None ≡ decimal_of word
unfolding decimal_of
decimal_none word e = numeral_none decimal_word (value_of 10 word) word (λ same. number_none Decimal word e (ap (are_digits Decimal) same ∙ printed_digits Decimal (value_of 10 word)))

-- ---- hexadecimal

digits_dropped : (word text : Word) → stripped_of (codes "0x") word ≡ Some text → drop 2 word ≡ text
digits_dropped word text e = ap (drop 2) (stripped-Some (codes "0x") word text e)

pub hexadecimal_yes : (word text : Word) (number : ℕ) (same : Bool) → stripped_of (codes "0x") word ≡ Some text → number_of Hexadecimal text ≡ Some number → same ≡ bytes_eq word (hexadecimal_word number) → true ≡ same → Some number ≡ hexadecimal_of word
unfolding hexadecimal_of
hexadecimal_yes word text number same strips e tested agrees =
    let hit = number_some Hexadecimal text number e in numeral_same hexadecimal_word (value_of 16 (drop 2 word)) number word same (ap (value_of 16) (digits_dropped word text strips) ∙ hit.1) hit.0 tested agrees

pub hexadecimal_no : (word text : Word) (number : ℕ) (same : Bool) → stripped_of (codes "0x") word ≡ Some text → number_of Hexadecimal text ≡ Some number → same ≡ bytes_eq word (hexadecimal_word number) → false ≡ same → None ≡ hexadecimal_of word
unfolding hexadecimal_of
hexadecimal_no word text number same strips e tested differs =
    let hit = number_some Hexadecimal text number e in numeral_other hexadecimal_word (value_of 16 (drop 2 word)) number word same (ap (value_of 16) (digits_dropped word text strips) ∙ hit.1) tested differs

pub hexadecimal_none : (word text : Word) → stripped_of (codes "0x") word ≡ Some text → number_of Hexadecimal text ≡ None → None ≡ hexadecimal_of word
unfolding hexadecimal_of
hexadecimal_none word text strips e =
    let dropped = digits_dropped word text strips in
    numeral_none hexadecimal_word (value_of 16 (drop 2 word)) word (λ same.
    let is_printed : text ≡ digits 16 false (value_of 16 (drop 2 word)) = sym dropped ∙ ap (drop 2) same in
    ap (λ (bytes : List ℕ). is_number (value_of 16 bytes)) dropped ∙ number_none Hexadecimal text e (ap (are_digits Hexadecimal) is_printed ∙ printed_digits Hexadecimal (value_of 16 (drop 2 word))))

pub hexadecimal_bare : (word : Word) → stripped_of (codes "0x") word ≡ None → None ≡ hexadecimal_of word
unfolding hexadecimal_of
hexadecimal_bare word bare =
    numeral_none hexadecimal_word (value_of 16 (drop 2 word)) word (λ same. absurd (
    let found : Some (digits 16 false (value_of 16 (drop 2 word))) ≡ None = sym (ap (stripped_of (codes "0x")) same ∙ stripped-append (codes "0x") (digits 16 false (value_of 16 (drop 2 word)))) ∙ bare in cc))
