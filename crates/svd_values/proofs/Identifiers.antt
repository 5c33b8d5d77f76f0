-- The names of a generated crate are identifiers.
use Rattle.std.proofs.Common.{◌≡◌, ◌≢◌, ℕ, zero, suc, ◌+◌, ◌/◌, ◌%◌, Bool, true, false, not, ◌&&◌, ◌||◌, ◌==◌, nat_eq, nat_lt, ◌<◌, List, [], ◌∷◌, ◌++◌, refl, sym, ap, ◌∙◌, subst, arith, bytes_eq, decimal, append-nil, append_assoc, if◌then◌else◌}
use Rattle.std.specs.Prelude.{codes, IsTrue}
use Rattle.std.specs.Char.{is_ascii_digit, to_ascii_lowercase}
use Rattle.std.specs.List.{list_all, list_any, starts_with}
use Rattle.std.specs.Fmt.{digits, digits_onto, digit_glyph}
use Rattle.std.proofs.lemmas.Bool.{or_parts, false≢true}
use Rattle.std.proofs.lemmas.Bool.Decides.{nat_tests}
use Rattle.std.proofs.lemmas.Slice.Eq.{bytes_eq-Decides}
use Rattle.pac_base.specs.Names.{IsWord, is_word_byte}
use Rattle.svd_values.specs.AccessorNames.{call_name, guarded, is_call_name, is_taken_call, is_taken_slot, plain_lower, taken_guard, without_array_mark}
use Rattle.std.specs.Str.{str_to_ascii_lowercase}
use Rattle.svd_values.specs.Identifiers.{AccessorsAreCallNames, IsCallName, IsSomeWord, MarkersAreIdentifiers, MarkersTell, SlotsAreIdentifiers, TestsAreCallNames, VariantsAreCallNames, gap_name}
use Rattle.rust_names.specs.Identifiers.{IsIdentifier, is_start}
use Rattle.rust_names.specs.Keywords.{is_keyword}
use Rattle.rust_names.specs.PreludeNames.{is_prelude_name}
use Rattle.rust_names.proofs.LastBytes.{ends_in, last_behind}
use Rattle.rust_names.proofs.TakenNames.{ends_low, no_marker}
use Rattle.svd_values.proofs.CallNames.{lower_word, plain_lower_word, some_lower, word_append}
use Rattle.svd_values.proofs.Fronts.{both_true}

-- ---- a name with its guard

record Starts (word : List ℕ) : Type 0 where
  first : ℕ
  others : List ℕ
  is : word ≡ first ∷ others
  start : is_start first ≡ true
  rest : IsWord others

starts : (name : List ℕ) → IsSomeWord name → Starts (guarded name)
starts [] some = absurd (some.1 refl)
starts (byte ∷ bytes) some = by (is_ascii_digit byte) refl
  where
    start_byte : (byte : ℕ) → is_word_byte byte ≡ true → is_ascii_digit byte ≡ false → is_start byte ≡ true
    start_byte byte word digit = grind (arith, nat_tests)

    by : (b : Bool) → is_ascii_digit byte ≡ b → Starts ((if b then codes "_" else []) ++ (byte ∷ bytes))
    by true e = record { first = 95; others = byte ∷ bytes; is = refl; start = refl; rest = some.0 }
    by false e = let parts = both_true (is_word_byte byte) (list_all is_word_byte bytes) some.0 in record { first = byte; others = bytes; is = refl; start = start_byte byte parts.0 e; rest = parts.1 }

more_behind : (word back : List ℕ) → Starts word → IsWord back → Starts (word ++ back)
more_behind word back begins is = record {
  first = begins.first;
  others = begins.others ++ back;
  is = ap (λ l. l ++ back) begins.is;
  start = begins.start;
  rest = word_append begins.others back begins.rest is;
}

all_four : (a b c d : Bool) → a ≡ true → b ≡ true → c ≡ false → d ≡ false → IsTrue (a && b && not c && not d)
all_four a b c d p q r s = rw (p, q, r, s) refl

-- an identifier: it begins as one, and is neither `_` nor a keyword
identifier : (word : List ℕ) → Starts word → bytes_eq word (codes "_") ≡ false → is_keyword word ≡ false → IsIdentifier word
identifier word begins low keyword =
    subst IsIdentifier (sym begins.is)
    (all_four (is_start begins.first) (list_all is_word_byte begins.others) (bytes_eq (begins.first ∷ begins.others) (codes "_")) (is_keyword (begins.first ∷ begins.others))
    begins.start begins.rest (ap (λ word. bytes_eq word (codes "_")) (sym begins.is) ∙ low) (ap is_keyword (sym begins.is) ∙ keyword))

-- more than one byte isn't `_`
not_low : (word : List ℕ) (byte : ℕ) → Starts word → bytes_eq (word ++ byte ∷ []) (codes "_") ≡ false
not_low word byte begins = ap (λ word. bytes_eq (word ++ byte ∷ []) (codes "_")) begins.is ∙ longer begins.first begins.others
  where
    and_false : (b : Bool) → (b && false) ≡ false
    and_false true = refl
    and_false false = refl

    longer : (first : ℕ) (others : List ℕ) → bytes_eq (first ∷ (others ++ byte ∷ [])) (codes "_") ≡ false
    longer first [] = and_false (first == 95)
    longer first (next ∷ others) = and_false (first == 95)

-- ---- gaps

-- some bytes, of which the last is no `_`
record High (word : List ℕ) : Type 0 where
  some : word ≢ []
  last : ends_in 95 word ≡ false

behind_front : (front word : List ℕ) → High word → High (front ++ word)
unfolding ends_in
behind_front [] word h = h
behind_front (byte ∷ front) word h = longer byte (front ++ word) (behind_front front word h)
  where
    longer : (byte : ℕ) (word : List ℕ) → High word → High (byte ∷ word)
    longer byte [] h = absurd (h.some refl)
    longer byte (next ∷ word) h = record { some = λ e. cc; last = h.last }

glyph_high : (d : ℕ) → d < 10 → (digit_glyph false d == 95) ≡ false
glyph_high d less = ap (λ b. (if b then 48 + d else 87 + d) == 95) is ∙ word
  where
    is : nat_lt d 10 ≡ true
    is = grind (arith, nat_tests, less)

    word : ((48 + d) == 95) ≡ false
    word = grind (arith, nat_tests, less)

digits_high : (k n : ℕ) (acc : List ℕ) → High acc → High (digits_onto k 10 false n acc)
digits_high zero n acc h = h
digits_high (suc k) n acc h = by (nat_eq (n / 10) 0) (digits_high k (n / 10) (digit_glyph false (n % 10) ∷ acc) more)
  where
    more : High (digit_glyph false (n % 10) ∷ acc)
    more = behind_front (digit_glyph false (n % 10) ∷ []) acc h

    by : (b : Bool) → High (digits_onto k 10 false (n / 10) (digit_glyph false (n % 10) ∷ acc)) → High (if b then digit_glyph false (n % 10) ∷ acc else digits_onto k 10 false (n / 10) (digit_glyph false (n % 10) ∷ acc))
    by true rest = more
    by false rest = rest

some_digits : (k n : ℕ) → High (digits_onto (suc k) 10 false n [])
unfolding ends_in
some_digits k n = by (nat_eq (n / 10) 0) (digits_high k (n / 10) (digit_glyph false (n % 10) ∷ []) one)
  where
    less : n % 10 < 10
    less = omega arith

    one : High (digit_glyph false (n % 10) ∷ [])
    one = record { some = λ e. cc; last = glyph_high (n % 10) less }

    by : (b : Bool) → High (digits_onto k 10 false (n / 10) (digit_glyph false (n % 10) ∷ [])) → High (if b then digit_glyph false (n % 10) ∷ [] else digits_onto k 10 false (n / 10) (digit_glyph false (n % 10) ∷ []))
    by true rest = one
    by false rest = rest

gap_high : (number : ℕ) → High (gap_name number)
unfolding digits
gap_high number = behind_front (codes "_reserved") (decimal number) (some_digits 63 number)

-- what ends in `_`, and what doesn't begin as a gap's name, is none
no_gap_low : (front : List ℕ) (number : ℕ) → bytes_eq (front ++ 95 ∷ []) (gap_name number) ≡ false
no_gap_low front number = by (bytes_eq (front ++ 95 ∷ []) (gap_name number)) refl
  where
    by : (b : Bool) → bytes_eq (front ++ 95 ∷ []) (gap_name number) ≡ b → b ≡ false
    by false e = refl
    by true e = absurd (false≢true (sym (gap_high number).last ∙ (ap (ends_in 95) (sym ((bytes_eq-Decides (front ++ 95 ∷ []) (gap_name number)).0 e)) ∙ last_behind 95 front)))

no_gap_begun : (name : List ℕ) (number : ℕ) → starts_with nat_eq name (codes "_reserved") ≡ false → bytes_eq name (gap_name number) ≡ false
no_gap_begun name number apart = by (bytes_eq name (gap_name number)) refl
  where
    by : (b : Bool) → bytes_eq name (gap_name number) ≡ b → b ≡ false
    by false e = refl
    by true e = absurd (false≢true (sym apart ∙ ap (λ word. starts_with nat_eq word (codes "_reserved")) ((bytes_eq-Decides name (gap_name number)).0 e)))

-- ---- calls

pub call_is : (lower : List ℕ) → IsSomeWord lower → IsCallName (call_name lower)
call_is lower some = by (is_taken_call (guarded lower)) refl
  where
    begins : Starts (guarded lower)
    begins = starts lower some

    by : (b : Bool) → is_taken_call (guarded lower) ≡ b → IsCallName (guarded lower ++ taken_guard b)
    by true e = record {
      identifier = identifier (guarded lower ++ 95 ∷ []) (more_behind (guarded lower) (95 ∷ []) begins refl) (not_low (guarded lower) 95 begins) (ends_low (guarded lower)).0;
      free = (ends_low (guarded lower)).1;
      no_gap = no_gap_low (guarded lower);
    }
    by false e =
        let last = or_parts ((is_keyword (guarded lower) || is_prelude_name (guarded lower)) || bytes_eq (guarded lower) (codes "_")) (starts_with nat_eq (guarded lower) (codes "_reserved")) e in
        let third = or_parts (is_keyword (guarded lower) || is_prelude_name (guarded lower)) (bytes_eq (guarded lower) (codes "_")) last.0 in
        let second = or_parts (is_keyword (guarded lower)) (is_prelude_name (guarded lower)) third.0 in
        subst IsCallName (sym (append-nil (guarded lower)))
        (record { identifier = identifier (guarded lower) begins third.1 second.0; free = second.1; no_gap = λ number. no_gap_begun (guarded lower) number last.1 })

pub accessors_are : AccessorsAreCallNames
accessors_are name some = call_is (str_to_ascii_lowercase (without_array_mark name)) (lower_word (without_array_mark name) some.0, some_lower (without_array_mark name) some.1)

pub variants_are : VariantsAreCallNames
variants_are text some = call_is (plain_lower text) (plain_lower_word text, some_plain_lower text some)
  where
    some_plain_lower : (text : List ℕ) → text ≢ [] → plain_lower text ≢ []
    some_plain_lower [] some = absurd (some refl)
    some_plain_lower (byte ∷ bytes) some = λ e. cc

pub tests_are : TestsAreCallNames
unfolding is_keyword is_prelude_name
tests_are text = record {
  identifier = identifier (is_call_name text) (record { first = 105; others = codes "s_" ++ plain_lower text; is = refl; start = refl; rest = word_append (codes "s_") (plain_lower text) refl (plain_lower_word text) }) refl refl;
  free = refl;
  no_gap = λ number. refl;
}

-- ---- slots and markers

pub slots_are : SlotsAreIdentifiers
slots_are name some = by (is_taken_slot (guarded name)) refl
  where
    begins : Starts (guarded name)
    begins = starts name some

    by : (b : Bool) → is_taken_slot (guarded name) ≡ b → IsIdentifier (guarded name ++ taken_guard b)
    by true e = identifier (guarded name ++ 95 ∷ []) (more_behind (guarded name) (95 ∷ []) begins refl) (not_low (guarded name) 95 begins) (ends_low (guarded name)).0
    by false e =
        let parts = or_parts (is_keyword (guarded name)) (bytes_eq (guarded name) (codes "_")) e in
        subst IsIdentifier (sym (append-nil (guarded name))) (identifier (guarded name) begins parts.1 parts.0)

pub markers_are : MarkersAreIdentifiers
markers_are name some =
    let begins = more_behind (guarded name) (95 ∷ []) (starts name some) refl in
    subst IsIdentifier (append_assoc (guarded name) (95 ∷ []) (70 ∷ []))
    (identifier ((guarded name ++ 95 ∷ []) ++ 70 ∷ []) (more_behind (guarded name ++ 95 ∷ []) (70 ∷ []) begins refl) (not_low (guarded name ++ 95 ∷ []) 70 begins) (no_marker (guarded name ++ 95 ∷ [])))

-- ---- equal names

-- a name in lower case is guarded as the name is
lower_guarded : (name : List ℕ) → guarded (str_to_ascii_lowercase name) ≡ str_to_ascii_lowercase (guarded name)
lower_guarded [] = refl
lower_guarded (byte ∷ bytes) = ap (λ b. (if b then codes "_" else []) ++ (to_ascii_lowercase byte ∷ str_to_ascii_lowercase bytes)) (same_digit byte) ∙ by (is_ascii_digit byte)
  where
    same_digit : (byte : ℕ) → is_ascii_digit (to_ascii_lowercase byte) ≡ is_ascii_digit byte
    same_digit byte = grind (arith, nat_tests)

    by : (b : Bool) → (if b then codes "_" else []) ++ (to_ascii_lowercase byte ∷ str_to_ascii_lowercase bytes) ≡ str_to_ascii_lowercase ((if b then codes "_" else []) ++ (byte ∷ bytes))
    by true = refl
    by false = refl

-- so the call of a name is told by the guarded name
call_told : List ℕ → List ℕ
call_told word = str_to_ascii_lowercase word ++ taken_guard (is_taken_call (str_to_ascii_lowercase word))

call_is_told : (name : List ℕ) → call_name (str_to_ascii_lowercase name) ≡ call_told (guarded name)
unfolding call_told
call_is_told name = ap (λ word. word ++ taken_guard (is_taken_call word)) (lower_guarded name)

drop_last : List ℕ → List ℕ
drop_last [] = []
drop_last (byte ∷ []) = []
drop_last (byte ∷ next ∷ others) = byte ∷ drop_last (next ∷ others)

front_of : (front : List ℕ) (last : ℕ) → drop_last (front ++ last ∷ []) ≡ front
unfolding drop_last
front_of [] last = refl
front_of (byte ∷ []) last = refl
front_of (byte ∷ next ∷ front) last = ap (λ l. byte ∷ l) (front_of (next ∷ front) last)

same_front : (one other : List ℕ) (last : ℕ) → one ++ last ∷ [] ≡ other ++ last ∷ [] → one ≡ other
same_front one other last same = sym (front_of one last) ∙ (ap drop_last same ∙ front_of other last)

pub markers_tell : MarkersTell
markers_tell one other same =
    let a = without_array_mark one in
    let b = without_array_mark other in
    let longer : guarded a ++ 95 ∷ [] ≡ guarded b ++ 95 ∷ [] = same_front (guarded a ++ 95 ∷ []) (guarded b ++ 95 ∷ []) 70 (append_assoc (guarded a) (95 ∷ []) (70 ∷ []) ∙ (same ∙ sym (append_assoc (guarded b) (95 ∷ []) (70 ∷ [])))) in
    call_is_told a ∙ (ap call_told (same_front (guarded a) (guarded b) 95 longer) ∙ sym (call_is_told b))
