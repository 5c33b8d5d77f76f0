-- A text has one meaning, since what it means is what is read from it, and no two forms share a text.
use Rattle.std.proofs.Common.{◌≡◌, ◌≢◌, ◌⊎◌, ℕ, List, [], ◌∷◌, ◌++◌, Bool, true, false, ◌||◌, refl, sym, ap, ◌∙◌, subst, Option, Some, inl, inr, ◌==◌, IsTrue, arith, take, drop}
use Rattle.std.specs.List.{list_all, prefix_len}
use Rattle.std.specs.Char.{is_ascii_uppercase, is_ascii_lowercase}
use Rattle.std.proofs.lemmas.Bool.Decides.{nat_tests}
use Rattle.pac_base.specs.Names.{is_word_byte}
use Rattle.svd_values.specs.declared.numeral.Digits.{Digits}
use Rattle.svd_values.specs.declared.numeral.Digits.TheVariants.{Decimal}
use Rattle.svd_values.specs.declared.index.DimIndex.TheVariants.{Numbers, Letters, Words}
use Rattle.svd_values.specs.Numbers.{IsNumber, is_digit}
use Rattle.svd_values.specs.Readers.{read_place, skip_white}
use Rattle.svd_values.specs.Indexes.{is_white, IsNumberRange, IsLetterRange, IsWordList}
use Rattle.svd_values.specs.Meanings.{HasOnePlace, HasOneIndex}
use Rattle.svd_values.proofs.CallNames.{all_append}
use Rattle.svd_values.proofs.Fronts.{both_true, front_of}
use Rattle.svd_values.proofs.IndexRanges.{first_is, numbers_exactly, letters_exactly}
use Rattle.svd_values.proofs.Ranges.{place_exactly}
use Rattle.svd_values.proofs.Spelling.{again_number}
use Rattle.svd_values.proofs.WordLists.{GoesOn, first_word}
use Rattle.svd_values.proofs.WordLists.GoesOn.{ends, goes}

same_value : {A : Type 0} (one other : A) → ◌≡◌ {A = Option A} (Some one) (Some other) → one ≡ other
same_value one other is = cc

pub one_number : (twos : Digits) (text : List ℕ) (value other : ℕ) → IsNumber twos text value → IsNumber twos text other → value ≡ other
one_number twos text value other is also = same_value value other (sym (again_number twos text value is) ∙ again_number twos text other also)

pub one_place : (text : List ℕ) → HasOnePlace text
one_place text place other is also =
    same_value place other (sym ((place_exactly text (read_place text) refl place).1 is) ∙ (place_exactly text (read_place text) refl other).1 also)

-- a byte of a list of words: no `-`
is_list_byte : ℕ → Bool
is_list_byte byte = is_word_byte byte || is_white byte || byte == 44

all_of : (test : ℕ → Bool) (front : List ℕ) (byte : ℕ) (back : List ℕ) → list_all test (front ++ (byte ∷ back)) ≡ true → test byte ≡ true
all_of test [] byte back all = (both_true (test byte) (list_all test back) all).0
all_of test (first ∷ front) byte back all = all_of test front byte back (both_true (test first) (list_all test (front ++ (byte ∷ back))) all).1

every : (test more : ℕ → Bool) → ((byte : ℕ) → test byte ≡ true → more byte ≡ true) → (bytes : List ℕ) → list_all test bytes ≡ true → list_all more bytes ≡ true
every test more then [] all = refl
every test more then (byte ∷ bytes) all =
    let each = both_true (test byte) (list_all test bytes) all in
    rw (then byte each.0) (every test more then bytes each.1)

word_in : (byte : ℕ) → is_word_byte byte ≡ true → is_list_byte byte ≡ true
unfolding is_list_byte
word_in byte is = rw is refl

middle : (a b c : Bool) → b ≡ true → (a || b || c) ≡ true
middle true b c is = refl
middle false b c is = rw is refl

white_in : (byte : ℕ) → is_white byte ≡ true → is_list_byte byte ≡ true
unfolding is_list_byte
white_in byte is = middle (is_word_byte byte) (is_white byte) (byte == 44) is

list_bytes : (text : List ℕ) (words : List (List ℕ)) → IsWordList text words → list_all is_list_byte text ≡ true
unfolding is_list_byte
list_bytes text [] is = absurd is
list_bytes text (word ∷ []) is = rw is.0 (every is_word_byte is_list_byte word_in word is.1.letters)
list_bytes text (word ∷ (next ∷ words)) (rest, before, more) =
    rw before.whole
    (all_append is_list_byte word (44 ∷ (before.gap ++ rest)) (every is_word_byte is_list_byte word_in word before.full.letters)
    (all_append is_list_byte before.gap rest (every is_white is_list_byte white_in before.gap before.white) (list_bytes rest (next ∷ words) more)))

no_dash : (text before behind : List ℕ) (words : List (List ℕ)) → text ≡ before ++ (45 ∷ behind) → IsWordList text words → ⊥
unfolding is_list_byte
no_dash text before behind words whole is =
    let no : false ≡ true = all_of is_list_byte before 45 behind (rw whole at (list_bytes text words is)) in not_true no
  where
    not_true : false ≡ true → ⊥
    not_true e = cc

letter_no_digit : (byte : ℕ) → (IsTrue (is_ascii_uppercase byte)) ⊎ (IsTrue (is_ascii_lowercase byte)) → is_digit Decimal byte ≡ false
letter_no_digit byte (inl is) = grind (arith, nat_tests)
letter_no_digit byte (inr is) = grind (arith, nat_tests)

first_digit : (before : List ℕ) (first dash last : ℕ) (behind : List ℕ) → before ≢ [] → list_all (is_digit Decimal) before ≡ true → before ++ (45 ∷ behind) ≡ first ∷ (dash ∷ (last ∷ [])) → is_digit Decimal first ≡ true
first_digit [] first dash last behind some all is = absurd (some refl)
first_digit (digit ∷ before) first dash last behind some all is =
    let same : digit ≡ first = cc in ap (is_digit Decimal) (sym same) ∙ (both_true (is_digit Decimal digit) (list_all (is_digit Decimal) before) all).0

first_case : (first last : ℕ) → (IsTrue (is_ascii_uppercase first) × IsTrue (is_ascii_uppercase last)) ⊎ (IsTrue (is_ascii_lowercase first) × IsTrue (is_ascii_lowercase last)) → (IsTrue (is_ascii_uppercase first)) ⊎ (IsTrue (is_ascii_lowercase first))
first_case first last (inl is) = inl is.0
first_case first last (inr is) = inr is.0

no_letters : (text : List ℕ) (first last one two : ℕ) → IsNumberRange text first last → IsLetterRange text one two → ⊥
no_letters text first last one two is also =
    let digit : is_digit Decimal one ≡ true = first_digit is.before one 45 two is.behind is.starts.some is.starts.each (sym is.whole ∙ also.whole) in
    let letter : is_digit Decimal one ≡ false = letter_no_digit one (first_case one two also.one_case) in
    not_both digit letter
  where
    not_both : is_digit Decimal one ≡ true → is_digit Decimal one ≡ false → ⊥
    not_both e f = cc

tails : (behind other : List ℕ) → ◌≡◌ {A = List ℕ} (44 ∷ behind) (44 ∷ other) → behind ≡ other
tails behind other e = cc

no_comma : (after behind : List ℕ) → after ≡ [] → after ≡ 44 ∷ behind → ⊥
no_comma after behind none comma = cc

rest_is : (first word : List ℕ) (words more : List (List ℕ)) → first ∷ words ≡ word ∷ more → (first ≡ word) × (words ≡ more)
rest_is first word words more e = (cc, cc)

same_lists : (after word first : List ℕ) (words other : List (List ℕ)) → GoesOn after word (first ∷ words) → GoesOn after word other
    → ((rest : List ℕ) (more : List (List ℕ)) → IsWordList rest words → IsWordList rest more → words ≡ more) → first ∷ words ≡ other
same_lists after word first words other (ends none one) (ends nothing two) again = one ∙ sym two
same_lists after word first words other (ends none one) (goes behind more comma two is) again = absurd (no_comma after behind none comma)
same_lists after word first words other (goes behind more comma one is) (ends none two) again = absurd (no_comma after behind none comma)
same_lists after word first words other (goes behind more comma one is) (goes tail most dash two also) again =
    let heads = rest_is first word words more one in
    let same : words ≡ most =
    again (skip_white behind) most (subst (IsWordList (skip_white behind)) (sym heads.1) is)
    (subst (λ t. IsWordList (skip_white t) most) (tails tail behind (sym dash ∙ comma)) also) in
    (λ i. heads.0 i ∷ same i) ∙ sym two

pub one_list : (text : List ℕ) (words other : List (List ℕ)) → IsWordList text words → IsWordList text other → words ≡ other
one_list text [] other is also = absurd is
one_list text (first ∷ words) other is also =
    let word = take (prefix_len is_word_byte text) text in
    let after = drop (prefix_len is_word_byte text) text in
    let front = front_of is_word_byte text in
    same_lists after word first words other (first_word text word after (first ∷ words) front is).1 (first_word text word after other front also).1 (λ rest more here there. one_list rest words more here there)

pub one_index : (text : List ℕ) → HasOneIndex text
one_index text (Numbers a b) (Numbers c d) is also =
    let same = first_is a b c d (sym ((numbers_exactly text a b).1 is) ∙ (numbers_exactly text c d).1 also) in
    λ i. Numbers (same.0 i) (same.1 i)
one_index text (Numbers a b) (Letters c d) is also = absurd (no_letters text a b c d is also)
one_index text (Numbers a b) (Words words) is also = absurd (no_dash text is.before is.behind words is.whole also)
one_index text (Letters a b) (Numbers c d) is also = absurd (no_letters text c d a b also is)
one_index text (Letters a b) (Letters c d) is also =
    let same = first_is a b c d (sym ((letters_exactly text a b).1 is) ∙ (letters_exactly text c d).1 also) in
    λ i. Letters (same.0 i) (same.1 i)
one_index text (Letters a b) (Words words) is also = absurd (no_dash text (a ∷ []) (b ∷ []) words is.whole also)
one_index text (Words words) (Numbers c d) is also = absurd (no_dash text also.before also.behind words also.whole is)
one_index text (Words words) (Letters c d) is also = absurd (no_dash text (c ∷ []) (d ∷ []) words also.whole is)
one_index text (Words words) (Words other) is also = ap Words (one_list text words other is also)
