-- A text parted at commas is a list of words exactly where each part is a word, behind white space or none.
use Rattle.std.proofs.Common.{◌≡◌, ◌↔◌, ℕ, List, [], ◌∷◌, ◌++◌, map, Bool, true, false, ◌&&◌, ◌==◌, not, take, refl, sym, ap, subst, ◌∙◌, arith, append_assoc, Option, Some, None, IsTrue, ◌⊎◌, inl, inr, ⊎_elim}
use Rattle.std.proofs.lemmas.Bool.Decides.{nat_tests}
use Rattle.std.specs.List.{list_all, prefix_len}
use Rattle.pac_base.specs.Names.{is_word_byte, IsWord}
use Rattle.svd_values.specs.declared.index.DimIndex.{DimIndex}
use Rattle.svd_values.specs.declared.index.DimIndex.TheVariants.{Numbers, Letters, Words}
use Rattle.svd_values.specs.Indexes.{is_white, IsFullWord, IsWordList, IsIndex}
use Rattle.svd_values.specs.Readers.{skip_white, read_numbers, read_letters}
use Rattle.svd_values.proofs.Fronts.{front_of, front_is}
use Rattle.svd_values.proofs.IndexRanges.{numbers_exactly, letters_exactly, no_index}
use Rattle.svd_values.proofs.Meanings.{one_index}
use Rattle.svd_keys.specs.Forms.{parts_of, onto_first, is_full_word, after_commas, words_of, index_of}

-- ---- parts

-- a part, and those behind marks
abbrev pub joined : ℕ → List ℕ → List (List ℕ) → List ℕ
joined mark part [] = part
joined mark part (next ∷ parts) = part ++ mark ∷ joined mark next parts

-- parts that a text has, at least one
abbrev pub first_of : List (List ℕ) → List ℕ
first_of [] = []
first_of (part ∷ parts) = part

abbrev pub rest_of : List (List ℕ) → List (List ℕ)
rest_of [] = []
rest_of (part ∷ parts) = parts

-- no byte of it is the mark
abbrev pub IsFree : ℕ → List ℕ → Type 0
IsFree mark text = list_all (λ byte. not (byte == mark)) text ≡ true

onto-first : (byte : ℕ) (parts : List (List ℕ)) → onto_first byte parts ≡ (byte ∷ first_of parts) ∷ rest_of parts
unfolding onto_first
onto-first byte [] = refl
onto-first byte (part ∷ parts) = refl

parts-some : (mark : ℕ) (text : List ℕ) → parts_of mark text ≡ first_of (parts_of mark text) ∷ rest_of (parts_of mark text)
unfolding parts_of
parts-some mark [] = refl
parts-some mark (byte ∷ text) = at (byte == mark) refl
  where
    at : (is : Bool) → (byte == mark) ≡ is → parts_of mark (byte ∷ text) ≡ first_of (parts_of mark (byte ∷ text)) ∷ rest_of (parts_of mark (byte ∷ text))
    at true is = rw is refl
    at false is = rw (is, onto-first byte (parts_of mark text)) refl

-- behind a part without mark
pub parts-behind : (mark : ℕ) (part text : List ℕ) → IsFree mark part → parts_of mark (part ++ mark ∷ text) ≡ part ∷ parts_of mark text
unfolding parts_of
parts-behind mark [] text free = rw (same mark) refl
  where
    same : (n : ℕ) → (n == n) ≡ true
    same n = grind (arith, nat_tests)
parts-behind mark (byte ∷ part) text free =
    let both = split (not (byte == mark)) (list_all (λ other. not (other == mark)) part) free in
    rw (isnt (byte == mark) both.0) (ap (onto_first byte) (parts-behind mark part text both.1) ∙ onto-first byte (part ∷ parts_of mark text))
  where
    isnt : (is : Bool) → not is ≡ true → is ≡ false
    isnt true e = cc
    isnt false e = refl

    split : (a b : Bool) → (a && b) ≡ true → (a ≡ true) × (b ≡ true)
    split true b is = (refl, is)
    split false b is = cc

joined-front : (mark : ℕ) (front back : List ℕ) (parts : List (List ℕ)) → joined mark (front ++ back) parts ≡ front ++ joined mark back parts
joined-front mark front back [] = refl
joined-front mark front back (next ∷ parts) = append_assoc front back (mark ∷ joined mark next parts)

joined-next : (byte mark : ℕ) (text : List ℕ) (is : Bool) → (byte == mark) ≡ is → joined mark (first_of (parts_of mark text)) (rest_of (parts_of mark text)) ≡ text
    → joined mark (first_of (parts_of mark (byte ∷ text))) (rest_of (parts_of mark (byte ∷ text))) ≡ byte ∷ text
unfolding parts_of
joined-next byte mark text true is whole =
    rw is
    (ap (joined mark []) (parts-some mark text) ∙ ap (λ more. mark ∷ more) whole ∙ ap (λ n. n ∷ text) (sym (same byte mark is)))
  where
    same : (m n : ℕ) → (m == n) ≡ true → m ≡ n
    same m n e = grind (arith, nat_tests)
joined-next byte mark text false is whole =
    rw is
    (ap (λ parts. joined mark (first_of parts) (rest_of parts)) (onto-first byte (parts_of mark text))
    ∙ joined-front mark (byte ∷ []) (first_of (parts_of mark text)) (rest_of (parts_of mark text))
    ∙ ap (λ more. byte ∷ more) whole)

-- the parts of a text make the text
pub parts-whole : (mark : ℕ) (text : List ℕ) → joined mark (first_of (parts_of mark text)) (rest_of (parts_of mark text)) ≡ text
unfolding parts_of
parts-whole mark [] = refl
parts-whole mark (byte ∷ text) = joined-next byte mark text (byte == mark) refl (parts-whole mark text)

-- a text without mark is one part
pub parts-free : (mark : ℕ) (text : List ℕ) → IsFree mark text → parts_of mark text ≡ text ∷ []
unfolding parts_of
parts-free mark [] free = refl
parts-free mark (byte ∷ text) free =
    let both = split (not (byte == mark)) (list_all (λ other. not (other == mark)) text) free in
    rw (isnt (byte == mark) both.0) (ap (onto_first byte) (parts-free mark text both.1) ∙ onto-first byte (text ∷ []))
  where
    isnt : (is : Bool) → not is ≡ true → is ≡ false
    isnt true e = cc
    isnt false e = refl

    split : (a b : Bool) → (a && b) ≡ true → (a ≡ true) × (b ≡ true)
    split true b is = (refl, is)
    split false b is = cc

-- in front of the first part stands what holds no mark
parts-front : (mark : ℕ) (front text : List ℕ) → IsFree mark front → parts_of mark (front ++ text) ≡ (front ++ first_of (parts_of mark text)) ∷ rest_of (parts_of mark text)
unfolding parts_of
parts-front mark [] text free = parts-some mark text
parts-front mark (byte ∷ front) text free =
    let both = split (not (byte == mark)) (list_all (λ other. not (other == mark)) front) free in
    rw (isnt (byte == mark) both.0)
    (ap (onto_first byte) (parts-front mark front text both.1) ∙ onto-first byte ((front ++ first_of (parts_of mark text)) ∷ rest_of (parts_of mark text)))
  where
    isnt : (is : Bool) → not is ≡ true → is ≡ false
    isnt true e = cc
    isnt false e = refl

    split : (a b : Bool) → (a && b) ≡ true → (a ≡ true) × (b ≡ true)
    split true b is = (refl, is)
    split false b is = cc

-- ---- words

full-is : (word : List ℕ) → is_full_word word ≡ true → IsFullWord word
full-is [] is = cc
full-is (byte ∷ word) is = record { some = λ e. cc; letters = is }

is-full : (word : List ℕ) → IsFullWord word → is_full_word word ≡ true
is-full [] is = absurd (is.some refl)
is-full (byte ∷ word) is = is.letters

both_are : (a b : Bool) → (a && b) ≡ true → (a ≡ true) × (b ≡ true)
both_are true b is = (refl, is)
both_are false b is = cc

both_true : (a b : Bool) → a ≡ true → b ≡ true → (a && b) ≡ true
both_true a b e f = rw (e, f) refl

words-sound : (part : List ℕ) (parts : List (List ℕ)) → list_all is_full_word (part ∷ map skip_white parts) ≡ true → IsWordList (joined 44 part parts) (part ∷ map skip_white parts)
unfolding skip_white
words-sound part [] all = (refl, full-is part (both_are (is_full_word part) true all).0)
words-sound part (next ∷ parts) all =
    let each = both_are (is_full_word part) (list_all is_full_word (skip_white next ∷ map skip_white parts)) all in
    let front = front_of is_white next in (
      joined 44 (skip_white next) parts,
      record {
        gap = take (prefix_len is_white next) next;
        whole = ap (λ more. part ++ 44 ∷ more) (ap (λ text. joined 44 text parts) front.whole ∙ joined-front 44 (take (prefix_len is_white next) next) (skip_white next) parts);
        full = full-is part each.0;
        white = front.begins;
      },
      words-sound (skip_white next) parts each.1,
    )

word-free : (word : List ℕ) → IsWord word → IsFree 44 word
word-free [] is = refl
word-free (byte ∷ word) is =
    let each = both_are (is_word_byte byte) (list_all is_word_byte word) is in
    both_true (not (byte == 44)) (list_all (λ other. not (other == 44)) word) (no_comma byte each.0) (word-free word each.1)
  where
    no_comma : (b : ℕ) → is_word_byte b ≡ true → not (b == 44) ≡ true
    no_comma b e = grind (arith, nat_tests)

white-free : (gap : List ℕ) → IsTrue (list_all is_white gap) → IsFree 44 gap
white-free [] is = refl
white-free (byte ∷ gap) is =
    let each = both_are (is_white byte) (list_all is_white gap) is in
    both_true (not (byte == 44)) (list_all (λ other. not (other == 44)) gap) (no_comma byte each.0) (white-free gap each.1)
  where
    no_comma : (b : ℕ) → is_white b ≡ true → not (b == 44) ≡ true
    no_comma b e = grind (arith, nat_tests)

-- a word behind white space, without that
word-skipped : (gap word : List ℕ) → IsTrue (list_all is_white gap) → is_full_word word ≡ true → skip_white (gap ++ word) ≡ word
unfolding skip_white
word-skipped gap [] white is = cc
word-skipped gap (byte ∷ word) white is =
    (front_is is_white (gap ++ byte ∷ word) gap (byte ∷ word) refl white (no_white byte (both_are (is_word_byte byte) (list_all is_word_byte word) is).0)).1
  where
    no_white : (b : ℕ) → is_word_byte b ≡ true → is_white b ≡ false
    no_white b e = grind (arith, nat_tests)

-- what a text's list of words is
abbrev pub AreWords : List ℕ → List (List ℕ) → Type 0
AreWords text words = (after_commas (parts_of 44 text) ≡ words) × (list_all is_full_word words ≡ true)

tails : (one other : List ℕ) (ones others : List (List ℕ)) → one ∷ ones ≡ other ∷ others → (one ≡ other) × (ones ≡ others)
tails one other ones others e = (cc, cc)

words-next : (text word gap rest next : List ℕ) (words : List (List ℕ)) → text ≡ word ++ 44 ∷ (gap ++ rest) → IsFullWord word → IsTrue (list_all is_white gap) → AreWords rest (next ∷ words) → AreWords text (word ∷ (next ∷ words))
unfolding after_commas
words-next text word gap rest next words whole full white (are, each) =
    let first = first_of (parts_of 44 rest) in
    let others = rest_of (parts_of 44 rest) in
    let same = tails first next (map skip_white others) words (sym (ap after_commas (parts-some 44 rest)) ∙ are) in
    let begins : is_full_word first ≡ true = ap is_full_word same.0 ∙ (both_are (is_full_word next) (list_all is_full_word words) each).0 in
    let parted : parts_of 44 text ≡ word ∷ ((gap ++ first) ∷ others) =
    ap (parts_of 44) whole ∙ parts-behind 44 word (gap ++ rest) (word-free word full.letters) ∙ ap (λ parts. word ∷ parts) (parts-front 44 gap rest (white-free gap white)) in (
      ap after_commas parted ∙ (λ i. word ∷ ((word-skipped gap first white begins ∙ same.0) i ∷ same.1 i)),
      both_true (is_full_word word) (list_all is_full_word (next ∷ words)) (is-full word full) each,
    )

words-again : (words : List (List ℕ)) (text : List ℕ) → IsWordList text words → AreWords text words
unfolding after_commas
words-again [] text is = absurd is
words-again (word ∷ []) text (is, full) =
    (ap after_commas (ap (parts_of 44) is ∙ parts-free 44 word (word-free word full.letters)), both_true (is_full_word word) true (is-full word full) refl)
words-again (word ∷ (next ∷ words)) text (rest, before, more) = words-next text word before.gap rest next words before.whole before.full before.white (words-again (next ∷ words) rest more)

words-read : (text : List ℕ) (is : Bool) → list_all is_full_word (after_commas (parts_of 44 text)) ≡ is → (words : List (List ℕ)) → words_of text ≡ Some words → IsWordList text words
unfolding words_of after_commas
words-read text true is words read =
    let first = first_of (parts_of 44 text) in
    let others = rest_of (parts_of 44 text) in
    let parted : after_commas (parts_of 44 text) ≡ first ∷ map skip_white others = ap after_commas (parts-some 44 text) in
    let same : after_commas (parts_of 44 text) ≡ words = some_is (after_commas (parts_of 44 text)) words (rw is at read) in
    subst (IsWordList text) (sym parted ∙ same)
    (subst (λ whole. IsWordList whole (first ∷ map skip_white others)) (parts-whole 44 text) (words-sound first others (ap (list_all is_full_word) (sym parted) ∙ is)))
  where
    some_is : (one other : List (List ℕ)) → Some one ≡ Some other → one ≡ other
    some_is one other e = cc
words-read text false is words read = absurd (none_some words (rw is at read))
  where
    none_some : (other : List (List ℕ)) → None ≡ Some other → ⊥
    none_some other e = cc

pub words-exactly : (text : List ℕ) (words : List (List ℕ)) → (words_of text ≡ Some words) ↔ IsWordList text words
unfolding words_of
words-exactly text words = (
  words-read text (list_all is_full_word (after_commas (parts_of 44 text))) refl words,
  (λ is. let are = words-again words text is in rw (are.0, are.1) refl),
)

-- ---- indexes

numbers-first : (text : List ℕ) (range : ℕ × ℕ) → read_numbers text ≡ Some range → index_of text ≡ Some (Numbers range.0 range.1)
unfolding index_of
numbers-first text range is = rw is refl

letters-then : (text : List ℕ) (range : ℕ × ℕ) → read_numbers text ≡ None → read_letters text ≡ Some range → index_of text ≡ Some (Letters range.0 range.1)
unfolding index_of
letters-then text range none is = rw (none, is) refl

words-then : (text : List ℕ) (words : List (List ℕ)) → read_numbers text ≡ None → read_letters text ≡ None → words_of text ≡ Some words → index_of text ≡ Some (Words words)
unfolding index_of
words-then text words none nothing is = rw (none, nothing, is) refl

none-then : (text : List ℕ) → read_numbers text ≡ None → read_letters text ≡ None → words_of text ≡ None → index_of text ≡ None
unfolding index_of
none-then text none nothing nowhere = rw (none, nothing, nowhere) refl

-- a text that is an index gives one, which is it; one that is none gives none
gives : (text : List ℕ) (numbers letters : Option (ℕ × ℕ)) (words : Option (List (List ℕ))) → read_numbers text ≡ numbers → read_letters text ≡ letters → words_of text ≡ words
    → ((index : DimIndex) × (index_of text ≡ Some index) × IsIndex text index) ⊎ ((index_of text ≡ None) × ((index : DimIndex) → IsIndex text index → ⊥))
gives text (Some range) letters words is also more = inl (Numbers range.0 range.1, numbers-first text range is, (numbers_exactly text range.0 range.1).0 is)
gives text None (Some range) words is also more = inl (Letters range.0 range.1, letters-then text range is also, (letters_exactly text range.0 range.1).0 also)
gives text None None (Some words) is also more = inl (Words words, words-then text words is also more, (words-exactly text words).0 more)
gives text None None None is also more =
    inr (none-then text is also more, no_index text (sym is) (sym also) (λ words are. none_some words (sym more ∙ (words-exactly text words).1 are)))
  where
    none_some : (other : List (List ℕ)) → None ≡ Some other → ⊥
    none_some other e = cc

pub index-again : (text : List ℕ) (index : DimIndex) → IsIndex text index → Some index ≡ index_of text
index-again text index is =
    ⊎_elim (λ found. ap Some (one_index text index found.0 is found.2) ∙ sym found.1) (λ nothing. absurd (nothing.1 index is))
    (gives text (read_numbers text) (read_letters text) (words_of text) refl refl refl)

pub index-none : (text : List ℕ) → ((index : DimIndex) → IsIndex text index → ⊥) → None ≡ index_of text
index-none text isnt =
    ⊎_elim (λ found. absurd (isnt found.0 found.2)) (λ nothing. sym nothing.0)
    (gives text (read_numbers text) (read_letters text) (words_of text) refl refl refl)

found_index : (text : List ℕ) (index : DimIndex) → ((other : DimIndex) × (index_of text ≡ Some other) × IsIndex text other) ⊎ ((index_of text ≡ None) × ((other : DimIndex) → IsIndex text other → ⊥)) → index_of text ≡ Some index
    → IsIndex text index
found_index text index (inl (other, is, means)) found = subst (IsIndex text) (some_is (sym is ∙ found)) means
  where
    some_is : Some other ≡ Some index → other ≡ index
    some_is e = cc
found_index text index (inr (none, isnt)) found = absurd (none_some (sym none ∙ found))
  where
    none_some : None ≡ Some index → ⊥
    none_some e = cc

pub index-exactly : (text : List ℕ) (index : DimIndex) → (index_of text ≡ Some index) ↔ IsIndex text index
index-exactly text index = (
  found_index text index (gives text (read_numbers text) (read_letters text) (words_of text) refl refl refl),
  λ is. sym (index-again text index is),
)
