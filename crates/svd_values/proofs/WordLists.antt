-- A list of words is read word by word: the word at its front, and the list behind the comma.
use Rattle.std.proofs.Common.{◌≡◌, ◌≢◌, ℕ, ◌<◌, List, [], ◌∷◌, ◌++◌, length, take, drop, Bool, true, false, refl, sym, ap, ◌∙◌, subst, arith, Some, append_assoc, append-nil, length-append, length-drop, IsTrue}
use Rattle.std.specs.Prelude.{slice_get}
use Rattle.std.specs.List.{list_all, prefix_len}
use Rattle.std.proofs.lemmas.Bool.Decides.{nat_tests}
use Rattle.pac_base.specs.Names.{is_word_byte}
use Rattle.svd_values.specs.Indexes.{is_white, IsFullWord, IsWordList}
use Rattle.svd_values.specs.Readers.{skip_white}
use Rattle.svd_values.proofs.Fronts.{Stops, IsFront, front_of, front_is, one_front, both_true}

-- the bytes at the front, as a split gives them
pub front_at : (test : ℕ → Bool) (text front back : List ℕ) (count : ℕ) → count ≡ prefix_len test text → front ≡ take count text → back ≡ drop count text → IsFront test text front back
front_at test text front back count is first last = rw (first, last, is) (front_of test text)

-- what the whole text lists is what was read and what the rest lists
pub record IsReadTo (text : List ℕ) (words : List (List ℕ)) (rest : List ℕ) : Type 0 where
  pub joins : (more : List (List ℕ)) → IsWordList rest more → IsWordList text (words ++ more)
  pub parts : (all : List (List ℕ)) → IsWordList text all → (more : List (List ℕ)) × (all ≡ words ++ more) × IsWordList rest more

pub begun : (text : List ℕ) → IsReadTo text [] text
begun text = record { joins = λ more is. is; parts = λ all is. (all, refl, is) }

-- how a list of words goes on behind its first word
pub data GoesOn (after word : List ℕ) (words : List (List ℕ)) : Type 0 where
  ends : after ≡ [] → words ≡ word ∷ [] → GoesOn after word words
  goes : (behind : List ℕ) (more : List (List ℕ)) → after ≡ 44 ∷ behind → words ≡ word ∷ more → IsWordList (skip_white behind) more → GoesOn after word words

word_no_white : (byte : ℕ) → is_word_byte byte ≡ true → is_white byte ≡ false
word_no_white byte is = grind (arith, nat_tests)

full_stops : (word rest : List ℕ) → IsFullWord word → Stops is_white (word ++ rest)
full_stops [] rest is = absurd (is.some refl)
full_stops (byte ∷ word) rest is = word_no_white byte (both_true (is_word_byte byte) (list_all is_word_byte word) is.letters).0

word_stops : (word : List ℕ) → IsFullWord word → Stops is_white word
word_stops [] is = absurd (is.some refl)
word_stops (byte ∷ word) is = word_no_white byte (both_true (is_word_byte byte) (list_all is_word_byte word) is.letters).0

list_stops : (text : List ℕ) (words : List (List ℕ)) → IsWordList text words → Stops is_white text
list_stops text [] is = absurd is
list_stops text (word ∷ []) is = rw is.0 (word_stops word is.1)
list_stops text (word ∷ (next ∷ words)) (rest, before, more) = rw before.whole (full_stops word (44 ∷ (before.gap ++ rest)) before.full)

skipped : (gap rest : List ℕ) → IsTrue (list_all is_white gap) → Stops is_white rest → skip_white (gap ++ rest) ≡ rest
unfolding skip_white
skipped gap rest white stops = (front_is is_white (gap ++ rest) gap rest refl white stops).1

pub first_word : (text word after : List ℕ) (words : List (List ℕ)) → IsFront is_word_byte text word after → IsWordList text words → IsFullWord word × GoesOn after word words
first_word text word after [] front is = absurd is
first_word text word after (only ∷ []) front is =
    let same = one_front is_word_byte word after only [] front.begins front.stops is.1.letters tt (sym front.whole ∙ (is.0 ∙ sym (append-nil only))) in
    (subst IsFullWord (sym same.0) is.1, ends same.1 (ap (λ w. w ∷ []) (sym same.0)))
first_word text word after (first ∷ (next ∷ words)) front (rest, before, more) =
    let same = one_front is_word_byte word after first (44 ∷ (before.gap ++ rest)) front.begins front.stops before.full.letters refl (sym front.whole ∙ before.whole) in (
      subst IsFullWord (sym same.0) before.full,
      goes (before.gap ++ rest) (next ∷ words) same.1 (ap (λ w. w ∷ (next ∷ words)) (sym same.0))
          (subst (λ t. IsWordList t (next ∷ words)) (sym (skipped before.gap rest before.white (list_stops rest (next ∷ words) more))) more),
    )

pub last_word : (text word after : List ℕ) → IsFront is_word_byte text word after → IsFullWord word → after ≡ [] → IsWordList text (word ∷ [])
last_word text word after front full none = (front.whole ∙ (ap (λ t. word ++ t) none ∙ append-nil word), full)

pub next_word : (text word after behind : List ℕ) (words : List (List ℕ)) → IsFront is_word_byte text word after → IsFullWord word → after ≡ 44 ∷ behind → IsWordList (skip_white behind) words → IsWordList text (word ∷ words)
unfolding skip_white
next_word text word after behind [] front full comma is = absurd is
next_word text word after behind (next ∷ words) front full comma is =
    let gap = front_of is_white behind in (
      drop (prefix_len is_white behind) behind,
      record {
        gap = take (prefix_len is_white behind) behind;
        whole = front.whole ∙ ap (λ t. word ++ t) (comma ∙ ap (λ t. 44 ∷ t) gap.whole);
        full = full;
        white = gap.begins;
      },
      is,
    )

parts_more : (words : List (List ℕ)) (word after behind : List ℕ) (all found : List (List ℕ)) → after ≡ 44 ∷ behind → all ≡ words ++ found → GoesOn after word found
    → (more : List (List ℕ)) × (all ≡ (words ++ word ∷ []) ++ more) × IsWordList (skip_white behind) more
parts_more words word after behind all found comma whole (ends none one) = let no : ◌≡◌ {A = List ℕ} [] (44 ∷ behind) = sym none ∙ comma in absurd (nothing no)
  where
    nothing : ◌≡◌ {A = List ℕ} [] (44 ∷ behind) → ⊥
    nothing e = cc
parts_more words word after behind all found comma whole (goes tail more here split is) =
    let same : tail ≡ behind = tails (sym here ∙ comma) in
    (more, whole ∙ (ap (λ w. words ++ w) split ∙ sym (append_assoc words (word ∷ []) more)), subst (λ t. IsWordList (skip_white t) more) same is)
  where
    tails : 44 ∷ tail ≡ 44 ∷ behind → tail ≡ behind
    tails e = cc

-- one more word was read, and a comma stands behind it
pub read_more : (text : List ℕ) (words : List (List ℕ)) (rest word after behind : List ℕ) → IsReadTo text words rest → IsFront is_word_byte rest word after → IsFullWord word → after ≡ 44 ∷ behind → IsReadTo text (words ++ word ∷ []) (skip_white behind)
read_more text words rest word after behind read front full comma = record {
  joins = λ more is. subst (IsWordList text) (sym (append_assoc words (word ∷ []) more)) (read.joins (word ∷ more) (next_word rest word after behind more front full comma is));
  parts = λ all is.
      let found = read.parts all is in
      parts_more words word after behind all found.0 comma found.1 (first_word rest word after found.0 front found.2).1;
}

-- the last word was read
pub read_all : (text : List ℕ) (words : List (List ℕ)) (rest word after : List ℕ) → IsReadTo text words rest → IsFront is_word_byte rest word after → IsFullWord word → after ≡ [] → IsWordList text (words ++ word ∷ [])
read_all text words rest word after read front full none = read.joins (word ∷ []) (last_word rest word after front full none)

-- what stands there lists nothing
pub read_nothing : (text : List ℕ) (words : List (List ℕ)) (rest : List ℕ) → IsReadTo text words rest → ((more : List (List ℕ)) → IsWordList rest more → ⊥) → (all : List (List ℕ)) → IsWordList text all → ⊥
read_nothing text words rest read nothing all is = let parts = read.parts all is in nothing parts.0 parts.2

pub no_word : (rest word after : List ℕ) → IsFront is_word_byte rest word after → word ≡ [] → (more : List (List ℕ)) → IsWordList rest more → ⊥
no_word rest word after front none more is = (first_word rest word after more front is).0.some none

not_on : (after word : List ℕ) (words : List (List ℕ)) → after ≢ [] → (slice_get after 0 ≢ Some 44) → GoesOn after word words → ⊥
not_on after word words some other (ends none one) = some none
not_on after word words some other (goes tail more here split is) = other (ap (λ a. slice_get a 0) here)

pub no_comma : (rest word after : List ℕ) → IsFront is_word_byte rest word after → after ≢ [] → (slice_get after 0 ≢ Some 44) → (more : List (List ℕ)) → IsWordList rest more → ⊥
no_comma rest word after front some other more is = not_on after word more some other (first_word rest word after more front is).1

-- the rest grows shorter
pub shorter : (rest word after behind : List ℕ) → IsFront is_word_byte rest word after → after ≡ 44 ∷ behind → length (skip_white behind) < length rest
unfolding skip_white
shorter rest word after behind front comma =
    omega (arith, length-drop (prefix_len is_white behind) behind, length-append word after, ap length front.whole, ap length comma)

-- a text that begins with a comma
pub comma_first : (after : List ℕ) → slice_get after 0 ≡ Some 44 → after ≡ 44 ∷ drop 1 after
comma_first [] is = cc
comma_first (first ∷ behind) is = let same : first ≡ 44 = cc in ap (λ b. b ∷ behind) same
