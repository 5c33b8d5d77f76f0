-- The names of groups are words: an index is one, and so is what stands round the mark.
use Rattle.std.proofs.Common.{◌≡◌, ◌≢◌, ◌⊎◌, ℕ, zero, suc, ◌+◌, ◌/◌, ◌%◌, ◌≤◌, ◌<◌, Bool, true, false, cond, not, ◌&&◌, nat_lt, nat_eq, List, [], ◌∷◌, ◌++◌, length, take, drop, get_or, decimal, Option, None, Some, inl, inr, refl, sym, ap, ap₂, ◌∙◌, subst, arith, if◌then◌else◌}
use Rattle.std.specs.List.{AllByRecursion, list_all, prefix_len}
use Rattle.std.specs.Str.{bytes_eq}
use Rattle.std.specs.Fmt.{digits_onto, digit_glyph, digits}
use Rattle.std.proofs.lemmas.Bool.Decides.{nat_tests}
use Rattle.dim_expand.specs.Indexes.{index_of}
use Rattle.dim_expand.specs.Marks.{before_mark, from_mark, behind_mark, has_array_mark, indexed, is_marked}
use Rattle.dim_expand.specs.Walks.{name_or}
use Rattle.pac_base.specs.Names.{is_word_byte, IsWord, IsName, IsListName, IsArrayName, array_mark, ends_name}
use Rattle.pac_base.proofs.NameForms.{is_name-Decides}
use Rattle.svd_model.specs.Facts.{IsIndex, IsLetterRange}
use Rattle.svd_values.specs.declared.index.DimIndex.{DimIndex}
use Rattle.svd_values.specs.declared.index.DimIndex.TheVariants.{Numbers, Letters, Words}

-- ---- words

word-append : (xs ys : List ℕ) → IsWord xs → IsWord ys → IsWord (xs ++ ys)
word-append [] ys h k = k
word-append (x ∷ xs) ys h k = by (is_word_byte x) h (word-append xs ys)
  where
    by : (b : Bool) → (b && list_all is_word_byte xs) ≡ true → (IsWord xs → IsWord ys → IsWord (xs ++ ys)) → (b && list_all is_word_byte (xs ++ ys)) ≡ true
    by true e rest = rest e k
    by false e rest = absurd cc

-- ---- indexes

digit-word : (d : ℕ) → d < 10 → is_word_byte (digit_glyph false d) ≡ true
digit-word d less = ap (λ b. is_word_byte (if b then 48 + d else 87 + d)) is ∙ word
  where
    is : nat_lt d 10 ≡ true
    is = grind (arith, nat_tests, less)

    word : is_word_byte (48 + d) ≡ true
    word = grind (arith, nat_tests, less)

digits-word : (k n : ℕ) (acc : List ℕ) → IsWord acc → IsWord (digits_onto k 10 false n acc)
digits-word zero n acc h = h
digits-word (suc k) n acc h = by (nat_eq (n / 10) 0) (digits-word k (n / 10) (digit_glyph false (n % 10) ∷ acc) further)
  where
    less : n % 10 < 10
    less = omega arith

    further : IsWord (digit_glyph false (n % 10) ∷ acc)
    further = ap (λ b. b && list_all is_word_byte acc) (digit-word (n % 10) less) ∙ h

    by : (b : Bool) → IsWord (digits_onto k 10 false (n / 10) (digit_glyph false (n % 10) ∷ acc)) → IsWord (if b then digit_glyph false (n % 10) ∷ acc else digits_onto k 10 false (n / 10) (digit_glyph false (n % 10) ∷ acc))
    by true rest = further
    by false rest = rest

decimal-word : (n : ℕ) → IsWord (decimal n)
unfolding digits
decimal-word n = digits-word 64 n [] refl

letter-word : (n : ℕ) → ((65 ≤ n) × (n ≤ 90)) ⊎ ((97 ≤ n) × (n ≤ 122)) → is_word_byte n ≡ true
letter-word n (inl h) = grind (arith, nat_tests, h.0, h.1)
letter-word n (inr h) = grind (arith, nat_tests, h.0, h.1)

words-word : (words : List (List ℕ)) (k : ℕ) → AllByRecursion (λ word. IsWord word × (word ≢ [])) words → IsWord (get_or words k [])
words-word [] k h = refl
words-word (word ∷ words) zero h = h.0.0
words-word (word ∷ words) (suc k) h = words-word words k h.1

-- a list of indexes gives words, as far as it reaches
pub index-word : (o : Option DimIndex) (k : ℕ) → ((index : DimIndex) → o ≡ Some index → IsIndex index) → ((first last : ℕ) → o ≡ Some (Letters first last) → first + k ≤ last) → IsWord (index_of o k)
index-word None k is reaches = decimal-word k
index-word (Some (Numbers first last)) k is reaches = decimal-word (first + k)
index-word (Some (Letters first last)) k is reaches =
    ap (λ b. b && true) (letter-word (first + k) (between (is (Letters first last) refl) (reaches first last refl)))
  where
    between : IsLetterRange first last → first + k ≤ last → ((65 ≤ first + k) × (first + k ≤ 90)) ⊎ ((97 ≤ first + k) × (first + k ≤ 122))
    between h within = elim h.1 as (λ _. ((65 ≤ first + k) × (first + k ≤ 90)) ⊎ ((97 ≤ first + k) × (first + k ≤ 122))) [ inl u ↦ inl (omega (arith, u.0), omega (arith, u.1, within)) | inr u ↦ inr (omega (arith, u.0), omega (arith, u.1, within)) ]
index-word (Some (Words words)) k is reaches = words-word words k (is (Words words) refl).1

-- ---- indexes of at least one byte

digits-some : (k n x : ℕ) (acc : List ℕ) → digits_onto k 10 false n (x ∷ acc) ≢ []
digits-some zero n x acc = λ e. cc
digits-some (suc k) n x acc = by (nat_eq (n / 10) 0) (digits-some k (n / 10) (digit_glyph false (n % 10)) (x ∷ acc))
  where
    by : (b : Bool) → digits_onto k 10 false (n / 10) (digit_glyph false (n % 10) ∷ x ∷ acc) ≢ [] → (if b then digit_glyph false (n % 10) ∷ x ∷ acc else digits_onto k 10 false (n / 10) (digit_glyph false (n % 10) ∷ x ∷ acc)) ≢ []
    by true rest = λ e. cc
    by false rest = rest

first-some : (k n : ℕ) → digits_onto (suc k) 10 false n [] ≢ []
first-some k n = by (nat_eq (n / 10) 0)
  where
    by : (b : Bool) → (if b then digit_glyph false (n % 10) ∷ [] else digits_onto k 10 false (n / 10) (digit_glyph false (n % 10) ∷ [])) ≢ []
    by true = λ e. cc
    by false = digits-some k (n / 10) (digit_glyph false (n % 10)) []

decimal-some : (n : ℕ) → decimal n ≢ []
unfolding digits
decimal-some n = first-some 63 n

words-some : (words : List (List ℕ)) (k : ℕ) → AllByRecursion (λ word. IsWord word × (word ≢ [])) words → k < length words → get_or words k [] ≢ []
words-some [] k h less = absurd (omega (arith, less))
words-some (word ∷ words) zero h less = h.0.1
words-some (word ∷ words) (suc k) h less = words-some words k h.1 (omega (arith, less))

-- a list of indexes has no empty one, as far as it reaches
pub index-some : (o : Option DimIndex) (k : ℕ) → ((index : DimIndex) → o ≡ Some index → IsIndex index) → ((words : List (List ℕ)) → o ≡ Some (Words words) → k < length words) → index_of o k ≢ []
index-some None k is reaches = decimal-some k
index-some (Some (Numbers first last)) k is reaches = decimal-some (first + k)
index-some (Some (Letters first last)) k is reaches = λ e. cc
index-some (Some (Words words)) k is reaches = words-some words k (is (Words words) refl).1 (reaches words refl)

-- ---- names with a mark

-- where the word at the front ends
front-len : (word rest : List ℕ) (x : ℕ) → IsWord word → is_word_byte x ≡ false → prefix_len is_word_byte (word ++ x ∷ rest) ≡ length word
front-len [] rest x h no_word = ap (λ b. cond b (1 + prefix_len is_word_byte rest) 0) no_word
front-len (y ∷ word) rest x h no_word = by (is_word_byte y) h (front-len word rest x)
  where
    by : (b : Bool) → (b && list_all is_word_byte word) ≡ true → (IsWord word → is_word_byte x ≡ false → prefix_len is_word_byte (word ++ x ∷ rest) ≡ length word) → cond b (1 + prefix_len is_word_byte (word ++ x ∷ rest)) 0 ≡ suc (length word)
    by true e more = ap (λ n. 1 + n) (more e no_word) ∙ next (length word)
      where
        next : (n : ℕ) → 1 + n ≡ suc n
        next n = omega arith
    by false e more = absurd cc

take-front : (word rest : List ℕ) → take (length word) (word ++ rest) ≡ word
take-front [] rest = refl
take-front (y ∷ word) rest = ap (λ r. y ∷ r) (take-front word rest)

drop-front : (word rest : List ℕ) → drop (length word) (word ++ rest) ≡ rest
drop-front [] rest = refl
drop-front (y ∷ word) rest = drop-front word rest

parted : (name word rest : List ℕ) (x : ℕ) → name ≡ word ++ x ∷ rest → IsWord word → is_word_byte x ≡ false → (before_mark name ≡ word) × (from_mark name ≡ x ∷ rest)
parted name word rest x is h no_word =
    (ap₂ (λ n l. take n l) len is ∙ take-front word (x ∷ rest), ap₂ (λ n l. drop n l) len is ∙ drop-front word (x ∷ rest))
  where
    len : prefix_len is_word_byte name ≡ length word
    len = ap (prefix_len is_word_byte) is ∙ front-len word rest x h no_word

not_false : (b : Bool) → not b ≡ true → b ≡ false
not_false true h = absurd cc
not_false false h = refl

not_true : (b : Bool) → not b ≡ false → b ≡ true
not_true true h = refl
not_true false h = absurd cc

-- a name without a mark is a word
pub unmarked : (name : List ℕ) → is_marked name ≡ false → IsWord name
unfolding is_marked
unmarked name e = not_true (list_all is_word_byte name) e

-- a name with a mark is that of a list or of an array
marked : (name : List ℕ) → IsName name → is_marked name ≡ true → IsListName name ⊎ IsArrayName name
unfolding is_marked
marked name (inl word) e = absurd (let f : list_all is_word_byte name ≡ false = not_false (list_all is_word_byte name) e in let g : list_all is_word_byte name ≡ true = word.1 in let h : true ≡ false = sym g ∙ f in cc)
marked name (inr mark) e = mark

behind-list : (name : List ℕ) (rest : List ℕ) → from_mark name ≡ 37 ∷ rest → behind_mark name ≡ drop 2 (37 ∷ rest)
behind-list name rest is = ap (λ m. if bytes_eq m array_mark then [] else drop 2 m) is

behind-array : (name : List ℕ) → from_mark name ≡ array_mark → behind_mark name ≡ []
behind-array name is = ap (λ m. if bytes_eq m array_mark then [] else drop 2 m) is

-- an index in the place of the mark makes a word
pub indexed-word : (name index : List ℕ) → IsName name → is_marked name ≡ true → IsWord index → IsWord (indexed name index)
unfolding indexed
indexed-word name index named is_mark word = by (marked name named is_mark)
  where
    whole : (before behind : List ℕ) → before_mark name ≡ before → behind_mark name ≡ behind → IsWord before → IsWord behind → IsWord (before_mark name ++ (index ++ behind_mark name))
    whole before behind is_before is_behind h k =
        subst IsWord (sym (ap₂ (λ b a. b ++ (index ++ a)) is_before is_behind)) (word-append before (index ++ behind) h (word-append index behind word k))

    by : IsListName name ⊎ IsArrayName name → IsWord (before_mark name ++ (index ++ behind_mark name))
    by (inl l) =
        let parts = parted name l.before (115 ∷ l.after) 37 l.whole l.begins refl in
        whole l.before l.after parts.0 (behind-list name (115 ∷ l.after) parts.1) l.begins l.ends
    by (inr a) =
        let parts = parted name a.before (37 ∷ 115 ∷ 93 ∷ []) 91 a.whole a.begins refl in
        whole a.before [] parts.0 (behind-array name parts.1) a.begins refl

-- a name with the mark of arrays is that of an array
pub array-name : (name : List ℕ) → IsName name → is_marked name ≡ true → has_array_mark name ≡ true → IsArrayName name
array-name name named is_mark array = by (marked name named is_mark)
  where
    by : IsListName name ⊎ IsArrayName name → IsArrayName name
    by (inl l) =
        let parts = parted name l.before (115 ∷ l.after) 37 l.whole l.begins refl in
        absurd (let f : true ≡ false = sym array ∙ ap (λ m. bytes_eq m array_mark) parts.1 in cc)
    by (inr a) = a

-- ---- the name of a group

-- an index of at least one byte in the place of the mark makes a name
pub indexed-name : (name index : List ℕ) → IsName name → is_marked name ≡ true → IsWord index → index ≢ [] → IsName (indexed name index)
unfolding indexed
indexed-name name index named is_mark word some =
    inl (some_between (before_mark name) index (behind_mark name) some, indexed-word name index named is_mark word)
  where
    some_front : (index behind : List ℕ) → index ≢ [] → index ++ behind ≢ []
    some_front [] behind some = absurd (some refl)
    some_front (x ∷ xs) behind some = λ e. cc

    some_between : (before index behind : List ℕ) → index ≢ [] → before ++ (index ++ behind) ≢ []
    some_between [] index behind some = some_front index behind some
    some_between (x ∷ xs) index behind some = λ e. cc

pub name_or-name : (name bytes : List ℕ) → IsName bytes → name_or name bytes ≡ bytes
unfolding name_or
name_or-name name bytes named = ap (λ b. if b then bytes else name) ((is_name-Decides bytes).1 named)

pub name_or-else : (name bytes : List ℕ) → (IsName bytes → ⊥) → name_or name bytes ≡ name
unfolding name_or
name_or-else name bytes none = by (ends_name (before_mark bytes) (from_mark bytes)) refl
  where
    by : (b : Bool) → ends_name (before_mark bytes) (from_mark bytes) ≡ b → (if b then bytes else name) ≡ name
    by true e = absurd (none ((is_name-Decides bytes).0 e))
    by false e = refl
