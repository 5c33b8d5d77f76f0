-- What the naming rules make of a name is a name.
use Rattle.std.proofs.Common.{◌≡◌, ◌≢◌, ℕ, suc, zero, ◌-◌, List, [], ◌∷◌, ◌++◌, length, take, drop, map, Bool, true, false, ◌&&◌, ◌||◌, refl, sym, ap, ◌∙◌, subst, arith, inl, inr, append_assoc, append-nil, length-append, ◌==◌}
use Rattle.std.specs.Prelude.{if◌then◌else◌, codes}
use Rattle.std.specs.List.{list_all, list_any}
use Rattle.std.specs.Char.{to_ascii_lowercase, is_ascii_digit}
use Rattle.std.specs.Str.{bytes_eq, str_to_ascii_lowercase}
use Rattle.std.proofs.lemmas.Bool.Decides.{nat_tests}
use Rattle.std.proofs.lemmas.Slice.Eq.{bytes_eq-Decides}
use Rattle.pac_base.specs.Names.{IsName, IsWord, IsListName, IsArrayName, is_word_byte, list_mark, array_mark}
use Rattle.rust_names.specs.Keywords.{keywords, is_keyword}
use Rattle.svd_values.specs.AccessorNames.{without_array_mark, digit_guard, guarded, taken_guard, is_taken_call, is_taken_slot, call_name, slot_name_of, plain_byte, plain_lower, is_call_name, IsPlainName}
use Rattle.svd_values.proofs.Fronts.{both_true}

both : (a b : Bool) → a ≡ true → b ≡ true → (a && b) ≡ true
both a b e f = rw (e, f) refl

pub word_append : (front back : List ℕ) → IsWord front → IsWord back → IsWord (front ++ back)
word_append [] back f b = b
word_append (byte ∷ front) back f b =
    let each = both_true (is_word_byte byte) (list_all is_word_byte front) f in
    both (is_word_byte byte) (list_all is_word_byte (front ++ back)) each.0 (word_append front back each.1 b)

lower_byte : (byte : ℕ) → is_word_byte byte ≡ true → is_word_byte (to_ascii_lowercase byte) ≡ true
lower_byte byte is = grind (arith, nat_tests)

pub lower_word : (word : List ℕ) → IsWord word → IsWord (str_to_ascii_lowercase word)
lower_word [] is = refl
lower_word (byte ∷ word) is =
    let each = both_true (is_word_byte byte) (list_all is_word_byte word) is in
    both (is_word_byte (to_ascii_lowercase byte)) (list_all is_word_byte (str_to_ascii_lowercase word)) (lower_byte byte each.0) (lower_word word each.1)

some_map : (f : ℕ → ℕ) (bytes : List ℕ) → bytes ≢ [] → map f bytes ≢ []
some_map f [] some = absurd (some refl)
some_map f (byte ∷ bytes) some = λ e. cc

map_append : (f : ℕ → ℕ) (front back : List ℕ) → map f (front ++ back) ≡ map f front ++ map f back
map_append f [] back = refl
map_append f (byte ∷ front) back = ap (λ l. f byte ∷ l) (map_append f front back)

lower_list : (name : List ℕ) → IsListName name → IsListName (str_to_ascii_lowercase name)
lower_list name is = record {
  before = str_to_ascii_lowercase is.before;
  after = str_to_ascii_lowercase is.after;
  begins = lower_word is.before is.begins;
  ends = lower_word is.after is.ends;
  whole = ap str_to_ascii_lowercase is.whole ∙ (map_append to_ascii_lowercase is.before (list_mark ++ is.after) ∙ ap (λ l. str_to_ascii_lowercase is.before ++ l) (map_append to_ascii_lowercase list_mark is.after));
}

pub plain_lowered : (name : List ℕ) → IsPlainName name → IsPlainName (str_to_ascii_lowercase name)
plain_lowered name (inl is) = inl (some_map to_ascii_lowercase name is.0, lower_word name is.1)
plain_lowered name (inr is) = inr (lower_list name is)

-- each byte of a word or a list's name is a word byte or `%`, and so none is `[`
is_plain_byte : ℕ → Bool
is_plain_byte byte = is_word_byte byte || byte == 37

all_or : (word : List ℕ) → IsWord word → list_all is_plain_byte word ≡ true
unfolding is_plain_byte
all_or [] is = refl
all_or (byte ∷ word) is =
    let each = both_true (is_word_byte byte) (list_all is_word_byte word) is in
    both (is_plain_byte byte) (list_all is_plain_byte word) (rw each.0 refl) (all_or word each.1)

pub all_append : (test : ℕ → Bool) (front back : List ℕ) → list_all test front ≡ true → list_all test back ≡ true → list_all test (front ++ back) ≡ true
all_append test [] back f b = b
all_append test (byte ∷ front) back f b =
    let each = both_true (test byte) (list_all test front) f in
    both (test byte) (list_all test (front ++ back)) each.0 (all_append test front back each.1 b)

all_drop : (test : ℕ → Bool) (count : ℕ) (bytes : List ℕ) → list_all test bytes ≡ true → list_all test (drop count bytes) ≡ true
all_drop test zero bytes is = is
all_drop test (suc count) [] is = refl
all_drop test (suc count) (byte ∷ bytes) is = all_drop test count bytes (both_true (test byte) (list_all test bytes) is).1

plain_all : (name : List ℕ) → IsPlainName name → list_all is_plain_byte name ≡ true
unfolding is_plain_byte
plain_all name (inl is) = all_or name is.1
plain_all name (inr is) =
    rw is.whole (all_append is_plain_byte is.before (list_mark ++ is.after) (all_or is.before is.begins) (all_append is_plain_byte list_mark is.after refl (all_or is.after is.ends)))

no_mark : (name : List ℕ) (ends : Bool) → IsPlainName name → bytes_eq (drop (length name - 4) name) array_mark ≡ ends → ends ≡ false
unfolding is_plain_byte
no_mark name false plain is = refl
no_mark name true plain is =
    let same : drop (length name - 4) name ≡ array_mark = (bytes_eq-Decides (drop (length name - 4) name) array_mark).0 is in
    let no : false ≡ true = ap (list_all is_plain_byte) (sym same) ∙ all_drop is_plain_byte (length name - 4) name (plain_all name plain) in
    cc

pub unmarked : (name : List ℕ) → IsPlainName name → without_array_mark name ≡ name
unmarked name plain = rw (no_mark name (bytes_eq (drop (length name - 4) name) array_mark) plain refl) refl

before_mark : (before : List ℕ) → (length (before ++ array_mark) - 4 ≡ length before)
before_mark before = rw (length-append before array_mark) (omega arith)

drop_front : (front back : List ℕ) → drop (length front) (front ++ back) ≡ back
drop_front [] back = refl
drop_front (byte ∷ front) back = drop_front front back

take_front : (front back : List ℕ) → take (length front) (front ++ back) ≡ front
take_front [] back = refl
take_front (byte ∷ front) back = ap (λ l. byte ∷ l) (take_front front back)

off : (name before : List ℕ) → name ≡ before ++ array_mark → without_array_mark name ≡ before
off name before whole = rw whole (rw (before_mark before, drop_front before array_mark, take_front before array_mark) refl)

-- an array's name loses its mark
pub marked_off : (name : List ℕ) (is : IsArrayName name) → without_array_mark name ≡ is.before
marked_off name is = off name is.before is.whole

pub plain_without_mark : (name : List ℕ) → IsName name → IsPlainName (without_array_mark name)
plain_without_mark name (inl is) = subst IsPlainName (sym (unmarked name (inl is))) (inl is)
plain_without_mark name (inr (inl is)) = subst IsPlainName (sym (unmarked name (inr is))) (inr is)
plain_without_mark name (inr (inr is)) = subst IsPlainName (sym (marked_off name is)) (inl (is.some, is.begins))

guard_word : (name : List ℕ) → IsWord (digit_guard name)
guard_word [] = refl
guard_word (byte ∷ bytes) = guard_by (is_ascii_digit byte)
  where
    guard_by : (digit : Bool) → IsWord (if digit then codes "_" else [])
    guard_by true = refl
    guard_by false = refl

taken_word : (taken : Bool) → IsWord (taken_guard taken)
taken_word true = refl
taken_word false = refl

some_append : (front back : List ℕ) → back ≢ [] → front ++ back ≢ []
some_append [] back some = some
some_append (byte ∷ front) back some = λ e. cc

some_front : (front back : List ℕ) → front ≢ [] → front ++ back ≢ []
some_front [] back some = absurd (some refl)
some_front (byte ∷ front) back some = λ e. cc

regroup : (front before mark after back : List ℕ) → (front ++ (before ++ (mark ++ after))) ++ back ≡ (front ++ before) ++ (mark ++ (after ++ back))
regroup front before mark after back = simp append_assoc

-- word bytes before and behind a name
pub plain_around : (front name back : List ℕ) → IsWord front → IsPlainName name → IsWord back → IsPlainName ((front ++ name) ++ back)
plain_around front name back f (inl is) b =
    inl (some_front (front ++ name) back (some_append front name is.0), word_append (front ++ name) back (word_append front name f is.1) b)
plain_around front name back f (inr is) b = inr (record {
  before = front ++ is.before;
  after = is.after ++ back;
  begins = word_append front is.before f is.begins;
  ends = word_append is.after back is.ends b;
  whole = ap (λ n. (front ++ n) ++ back) is.whole ∙ regroup front is.before list_mark is.after back;
})

as_name : (name : List ℕ) → IsPlainName name → IsName name
as_name name (inl is) = inl is
as_name name (inr is) = inr (inl is)

pub call_is_name : (lower : List ℕ) → IsPlainName lower → IsName (call_name lower)
call_is_name lower is =
    as_name (call_name lower) (plain_around (digit_guard lower) lower (taken_guard (is_taken_call (guarded lower))) (guard_word lower) is (taken_word (is_taken_call (guarded lower))))

is_full : List ℕ → Bool
is_full [] = false
is_full (byte ∷ bytes) = list_all is_word_byte (byte ∷ bytes)

full_plain : (name : List ℕ) → is_full name ≡ true → IsPlainName name
unfolding is_full
full_plain [] is = cc
full_plain (byte ∷ bytes) is = inl ((λ e. cc), is)

full_first : (name word : List ℕ) (words : List (List ℕ)) (same : Bool) → bytes_eq name word ≡ same → is_full word ≡ true → (list_any (bytes_eq name) words ≡ true → is_full name ≡ true)
    → (same || list_any (bytes_eq name) words) ≡ true → is_full name ≡ true
full_first name word words true is full rest any = ap is_full ((bytes_eq-Decides name word).0 is) ∙ full
full_first name word words false is full rest any = rest any

any_full : (name : List ℕ) (words : List (List ℕ)) → list_all is_full words ≡ true → list_any (bytes_eq name) words ≡ true → is_full name ≡ true
any_full name [] all any = cc
any_full name (word ∷ words) all any =
    let each = both_true (is_full word) (list_all is_full words) all in
    full_first name word words (bytes_eq name word) refl each.0 (any_full name words each.1) any

-- a taken slot is a word
taken_slot_word : (name : List ℕ) → is_taken_slot name ≡ true → IsPlainName name
unfolding is_keyword is_full
taken_slot_word name taken = by_case (list_any (bytes_eq name) keywords) (bytes_eq name (codes "_")) refl refl taken
  where
    by_case : (keyword dash : Bool) → list_any (bytes_eq name) keywords ≡ keyword → bytes_eq name (codes "_") ≡ dash → (keyword || dash) ≡ true → IsPlainName name
    by_case true dash is other h = full_plain name (any_full name keywords refl is)
    by_case false true is other h = full_plain name (rw ((bytes_eq-Decides name (codes "_")).0 other) refl)
    by_case false false is other h = cc

guarded_name : (name : List ℕ) → IsName name → IsName (guarded name)
guarded_name name (inl is) = as_name (guarded name) (subst IsPlainName (append-nil (guarded name)) (plain_around (digit_guard name) name [] (guard_word name) (inl is) refl))
guarded_name name (inr (inl is)) = as_name (guarded name) (subst IsPlainName (append-nil (guarded name)) (plain_around (digit_guard name) name [] (guard_word name) (inr is) refl))
guarded_name name (inr (inr is)) = inr (inr (record {
  before = digit_guard name ++ is.before;
  begins = word_append (digit_guard name) is.before (guard_word name) is.begins;
  some = some_append (digit_guard name) is.before is.some;
  whole = ap (λ n. digit_guard name ++ n) is.whole ∙ sym (append_assoc (digit_guard name) is.before array_mark);
}))

slot_by : (name : List ℕ) (taken : Bool) → is_taken_slot name ≡ taken → IsName name → IsName (name ++ taken_guard taken)
slot_by name true taken is = as_name (name ++ taken_guard true) (plain_around [] name (taken_guard true) refl (taken_slot_word name taken) refl)
slot_by name false taken is = subst IsName (sym (append-nil name)) is

pub slot_is_name : (name : List ℕ) → IsName name → IsName (slot_name_of name)
slot_is_name name is = slot_by (guarded name) (is_taken_slot (guarded name)) refl (guarded_name name is)

plain_byte_word : (byte : ℕ) (is : Bool) → is_word_byte byte ≡ is → is_word_byte (plain_byte byte) ≡ true
plain_byte_word byte true is = rw is is
plain_byte_word byte false is = rw is refl

plain_word : (text : List ℕ) → IsWord (map plain_byte text)
plain_word [] = refl
plain_word (byte ∷ text) = both (is_word_byte (plain_byte byte)) (list_all is_word_byte (map plain_byte text)) (plain_byte_word byte (is_word_byte byte) refl) (plain_word text)

pub variant_plain : (text : List ℕ) → text ≢ [] → IsPlainName (plain_lower text)
variant_plain text some = inl (some_map to_ascii_lowercase (map plain_byte text) (some_map plain_byte text some), lower_word (map plain_byte text) (plain_word text))

pub is_call_is_name : (text : List ℕ) → IsName (is_call_name text)
is_call_is_name text = inl ((λ e. cc), word_append (codes "is_") (plain_lower text) refl (lower_word (map plain_byte text) (plain_word text)))

pub plain_lower_word : (text : List ℕ) → IsWord (plain_lower text)
plain_lower_word text = lower_word (map plain_byte text) (plain_word text)

pub some_lower : (word : List ℕ) → word ≢ [] → str_to_ascii_lowercase word ≢ []
some_lower word some = some_map to_ascii_lowercase word some
