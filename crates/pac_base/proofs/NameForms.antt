-- A text is split in one way into the word bytes at its front and a rest that begins with no word
-- byte, so the three forms of a name are told apart by that rest.
use Rattle.std.proofs.Common.{◌≡◌, ◌≢◌, ◌⊎◌, ◌++◌, ◌∷◌, ◌+◌, [], List, ℕ, Bool, true, false, cond, take, drop, length, refl, sym, ◌∙◌, ap, subst, inl, inr, ◌&&◌, ◌||◌, not, add_comm, add-one, append-nil, take-append-drop, arith, rules}
use Rattle.std.specs.List.{list_all, prefix_len}
use Rattle.std.specs.Bool.{Decides}
use Rattle.std.specs.Str.{bytes_eq}
use Rattle.std.proofs.lemmas.Slice.Eq.{bytes_eq-Decides}
use Rattle.std.proofs.lemmas.Grind.{common_steps}
use Rattle.pac_base.specs.Names.{IsName, IsWord, IsListName, IsArrayName, ends_name, is_word_byte, list_mark, array_mark}

-- what no longer front of word bytes reaches into
abbrev pub Stops : List ℕ → Type 0
Stops [] = Unit {0}
Stops (byte ∷ bytes) = is_word_byte byte ≡ false

pub record IsSplit (bytes word rest : List ℕ) : Type 0 where
  pub whole : bytes ≡ word ++ rest
  pub begins : IsWord word
  pub stops : Stops rest

and_true : (a b : Bool) → (a && b) ≡ true → (a ≡ true) × (b ≡ true)
and_true true b h = (refl, h)
and_true false b h = cc

split_cons : (byte : ℕ) (bytes : List ℕ) (b : Bool) → is_word_byte byte ≡ b → IsSplit bytes (take (prefix_len is_word_byte bytes) bytes) (drop (prefix_len is_word_byte bytes) bytes) → IsSplit (byte ∷ bytes) (take (cond b (1 + prefix_len is_word_byte bytes) 0) (byte ∷ bytes)) (drop (cond b (1 + prefix_len is_word_byte bytes) 0) (byte ∷ bytes))
split_cons byte bytes true is s = rw (add_comm 1 (prefix_len is_word_byte bytes), add-one) record { whole = ap (λ l. byte ∷ l) s.whole; begins = rw is s.begins; stops = s.stops }
split_cons byte bytes false is s = record { whole = refl; begins = refl; stops = is }

pub split : (bytes : List ℕ) → IsSplit bytes (take (prefix_len is_word_byte bytes) bytes) (drop (prefix_len is_word_byte bytes) bytes)
split [] = record { whole = refl; begins = refl; stops = tt }
split (byte ∷ bytes) = split_cons byte bytes (is_word_byte byte) refl (split bytes)

one_split : (word rest word' rest' : List ℕ) → IsWord word → Stops rest → IsWord word' → Stops rest' → word ++ rest ≡ word' ++ rest' → (word ≡ word') × (rest ≡ rest')
one_split [] rest [] rest' w s w' s' e = (refl, e)
one_split [] [] (y ∷ ys) rest' w s w' s' e = cc
one_split [] (x ∷ xs) (y ∷ ys) rest' w s w' s' e = let h = and_true (is_word_byte y) (list_all is_word_byte ys) w' in let same : x ≡ y = cc in let h2 : is_word_byte x ≡ true = ap is_word_byte same ∙ h.0 in let no : true ≡ false = sym h2 ∙ s in cc
one_split (x ∷ xs) rest [] [] w s w' s' e = cc
one_split (x ∷ xs) rest [] (y ∷ ys) w s w' s' e = let h = and_true (is_word_byte x) (list_all is_word_byte xs) w in let same : x ≡ y = cc in let h2 : is_word_byte y ≡ true = ap is_word_byte (sym same) ∙ h.0 in let no : true ≡ false = sym h2 ∙ s' in cc
one_split (x ∷ xs) rest (y ∷ ys) rest' w s w' s' e =
    let tail : xs ++ rest ≡ ys ++ rest' = cc in
    let head : x ≡ y = cc in
    let r = one_split xs rest ys rest' (and_true (is_word_byte x) (list_all is_word_byte xs) w).1 s (and_true (is_word_byte y) (list_all is_word_byte ys) w').1 s' tail in
    (ap (λ l. x ∷ l) r.0 ∙ ap (λ b. b ∷ ys) head, r.1)

some_word : (word : List ℕ) → word ≢ [] → not (bytes_eq word []) ≡ true
some_word [] some = absurd (some refl)
some_word (x ∷ xs) some = refl

word_some : (word : List ℕ) → not (bytes_eq word []) ≡ true → word ≢ []
word_some [] h = cc
word_some (x ∷ xs) h = λ e. cc

-- which way the test went
pub data Went (a b c d e : Bool) : Type 0 where
  at_end : a ≡ true → c ≡ true → Went a b c d e
  at_array : b ≡ true → c ≡ true → Went a b c d e
  at_list : d ≡ true → e ≡ true → Went a b c d e

went : (a b c d e : Bool) → cond (a || b) c (d && e) ≡ true → Went a b c d e
went true b c d e h = at_end refl h
went false true c d e h = at_array refl h
went false false c d e h = let both = and_true d e h in at_list both.0 both.1

forward : (word rest : List ℕ) → IsWord word → Went (bytes_eq rest []) (bytes_eq rest array_mark) (not (bytes_eq word [])) (bytes_eq (take 2 rest) list_mark) (list_all is_word_byte (drop 2 rest)) → IsName (word ++ rest)
forward word rest w (at_end e some) = let is : rest ≡ [] = (bytes_eq-Decides rest []).0 e in rw (is, append-nil) (inl (word_some word some, w))
forward word rest w (at_array e some) = inr (inr (record { before = word; begins = w; some = word_some word some; whole = ap (λ l. word ++ l) ((bytes_eq-Decides rest array_mark).0 e) }))
forward word rest w (at_list e after) = inr (inl (record { before = word; after = drop 2 rest; begins = w; ends = after; whole = ap (λ l. word ++ l) (sym (take-append-drop 2 rest) ∙ ap (λ l. l ++ drop 2 rest) ((bytes_eq-Decides (take 2 rest) list_mark).0 e)) }))

backward : (bytes word rest : List ℕ) → IsSplit bytes word rest → IsName bytes → ends_name word rest ≡ true
backward bytes word rest s (inl (some, w)) =
    let one = one_split word rest bytes [] s.begins s.stops w tt (sym s.whole ∙ sym (append-nil bytes)) in
    rw (one.1, one.0) (some_word bytes some)
backward bytes word rest s (inr (inl n)) =
    let one = one_split word rest n.before (list_mark ++ n.after) s.begins s.stops n.begins refl (sym s.whole ∙ n.whole) in
    rw one.1 n.ends
backward bytes word rest s (inr (inr n)) =
    let one = one_split word rest n.before array_mark s.begins s.stops n.begins refl (sym s.whole ∙ n.whole) in
    rw (one.1, one.0) (some_word n.before n.some)

-- the test on the two parts says whether the whole is a name
decides : (bytes word rest : List ℕ) → IsSplit bytes word rest → Decides (ends_name word rest) (IsName bytes)
decides bytes word rest s =
    (λ h. subst IsName (sym s.whole) (forward word rest s.begins (went (bytes_eq rest []) (bytes_eq rest array_mark) (not (bytes_eq word [])) (bytes_eq (take 2 rest) list_mark) (list_all is_word_byte (drop 2 rest)) h)), λ n. backward bytes word rest s n)

pub is_name-Decides : (bytes : List ℕ) → Decides (ends_name (take (prefix_len is_word_byte bytes) bytes) (drop (prefix_len is_word_byte bytes) bytes)) (IsName bytes)
is_name-Decides bytes = decides bytes (take (prefix_len is_word_byte bytes) bytes) (drop (prefix_len is_word_byte bytes) bytes) (split bytes)

-- behind a rest that is neither nothing nor `[%s]`, the test is that of `%s` and word bytes
pub at_list-ends : (word rest : List ℕ) → bytes_eq rest [] ≡ false → bytes_eq rest array_mark ≡ false → bytes_eq (take 2 rest) list_mark ≡ true → list_all is_word_byte (drop 2 rest) ≡ ends_name word rest
at_list-ends word rest a b d = rw (a, b, d) refl
