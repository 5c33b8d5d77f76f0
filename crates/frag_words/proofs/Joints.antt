-- Where texts are put together, their words are.
use Rattle.std.proofs.Common.{ℕ, ◌≡◌, ◌≤◌, ◌+◌, ◌*◌, List, [], ◌∷◌, ◌++◌, length, Bool, true, false, refl, sym, ap, ap₂, ◌∙◌, append_assoc, arith, zero, suc, cond, map}
use Rattle.std.specs.Prelude.{◌&&◌, ◌||◌, ◌==◌, not, codes, if◌then◌else◌, replicate}
use Rattle.std.specs.List.{flat_map, list_all, prefix_len}
use Rattle.std.proofs.Math.Bool.{and-false}
use Rattle.std.proofs.lemmas.Bool.Decides.{Decides-eqb}
use Rattle.std.proofs.lemmas.List.{take-append-le, append-nil}
use Rattle.std.proofs.lemmas.List.Sums.{prefix_len-le-length}
use Rattle.std.proofs.Math.Seq.{take-append_seam}
use Rattle.pac_base.specs.Names.{is_word_byte}
use Rattle.frag_words.specs.Lines.{Piece, text, word, Line, piece_text, piece_words, line_text, line_words, lines_text, lines_words}
use Rattle.frag_words.specs.Joined.{Next, letters, byte, IsNext, is_run_byte, parts, is_parted, is_run, next_of, no_letter, is_joined, Runs, IsFine, AreFine}
use Rattle.frag_words.specs.Words.{Front, gap, word as word_front, is_blank, begins, pairs, is_pair, front_at, led_by, words_behind, words_in}
use Rattle.frag_words.proofs.Readings.{both_left, both_right}

-- ---- what stands next to the end of a text

not_true : (b : Bool) → not b ≡ true → b ≡ false
not_true false h = refl
not_true true h = absurd cc

parted_slash : (b : ℕ) (others : List ℕ) (next : Next) → is_parted (b ∷ others) next ≡ true → (b == 47) ≡ false
parted_slash b [] letters h = not_true (b == 47) (both_left (not (b == 47)) _ h)
parted_slash b [] (byte c) h = not_true (b == 47) (both_left (not (b == 47)) _ h)
parted_slash b (c ∷ others) next h = not_true (b == 47) (both_left (not (b == 47)) _ h)

parted_tail : (b : ℕ) (others : List ℕ) (next : Next) → is_parted (b ∷ others) next ≡ true → is_parted others next ≡ true
parted_tail b [] next h = refl
parted_tail b (c ∷ others) next h = both_right (not (b == 47)) _ h

-- ---- pairs

other_byte : (hit : Bool) (c k : ℕ) → (hit ≡ true → c ≡ k) → is_word_byte c ≡ true → is_word_byte k ≡ false → hit ≡ false
other_byte true c k same is_word no_word = let impossible : true ≡ false = sym is_word ∙ (ap is_word_byte (same refl) ∙ no_word) in absurd cc
other_byte false c k same is_word no_word = refl

not_byte : (c k : ℕ) → is_word_byte c ≡ true → is_word_byte k ≡ false → (c == k) ≡ false
not_byte c k is_word no_word = other_byte (c == k) c k (Decides-eqb c k).0 is_word no_word

pairs_letters : (b c : ℕ) → is_word_byte c ≡ true → pairs b c ≡ false
pairs_letters b c is_word =
    rw (not_byte c 58 is_word refl, not_byte c 62 is_word refl, not_byte c 61 is_word refl, and-false (b == 58), and-false (b == 45), and-false (b == 62), and-false (b == 33), and-false (b == 61)) refl

pair_same : (b : ℕ) (others rest : List ℕ) (next : Next) → is_parted (b ∷ others) next ≡ true → IsNext next rest → is_pair b (others ++ rest) ≡ is_pair b others
pair_same b (c ∷ others) rest next parted is_next = refl
pair_same b [] [] letters parted is_next = absurd is_next
pair_same b [] (first ∷ rest) letters parted is_next = pairs_letters b first is_next
pair_same b [] [] (byte c) parted is_next = absurd is_next
pair_same b [] (first ∷ rest) (byte c) parted is_next = ap (pairs b) is_next ∙ not_true (pairs b c) (both_right (not (is_run_byte b && is_word_byte c)) _ (both_right (not (b == 47)) _ parted))

-- ---- runs

no_letters : (run letter : Bool) → run ≡ true → not (run && letter) ≡ true → letter ≡ false
no_letters true letter h k = not_true letter k
no_letters false letter h k = absurd cc

first_stops : (b : ℕ) (rest : List ℕ) (next : Next) → is_run_byte b ≡ true → parts b next ≡ true → IsNext next rest → prefix_len is_word_byte rest ≡ 0
first_stops b [] letters run parted is_next = absurd is_next
first_stops b [] (byte c) run parted is_next = absurd is_next
first_stops b (first ∷ rest) letters run parted is_next = let impossible : true ≡ false = sym run ∙ not_true (is_run_byte b) (both_right (not (b == 47)) _ parted) in absurd cc
first_stops b (first ∷ rest) (byte c) run parted is_next =
    let stops : is_word_byte first ≡ false = ap is_word_byte is_next ∙ no_letters (is_run_byte b) (is_word_byte c) run (both_left (not (is_run_byte b && is_word_byte c)) _ (both_right (not (b == 47)) _ parted)) in
    ap (λ hit. cond hit (1 + prefix_len is_word_byte rest) 0) stops

run_of_word : (b : ℕ) → is_word_byte b ≡ true → is_run_byte b ≡ true
run_of_word b is_word = ap (λ x. x || b == 39) is_word

on_letter : (hit : Bool) (m n : ℕ) → (hit ≡ true → m ≡ n) → cond hit (1 + m) 0 ≡ cond hit (1 + n) 0
on_letter true m n same = ap (λ k. 1 + k) (same refl)
on_letter false m n same = refl

prefix_same : (b : ℕ) (others rest : List ℕ) (next : Next) → is_run_byte b ≡ true → is_parted (b ∷ others) next ≡ true → IsNext next rest → prefix_len is_word_byte (others ++ rest) ≡ prefix_len is_word_byte others
prefix_same b [] rest next run parted is_next = first_stops b rest next run parted is_next
prefix_same b (c ∷ others) rest next run parted is_next =
    on_letter (is_word_byte c) (prefix_len is_word_byte (others ++ rest)) (prefix_len is_word_byte others)
    (λ is_word. prefix_same c others rest next (run_of_word c is_word) (parted_tail b (c ∷ others) next parted) is_next)

-- ---- the front of a text

on_run : (run : Bool) (m n : ℕ) (x y : Front) → (run ≡ true → m ≡ n) → x ≡ y → (if run then word_front m else x) ≡ (if run then word_front n else y)
on_run true m n x y same other = ap word_front (same refl)
on_run false m n x y same other = other

front_same : (b : ℕ) (others more : List ℕ) → (b == 47) ≡ false → (is_run_byte b ≡ true → prefix_len is_word_byte more ≡ prefix_len is_word_byte others) → is_pair b more ≡ is_pair b others → front_at b more ≡ front_at b others
front_same b others more no_slash runs pair =
    ap (λ slash. if is_blank b then gap 0 else (if slash && begins 47 more then gap (prefix_len (λ c. not (c == 10)) more) else (if is_run_byte b then word_front (prefix_len is_word_byte more) else (if is_pair b more then word_front 1 else word_front 0)))) no_slash
    ∙ (ap (λ front. if is_blank b then gap 0 else front) (on_run (is_run_byte b) (prefix_len is_word_byte more) (prefix_len is_word_byte others) (if is_pair b more then word_front 1 else word_front 0) (if is_pair b others then word_front 1 else word_front 0) runs (ap (λ hit. if hit then word_front 1 else word_front 0) pair))
    ∙ ap (λ slash. if is_blank b then gap 0 else (if slash && begins 47 others then gap (prefix_len (λ c. not (c == 10)) others) else (if is_run_byte b then word_front (prefix_len is_word_byte others) else (if is_pair b others then word_front 1 else word_front 0)))) (sym no_slash))

-- how many bytes behind the first belong to the front
abbrev count : Front → ℕ
count (gap n) = n
count (word_front n) = n

prefix_within : (test : ℕ → Bool) (xs : List ℕ) → prefix_len test xs ≤ length xs
prefix_within test xs = prefix_len-le-length test xs

count_of : (x y z u : Bool) (m n p : ℕ) → m ≤ p → n ≤ p → (u ≡ true → 1 ≤ p) → count (if x then gap 0 else (if y then gap m else (if z then word_front n else (if u then word_front 1 else word_front 0)))) ≤ p
count_of true y z u m n p one two three = omega arith
count_of false true z u m n p one two three = one
count_of false false true u m n p one two three = two
count_of false false false true m n p one two three = three refl
count_of false false false false m n p one two three = omega arith

pair_some : (b : ℕ) (others : List ℕ) → is_pair b others ≡ true → 1 ≤ length others
pair_some b [] h = absurd cc
pair_some b (c ∷ others) h = omega arith

front_within : (b : ℕ) (others : List ℕ) → count (front_at b others) ≤ length others
front_within b others =
    count_of (is_blank b) (b == 47 && begins 47 others) (is_run_byte b) (is_pair b others) (prefix_len (λ c. not (c == 10)) others) (prefix_len is_word_byte others) (length others)
    (prefix_within (λ c. not (c == 10)) others) (prefix_within is_word_byte others) (pair_some b others)

-- ---- the joint of two texts

led_joint : (front : Front) (b : ℕ) (others rest : List ℕ) → count front ≤ length others → ((n : ℕ) → n ≤ length others → words_behind (others ++ rest) n ≡ words_behind others n ++ words_behind rest 0) → led_by front b (others ++ rest) (words_behind (others ++ rest)) ≡ led_by front b others (words_behind others) ++ words_behind rest 0
led_joint (gap n) b others rest within more = more n within
led_joint (word_front n) b others rest within more = ap₂ (λ first left. (b ∷ first) ∷ left) (take-append-le n others rest within) (more n within)

pub joint : (bytes rest : List ℕ) (next : Next) (n : ℕ) → is_parted bytes next ≡ true → IsNext next rest → n ≤ length bytes → words_behind (bytes ++ rest) n ≡ words_behind bytes n ++ words_behind rest 0
unfolding words_behind
joint [] rest next zero parted is_next within = refl
joint [] rest next (suc n) parted is_next within = absurd (omega (arith, within))
joint (b ∷ others) rest next (suc n) parted is_next within = joint others rest next n (parted_tail b others next parted) is_next (omega (arith, within))
joint (b ∷ others) rest next zero parted is_next within =
    ap (λ front. led_by front b (others ++ rest) (words_behind (others ++ rest)))
    (front_same b others (others ++ rest) (parted_slash b others next parted) (λ run. prefix_same b others rest next run parted is_next) (pair_same b others rest next parted is_next))
    ∙ led_joint (front_at b others) b others rest (front_within b others) (λ n more. joint others rest next n (parted_tail b others next parted) is_next more)

-- ---- a word and what stands behind it

-- a text begins with no letter
abbrev pub Stops : List ℕ → Type 0
Stops [] = Unit {0}
Stops (first ∷ others) = is_word_byte first ≡ false

prefix_run : (others rest : List ℕ) → list_all is_word_byte others ≡ true → Stops rest → prefix_len is_word_byte (others ++ rest) ≡ length others
prefix_run [] [] all stops = refl
prefix_run [] (first ∷ rest) all stops = ap (λ hit. cond hit (1 + prefix_len is_word_byte rest) 0) stops
prefix_run (c ∷ others) rest all stops =
    ap (λ hit. cond hit (1 + prefix_len is_word_byte (others ++ rest)) 0) (both_left (is_word_byte c) (list_all is_word_byte others) all)
    ∙ (ap (λ n. 1 + n) (prefix_run others rest (both_right (is_word_byte c) (list_all is_word_byte others) all) stops) ∙ one_plus (length others))
  where
    one_plus : (n : ℕ) → 1 + n ≡ suc n
    one_plus n = omega arith

skipped : (xs rest : List ℕ) → words_behind (xs ++ rest) (length xs) ≡ words_behind rest 0
unfolding words_behind
skipped [] rest = refl
skipped (x ∷ xs) rest = skipped xs rest

no_blank : (b : ℕ) → is_word_byte b ≡ true → is_blank b ≡ false
no_blank b is_word = rw (not_byte b 32 is_word refl, not_byte b 9 is_word refl, not_byte b 10 is_word refl, not_byte b 13 is_word refl) refl

front_run : (b : ℕ) (others : List ℕ) → is_word_byte b ≡ true → front_at b others ≡ word_front (prefix_len is_word_byte others)
front_run b others is_word = rw (no_blank b is_word, not_byte b 47 is_word refl, is_word) refl

pub word_joint : (word rest : List ℕ) → is_run word ≡ true → Stops rest → words_behind (word ++ rest) 0 ≡ word ∷ words_behind rest 0
unfolding words_behind
word_joint [] rest run stops = absurd cc
word_joint (b ∷ others) rest run stops =
    let is_word = both_left (is_word_byte b) (list_all is_word_byte others) run in
    let long = prefix_run others rest (both_right (is_word_byte b) (list_all is_word_byte others) run) stops in
    ap (λ front. led_by front b (others ++ rest) (words_behind (others ++ rest))) (front_run b (others ++ rest) is_word ∙ ap word_front long)
    ∙ ap₂ (λ first left. (b ∷ first) ∷ left) (take-append_seam others rest) (skipped others rest)

-- ---- the pieces of a line

run_next : (w rest : List ℕ) → is_run w ≡ true → IsNext letters (w ++ rest)
run_next [] rest run = absurd cc
run_next (b ∷ others) rest run = both_left (is_word_byte b) (list_all is_word_byte others) run

pieces_next : (pieces : List Piece) (rest : List ℕ) → Runs pieces → IsNext (next_of pieces) (flat_map piece_text pieces ++ (10 ∷ rest))
pieces_next [] rest runs = refl
pieces_next (text [] ∷ pieces) rest runs = pieces_next pieces rest runs
pieces_next (text (b ∷ others) ∷ pieces) rest runs = refl
pieces_next (word w ∷ pieces) rest runs = transport_next w (flat_map piece_text pieces) (10 ∷ rest) runs.0
  where
    transport_next : (w more rest : List ℕ) → is_run w ≡ true → IsNext letters ((w ++ more) ++ rest)
    transport_next [] more rest run = absurd cc
    transport_next (b ∷ others) more rest run = both_left (is_word_byte b) (list_all is_word_byte others) run

next_stops : (next : Next) (rest : List ℕ) → no_letter next ≡ true → IsNext next rest → Stops rest
next_stops letters rest none is_next = absurd cc
next_stops (byte b) [] none is_next = tt
next_stops (byte b) (first ∷ rest) none is_next = ap is_word_byte is_next ∙ not_true (is_word_byte b) none

pieces_joint : (pieces : List Piece) (rest : List ℕ) → is_joined pieces ≡ true → Runs pieces → words_behind (flat_map piece_text pieces ++ (10 ∷ rest)) 0 ≡ flat_map piece_words pieces ++ words_behind (10 ∷ rest) 0
pieces_joint [] rest joined runs = refl
pieces_joint (text bytes ∷ pieces) rest joined runs =
    let left = flat_map piece_text pieces ++ (10 ∷ rest) in
    ap (λ xs. words_behind xs 0) (append_assoc bytes (flat_map piece_text pieces) (10 ∷ rest))
    ∙ (joint bytes left (next_of pieces) 0 (both_left (is_parted bytes (next_of pieces)) (is_joined pieces) joined) (pieces_next pieces rest runs) (omega arith)
    ∙ (ap (λ xs. words_behind bytes 0 ++ xs) (pieces_joint pieces rest (both_right (is_parted bytes (next_of pieces)) (is_joined pieces) joined) runs)
    ∙ sym (append_assoc (words_behind bytes 0) (flat_map piece_words pieces) (words_behind (10 ∷ rest) 0))))
pieces_joint (word w ∷ pieces) rest joined runs =
    let left = flat_map piece_text pieces ++ (10 ∷ rest) in
    ap (λ xs. words_behind xs 0) (append_assoc w (flat_map piece_text pieces) (10 ∷ rest))
    ∙ (word_joint w left runs.0 (next_stops (next_of pieces) left (both_left (no_letter (next_of pieces)) (is_joined pieces) joined) (pieces_next pieces rest runs.1))
    ∙ ap (λ xs. w ∷ xs) (pieces_joint pieces rest (both_right (no_letter (next_of pieces)) (is_joined pieces) joined) runs.1))

-- ---- lines

spaces_skip : (n : ℕ) (rest : List ℕ) → words_behind (replicate n 32 ++ rest) 0 ≡ words_behind rest 0
unfolding words_behind
spaces_skip zero rest = refl
spaces_skip (suc n) rest = spaces_skip n rest

line_end : (rest : List ℕ) → words_behind (10 ∷ rest) 0 ≡ words_behind rest 0
unfolding words_behind
line_end rest = refl

line_joint : (l : Line) (rest : List ℕ) → IsFine l → words_behind (line_text l ++ rest) 0 ≡ line_words l ++ words_behind rest 0
unfolding line_text
line_joint l rest fine =
    ap (λ xs. words_behind xs 0) (append_assoc (replicate (4 * l.depth) 32) (flat_map piece_text l.pieces ++ codes "\n") rest ∙ ap (λ xs. replicate (4 * l.depth) 32 ++ xs) (append_assoc (flat_map piece_text l.pieces) (codes "\n") rest))
    ∙ (spaces_skip (4 * l.depth) (flat_map piece_text l.pieces ++ (10 ∷ rest))
    ∙ (pieces_joint l.pieces rest fine.joined fine.runs
    ∙ ap (λ xs. line_words l ++ xs) (line_end rest)))

lines_joint : (lines : List Line) (rest : List ℕ) → AreFine lines → words_behind (lines_text lines ++ rest) 0 ≡ lines_words lines ++ words_behind rest 0
lines_joint [] rest fine = refl
lines_joint (l ∷ lines) rest fine =
    ap (λ xs. words_behind xs 0) (append_assoc (line_text l) (lines_text lines) rest)
    ∙ (line_joint l (lines_text lines ++ rest) fine.0
    ∙ (ap (λ xs. line_words l ++ xs) (lines_joint lines rest fine.1)
    ∙ sym (append_assoc (line_words l) (lines_words lines) (words_behind rest 0))))

-- The words of the text of lines are the words of the lines.
pub words_of_lines : (lines : List Line) → AreFine lines → words_in (lines_text lines) ≡ lines_words lines
unfolding words_behind
words_of_lines lines fine =
    ap (λ xs. words_behind xs 0) (sym (append-nil (lines_text lines))) ∙ (lines_joint lines [] fine ∙ append-nil (lines_words lines))

-- lines that are fine, and more
pub fine-append : (lines more : List Line) → AreFine lines → AreFine more → AreFine (lines ++ more)
fine-append [] more fine fine_more = fine_more
fine-append (l ∷ lines) more fine fine_more = (fine.0, fine-append lines more fine.1 fine_more)

-- a line for each item
pub fine-map : {A : Type 0} (test : A → Bool) (line : A → Line) → ((item : A) → test item ≡ true → IsFine (line item)) → (items : List A) → list_all test items ≡ true → AreFine (map line items)
fine-map test line fine [] all = tt
fine-map test line fine (item ∷ items) all = (fine item (both_left (test item) (list_all test items) all), fine-map test line fine items (both_right (test item) (list_all test items) all))

-- lines for each item
pub fine-flat_map : {A : Type 0} (test : A → Bool) (lines : A → List Line) → ((item : A) → test item ≡ true → AreFine (lines item)) → (items : List A) → list_all test items ≡ true → AreFine (flat_map lines items)
fine-flat_map test lines fine [] all = tt
fine-flat_map test lines fine (item ∷ items) all = fine-append (lines item) (flat_map lines items) (fine item (both_left (test item) (list_all test items) all)) (fine-flat_map test lines fine items (both_right (test item) (list_all test items) all))
