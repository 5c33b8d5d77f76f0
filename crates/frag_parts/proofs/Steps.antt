-- What the readers of the productions do, step by step: each combinator of readings, with what is to be done with the tree that it gives.
use Rattle.std.proofs.Common.{ℕ, zero, suc, ◌≡◌, List, [], ◌∷◌, ◌++◌, length, Bool, true, false, Option, Some, None, ◌⊎◌, inl, inr, refl, ap, ◌∙◌}
use Rattle.std.specs.Prelude.{◌&&◌, if◌then◌else◌}
use Rattle.std.specs.Str.{bytes_eq}
use Rattle.text_scan.specs.Steps.{◌>>=◌}
use Rattle.frag_words.specs.Words.{Word}
use Rattle.frag_words.specs.Readings.{Reading, then_read, expected, value_found, value_at, as_first, as_second, no_items, one_more, items_then, option_to, option_then, flag_to, flag_then}
use Rattle.frag_token.specs.Reading.{Found, expects, first_at, many_at, many_up_to, word_then}

-- A reader, and what it does with what is to be done with the tree that it gives.
pub record Does (A B : Type 0) (read : List Word → Found A) (run : List Word → (A → List Word → Option B) → Option B) : Type 0 where
  pub does : (text : List Word) (next : A → List Word → Option B) → then_read (read text) next ≡ run text next

then_bound : {A B : Type 0} (o : Found A) (next : A → List Word → Option B) → then_read o next ≡ (o >>= λ found. next found.0 found.1)
then_bound None next = refl
then_bound (Some found) next = refl

-- a reader whose answers are known
pub does_known : {A B : Type 0} (read known : List Word → Found A) → ((text : List Word) → read text ≡ known text) → Does A B read (λ text next. known text >>= λ found. next found.0 found.1)
does_known {A} {B} read known same = record { does = λ text next. ap (λ (o : Found A). then_read o next) (same text) ∙ then_bound (known text) next }

then_some : {A : Type 0} (o : Found A) → o ≡ then_read o (λ tree rest. Some (tree, rest))
then_some None = refl
then_some (Some found) = refl

-- the answers of a reader of which it is known what it does
pub reads : {A : Type 0} {read : List Word → Found A} {run : List Word → (A → List Word → Found A) → Found A} → Does A (A × List Word) read run → (text : List Word) → read text ≡ run text (λ tree rest. Some (tree, rest))
reads {A} {read} {run} done text = then_some (read text) ∙ done.does text (λ tree rest. Some (tree, rest))

-- ---- words

first_expected : {B : Type 0} (hit : Bool) (others : List Word) (one : Option B) (more : List Word → Option (List Word)) (step : List Word → Option B) → one ≡ (more others >>= step) → (if hit then one else None) ≡ (((if hit then Some others else None) >>= more) >>= step)
first_expected true others one more step e = e
first_expected false others one more step e = refl

pub expected_is : {B : Type 0} (words text : List Word) (step : List Word → Option B) → expected words text step ≡ (expects words text >>= step)
unfolding expects word_then first_at
expected_is [] text step = refl
expected_is (word ∷ words) [] step = refl
expected_is (word ∷ words) (first ∷ others) step = first_expected (bytes_eq word first) others (expected words others step) (expects words) step (expected_is words others step)

then_through : {A B : Type 0} (o : Option (List Word)) (read : List Word → Found A) (next : A → List Word → Option B) → then_read (o >>= read) next ≡ (o >>= λ rest. then_read (read rest) next)
then_through None read next = refl
then_through (Some rest) read next = refl

through : {A B : Type 0} (words text : List Word) (read : List Word → Found A) (next : A → List Word → Option B) → then_read (expected words text read) next ≡ (expects words text >>= λ rest. then_read (read rest) next)
through {A} words text read next = ap (λ (o : Found A). then_read o next) (expected_is words text read) ∙ then_through (expects words text) read next

bound_same : {A B : Type 0} (o : Option A) (one other : A → Option B) → ((x : A) → one x ≡ other x) → (o >>= one) ≡ (o >>= other)
bound_same None one other same = refl
bound_same (Some x) one other same = same x

-- words in three pieces, of which the middle one is a single word
in_three : {B : Type 0} (o : Option (List Word)) (back : List Word) (step : List Word → Option B) → ((o >>= λ rest. expects back rest) >>= step) ≡ (o >>= λ left. expects back left >>= step)
in_three None back step = refl
in_three (Some rest) back step = refl

in_front : {B : Type 0} (o : Option (List Word)) (one : List Word → Option (List Word)) (front : List Word) (step more : List Word → Option B) → ((rest : List Word) → (one rest >>= step) ≡ (expects front rest >>= more)) → ((o >>= one) >>= step) ≡ ((o >>= λ rest. expects front rest) >>= more)
in_front None one front step more same = refl
in_front (Some rest) one front step more same = same rest

after_both : (o : Option (List Word)) (one front back : List Word → Option (List Word)) → ((rest : List Word) → one rest ≡ (front rest >>= back)) → (o >>= one) ≡ ((o >>= front) >>= back)
after_both None one front back same = refl
after_both (Some rest) one front back same = same rest

pub expects-append : (front back text : List Word) → expects (front ++ back) text ≡ (expects front text >>= λ rest. expects back rest)
unfolding expects
expects-append [] back text = refl
expects-append (word ∷ front) back text = after_both (word_then word text) (expects (front ++ back)) (expects front) (expects back) (λ rest. expects-append front back rest)

expects_three : {B : Type 0} (front back text : List Word) (word : Word) (step : List Word → Option B) → (expects (front ++ word ∷ back) text >>= step) ≡ (expects front text >>= λ rest. word_then word rest >>= λ left. expects back left >>= step)
unfolding expects
expects_three [] back text word step = in_three (word_then word text) back step
expects_three (first ∷ front) back text word step =
    in_front (word_then first text) (λ rest. expects (front ++ word ∷ back) rest) front step (λ rest. word_then word rest >>= λ left. expects back left >>= step) (λ rest. expects_three front back rest word step)

-- ---- combinators

pub does_behind : {A B : Type 0} {read : List Word → Found A} {run : List Word → (A → List Word → Option B) → Option B} (fixed : List Word) → Does A B read run → Does A B (λ text. expected fixed text read) (λ text next. expects fixed text >>= λ rest. run rest next)
does_behind {A} {B} {read} {run} fixed done = record {
  does = λ text next.
      through fixed text read next ∙ bound_same (expects fixed text) (λ rest. then_read (read rest) next) (λ rest. run rest next) (λ rest. done.does rest next);
}

pair_inner : {A B C : Type 0} (tree : A) (o : Found B) (next : A × B → List Word → Option C) → then_read (then_read o (λ more left. Some ((tree, more), left))) next ≡ then_read o (λ more left. next (tree, more) left)
pair_inner tree None next = refl
pair_inner tree (Some found) next = refl

pair_outer : {A B C : Type 0} (o : Found A) (second : List Word → Found B) (next : A × B → List Word → Option C) (after : A → List Word → Option C) → ((tree : A) (rest : List Word) → then_read (then_read (second rest) (λ more left. Some ((tree, more), left))) next ≡ after tree rest) → then_read (then_read o (λ tree rest. then_read (second rest) (λ more left. Some ((tree, more), left)))) next ≡ then_read o after
pair_outer None second next after same = refl
pair_outer (Some found) second next after same = same found.0 found.1

pub does_pair : {A B C : Type 0} {first : List Word → Found A} {second : List Word → Found B} {one : List Word → (A → List Word → Option C) → Option C} {other : List Word → (B → List Word → Option C) → Option C} → Does A C first one → Does B C second other → Does (A × B) C (λ text. then_read (first text) (λ tree rest. then_read (second rest) (λ more left. Some ((tree, more), left)))) (λ text next. one text (λ tree rest. other rest (λ more left. next (tree, more) left)))
does_pair {A} {B} {C} {first} {second} {one} {other} does_first does_second = record {
  does = λ text next.
      pair_outer (first text) second next (λ tree rest. other rest (λ more left. next (tree, more) left)) (λ tree rest. pair_inner tree (second rest) next ∙ does_second.does rest (λ more left. next (tree, more) left))
      ∙ does_first.does text (λ tree rest. other rest (λ more left. next (tree, more) left));
}

followed_by : {A B : Type 0} (o : Found A) (tail : A → List Word) (next : A → List Word → Option B) (after : A → List Word → Option B) → ((tree : A) (rest : List Word) → (expects (tail tree) rest >>= λ left. next tree left) ≡ after tree rest) → then_read (then_read o (λ tree rest. expected (tail tree) rest (λ left. Some (tree, left)))) next ≡ then_read o after
followed_by None tail next after same = refl
followed_by (Some found) tail next after same = through (tail found.0) found.1 (λ left. Some (found.0, left)) next ∙ same found.0 found.1

pub does_followed : {A B : Type 0} {read : List Word → Found A} {run : List Word → (A → List Word → Option B) → Option B} (tail : A → List Word) → Does A B read run → Does A B (λ text. then_read (read text) (λ tree rest. expected (tail tree) rest (λ left. Some (tree, left)))) (λ text next. run text (λ tree rest. expects (tail tree) rest >>= λ left. next tree left))
does_followed {A} {B} {read} {run} tail done = record {
  does = λ text next.
      followed_by (read text) tail next (λ tree rest. expects (tail tree) rest >>= λ left. next tree left) (λ tree rest. refl)
      ∙ done.does text (λ tree rest. expects (tail tree) rest >>= λ left. next tree left);
}

pub does_three : {A B : Type 0} {read : List Word → Found A} {run : List Word → (A → List Word → Option B) → Option B} (front : List Word) (word : A → Word) (back : List Word) → Does A B read run → Does A B (λ text. then_read (read text) (λ tree rest. expected (front ++ word tree ∷ back) rest (λ left. Some (tree, left)))) (λ text next. run text (λ tree rest. expects front rest >>= λ behind_front. word_then (word tree) behind_front >>= λ behind_word. expects back behind_word >>= λ left. next tree left))
does_three {A} {B} {read} {run} front word back done = record {
  does = λ text next.
      followed_by (read text) (λ tree. front ++ word tree ∷ back) next (λ tree rest. expects front rest >>= λ behind_front. word_then (word tree) behind_front >>= λ behind_word. expects back behind_word >>= λ left. next tree left) (λ tree rest. expects_three front back rest (word tree) (λ left. next tree left))
      ∙ done.does text (λ tree rest. expects front rest >>= λ behind_front. word_then (word tree) behind_front >>= λ behind_word. expects back behind_word >>= λ left. next tree left);
}

mapped_by : {A B C : Type 0} (o : Found A) (to : A → B) (next : B → List Word → Option C) → then_read (then_read o (λ tree rest. Some (to tree, rest))) next ≡ then_read o (λ tree rest. next (to tree) rest)
mapped_by None to next = refl
mapped_by (Some found) to next = refl

pub does_mapped : {A B C : Type 0} {read : List Word → Found A} {run : List Word → (A → List Word → Option C) → Option C} (to : A → B) → Does A C read run → Does B C (λ text. then_read (read text) (λ tree rest. Some (to tree, rest))) (λ text next. run text (λ tree rest. next (to tree) rest))
does_mapped {A} {B} {C} {read} {run} to done = record { does = λ text next. mapped_by (read text) to next ∙ done.does text (λ tree rest. next (to tree) rest) }

as_one : {A B C : Type 0} (o : Found A) (next : A ⊎ B → List Word → Option C) → then_read (then_read o (as_first {A = A} {B = B})) next ≡ then_read o (λ tree rest. next (inl tree) rest)
as_one None next = refl
as_one (Some found) next = refl

as_other : {A B C : Type 0} (o : Found B) (next : A ⊎ B → List Word → Option C) → then_read (then_read o (as_second {A = A} {B = B})) next ≡ then_read o (λ tree rest. next (inr tree) rest)
as_other None next = refl
as_other (Some found) next = refl

chosen : {A B C : Type 0} (hit : Bool) (o : Found A) (p : Found B) (next : A ⊎ B → List Word → Option C) (one other : Option C) → then_read o (λ tree rest. next (inl tree) rest) ≡ one → then_read p (λ tree rest. next (inr tree) rest) ≡ other → then_read (if hit then then_read o (as_first {A = A} {B = B}) else then_read p (as_second {A = A} {B = B})) next ≡ (if hit then one else other)
chosen {A} {B} true o p next one other first second = as_one {A = A} {B = B} o next ∙ first
chosen {A} {B} false o p next one other first second = as_other {A = A} {B = B} p next ∙ second

pub does_either : {A B C : Type 0} {first : List Word → Found A} {second : List Word → Found B} {one : List Word → (A → List Word → Option C) → Option C} {other : List Word → (B → List Word → Option C) → Option C} (test : List Word → Bool) → Does A C first one → Does B C second other → Does (A ⊎ B) C (λ text. if test text then then_read (first text) (as_first {A = A} {B = B}) else then_read (second text) (as_second {A = A} {B = B})) (λ text next. if test text then one text (λ tree rest. next (inl tree) rest) else other text (λ tree rest. next (inr tree) rest))
does_either {A} {B} {C} {first} {second} {one} {other} test does_first does_second = record {
  does = λ text next. chosen (test text) (first text) (second text) next (one text (λ tree rest. next (inl tree) rest)) (other text (λ tree rest. next (inr tree) rest)) (does_first.does text (λ tree rest. next (inl tree) rest)) (does_second.does text (λ tree rest. next (inr tree) rest));
}

pub does_nothing : {B : Type 0} → Does (Unit {0}) B (λ text. Some (tt, text)) (λ text next. next tt text)
does_nothing = record { does = λ text next. refl }

-- ---- lists

-- the items, and the tree behind them
abbrev finished : {A B : Type 0} → (List Word → Found B) → List A × List Word → Found (List A × B)
finished end items = then_read (end items.1) (λ tree rest. Some ((items.0, tree), rest))

none_left : {A B : Type 0} (hit : Bool) (end : List Word → Found B) (text : List Word) → (if hit then None else then_read (end text) (no_items {A = A} {B = B})) ≡ ((if hit then None else Some ([], text)) >>= finished {A = A} {B = B} end)
none_left true end text = refl
none_left false end text = refl

in_front_of : {A B : Type 0} (first : A) (items : List A) (o : Found B) → then_read (then_read o (λ tree rest. Some ((items, tree), rest))) (one_more {A = A} {B = B} first) ≡ then_read o (λ tree rest. Some ((first ∷ items, tree), rest))
in_front_of first items None = refl
in_front_of first items (Some found) = refl

more_items : {A B : Type 0} (first : A) (o : Found (List A)) (end : List Word → Found B) → then_read (o >>= finished end) (one_more {A = A} {B = B} first) ≡ ((o >>= λ others. Some (first ∷ others.0, others.1)) >>= finished end)
more_items first None end = refl
more_items first (Some items) end = in_front_of first items.0 (end items.1)

one_item : {A B : Type 0} (o : Found A) (end : List Word → Found B) (many : List Word → Found (List A)) (all : List Word → Found (List A × B)) → ((rest : List Word) → all rest ≡ (many rest >>= finished end)) → then_read o (λ first rest. then_read (all rest) (one_more {A = A} {B = B} first)) ≡ ((o >>= λ found. many found.1 >>= λ others. Some (found.0 ∷ others.0, others.1)) >>= finished end)
one_item None end many all same = refl
one_item {A} {B} (Some found) end many all same = ap (λ (o : Found (List A × B)). then_read o (one_more {A = A} {B = B} found.0)) (same found.1) ∙ more_items found.0 (many found.1) end

some_left : {A B : Type 0} (hit : Bool) (text : List Word) (end : List Word → Found B) (items : Found (List A × B)) (many : Found (List A)) → items ≡ (many >>= finished end) → (if hit then items else then_read (end text) (no_items {A = A} {B = B})) ≡ ((if hit then many else Some ([], text)) >>= finished end)
some_left true text end items many same = same
some_left false text end items many same = refl

items_are : {A B : Type 0} (test : List Word → Bool) (item : Reading A) (end : Reading B) (n : ℕ) (text : List Word) → items_then test item end n text ≡ (many_up_to test item.read n text >>= finished end.read)
unfolding items_then many_up_to
items_are {A} {B} test item end zero text = none_left {A = A} {B = B} (test text) end.read text
items_are {A} {B} test item end (suc n) text =
    some_left (test text) text end.read (then_read (item.read text) (λ first rest. then_read (items_then test item end n rest) (one_more {A = A} {B = B} first))) (item.read text >>= λ found. many_up_to test item.read n found.1 >>= λ others. Some (found.0 ∷ others.0, others.1))
    (one_item (item.read text) end.read (many_up_to test item.read n) (items_then test item end n) (λ rest. items_are test item end n rest))

then_finished : {A B C : Type 0} (items : List A) (o : Found B) (next : List A × B → List Word → Option C) → then_read (then_read o (λ tree rest. Some ((items, tree), rest))) next ≡ then_read o (λ tree rest. next (items, tree) rest)
then_finished items None next = refl
then_finished items (Some found) next = refl

all_finished : {A B C : Type 0} (o : Found (List A)) (end : List Word → Found B) (next : List A × B → List Word → Option C) (after : List A × List Word → Option C) → ((items : List A × List Word) → then_read (end items.1) (λ tree rest. next (items.0, tree) rest) ≡ after items) → then_read (o >>= finished end) next ≡ (o >>= after)
all_finished None end next after same = refl
all_finished (Some items) end next after same = then_finished items.0 (end items.1) next ∙ same items

pub does_list : {A B C : Type 0} {run : List Word → (B → List Word → Option C) → Option C} (test : List Word → Bool) (item : Reading A) (end : Reading B) → Does B C end.read run → Does (List A × B) C (λ text. items_then test item end (length text) text) (λ text next. many_at test item.read text >>= λ items. run items.1 (λ tree rest. next (items.0, tree) rest))
unfolding many_at
does_list {A} {B} {C} {run} test item end done = record {
  does = λ text next.
      ap (λ (o : Found (List A × B)). then_read o next) (items_are test item end (length text) text)
      ∙ all_finished (many_up_to test item.read (length text) text) end.read next (λ items. run items.1 (λ tree rest. next (items.0, tree) rest)) (λ items. done.does items.1 (λ tree rest. next (items.0, tree) rest));
}

-- ---- parts that may be there

-- a part that may be there
abbrev pub part_of : {A : Type 0} → Bool → Found A → List Word → Found (Option A)
part_of hit o text = if hit then (o >>= λ part. Some (Some part.0, part.1)) else Some (None, text)

part_chosen : {A C : Type 0} (hit : Bool) (o : Found A) (text : List Word) (after : Option A → List Word → Option C) → (if hit then (o >>= λ found. after (Some found.0) found.1) else after None text) ≡ (part_of hit o text >>= λ found. after found.0 found.1)
part_chosen true None text after = refl
part_chosen true (Some found) text after = refl
part_chosen false o text after = refl

pub does_option : {A B C : Type 0} {run : List Word → (B → List Word → Option C) → Option C} {known : List Word → Found A} (test : List Word → Bool) (part : Reading A) (end : Reading B) → ((text : List Word) → part.read text ≡ known text) → Does B C end.read run → Does (Option A × B) C (option_then test part end).read (λ text next. part_of (test text) (known text) text >>= λ found. run found.1 (λ tree rest. next (found.0, tree) rest))
does_option {A} {B} {C} {run} {known} test part end same done = record {
  does = λ text next.
      (does_mapped (option_to {A = A} {B = B}) (does_either test (does_pair (does_known part.read known same) done) done)).does text next
      ∙ part_chosen (test text) (known text) text (λ found rest. run rest (λ tree left. next (found, tree) left));
}

-- fixed words that may be there
abbrev pub flag_of : Bool → Option (List Word) → List Word → Found Bool
flag_of hit o text = if hit then (o >>= λ rest. Some (true, rest)) else Some (false, text)

flag_picked : {C : Type 0} (hit : Bool) (o : Option (List Word)) (text : List Word) (after : Bool → List Word → Option C) → (if hit then (o >>= λ rest. after true rest) else after false text) ≡ (flag_of hit o text >>= λ found. after found.0 found.1)
flag_picked true None text after = refl
flag_picked true (Some rest) text after = refl
flag_picked false o text after = refl

pub does_flag : {B C : Type 0} {run : List Word → (B → List Word → Option C) → Option C} (test : List Word → Bool) (fixed : List Word) (end : Reading B) → Does B C end.read run → Does (Bool × B) C (flag_then test fixed end).read (λ text next. flag_of (test text) (expects fixed text) text >>= λ found. run found.1 (λ tree rest. next (found.0, tree) rest))
does_flag {B} {C} {run} test fixed end done = record {
  does = λ text next.
      (does_mapped (flag_to {B = B}) (does_either test (does_behind fixed done) done)).does text next
      ∙ flag_picked (test text) (expects fixed text) text (λ flag rest. run rest (λ tree left. next (flag, tree) left));
}

-- ---- single words

found_is : {A : Type 0} (o : Option A) (others : List Word) → value_found o others ≡ (o >>= λ value. Some (value, others))
found_is None others = refl
found_is (Some value) others = refl

pub value_is : {A : Type 0} (find : Word → Option A) (text : List Word) → value_at find text ≡ (first_at text >>= λ first. find first.0 >>= λ value. Some (value, first.1))
unfolding first_at
value_is find [] = refl
value_is find (first ∷ others) = found_is (find first) others

-- ---- one of two productions of the same trees, the first of which may not be allowed

pub apart : {A B : Type 0} (allowed hit : Bool) (one other : Found A) (step : A → List Word → Option B) (first second : Option B) → then_read one step ≡ first → then_read other step ≡ second → then_read (if allowed && hit then (if allowed then one else None) else other) step ≡ (if allowed && hit then first else second)
apart true true one other step first second same same_other = same
apart true false one other step first second same same_other = same_other
apart false hit one other step first second same same_other = same_other
