-- The combinators of readings keep exactness.
use Rattle.std.proofs.Common.{◌≡◌, List, [], ◌∷◌, ◌++◌, Bool, true, false, Option, Some, None, ◌⊎◌, inl, inr, refl, sym, ap, ◌∙◌, append_assoc}
use Rattle.std.specs.Prelude.{◌&&◌, if◌then◌else◌}
use Rattle.std.specs.Str.{bytes_eq}
use Rattle.std.proofs.lemmas.Slice.Eq.{bytes_eq-Decides}
use Rattle.frag_words.specs.Words.{Word}
use Rattle.frag_words.specs.Readings.{Reading, IsExact, OneTree, then_read, expected, word_at, word_where, value_found, value_at, spelled, behind, followed, pair, mapped, words_of_either, valid_either, as_first, as_second, either}

-- ---- truths and options

pub both_left : (x y : Bool) → (x && y) ≡ true → x ≡ true
both_left true y h = refl
both_left false y h = h

pub both_right : (x y : Bool) → (x && y) ≡ true → y ≡ true
both_right true y h = h
both_right false true h = refl
both_right false false h = h

pub both : (x y : Bool) → x ≡ true → y ≡ true → (x && y) ≡ true
both true true h k = refl
both true false h k = k
both false y h k = h

abbrev pub given : {A : Type 0} → A → Option A
given x = Some x

pub some_is : {A : Type 0} (x y : A) → given x ≡ given y → x ≡ y
some_is x y h = cc

-- what a test let through
pub if_some : {A : Type 0} (hit : Bool) (o : Option A) (y : A) → (if hit then o else None) ≡ given y → (hit ≡ true) × (o ≡ given y)
if_some true o y h = (refl, h)
if_some false o y h = absurd cc

pub then_some : {A B : Type 0} (o : Option (A × List Word)) (step : A → List Word → Option B) (y : B) → then_read o step ≡ given y → (found : A × List Word) × (o ≡ given found) × (step found.0 found.1 ≡ given y)
then_some None step y h = absurd cc
then_some (Some found) step y h = (found, refl, h)

-- ---- fixed words

pub expected-append : {B : Type 0} (words rest : List Word) (step : List Word → Option B) → expected words (words ++ rest) step ≡ step rest
expected-append [] rest step = refl
expected-append (word ∷ words) rest step = rw ((bytes_eq-Decides word word).1 refl) (expected-append words rest step)

pub expected_some : {B : Type 0} (words text : List Word) (step : List Word → Option B) (y : B) → expected words text step ≡ given y → (rest : List Word) × (text ≡ words ++ rest) × (step rest ≡ given y)
expected_some [] text step y h = (text, refl, h)
expected_some (word ∷ words) [] step y h = absurd cc
expected_some (word ∷ words) (first ∷ others) step y h =
    let hit = if_some (bytes_eq word first) (expected words others step) y h in
    let more = expected_some words others step y hit.1 in
    let same : word ≡ first = (bytes_eq-Decides word first).0 hit.0 in
    let left : others ≡ words ++ more.0 = more.1 in
    let whole : first ∷ others ≡ word ∷ (words ++ more.0) = cc in
    (more.0, whole, more.2)

-- ---- one word

word_takes : (test : Word → Bool) (text : List Word) (word : Word) (rest : List Word) → word_at test text ≡ given (word, rest) → (text ≡ word ∷ rest) × (test word ≡ true)
word_takes test [] word rest h = absurd cc
word_takes test (first ∷ others) word rest h =
    let hit = if_some (test first) (given (first, others)) (word, rest) h in
    let same = some_is (first, others) (word, rest) hit.1 in
    let word_is : first ≡ word = ap (λ (p : Word × List Word). p.0) same in
    let rest_is : others ≡ rest = ap (λ (p : Word × List Word). p.1) same in
    (cc, ap test (sym word_is) ∙ hit.0)

pub word_exact : (test : Word → Bool) → IsExact Word (word_where test)
word_exact test = record {
  again = λ word rest valid. rw valid refl;
  takes = word_takes test;
}

found_takes : {A : Type 0} (o : Option A) (others : List Word) (value : A) (rest : List Word) → value_found o others ≡ given (value, rest) → (o ≡ given value) × (others ≡ rest)
found_takes None others value rest h = absurd cc
found_takes {A} (Some x) others value rest h =
    let same = some_is (x, others) (value, rest) h in
    (ap (λ (p : A × List Word). given p.0) same, ap (λ (p : A × List Word). p.1) same)

value_takes : {A : Type 0} (spell : A → Word) (is_valid : A → Bool) (find : Word → Option A) → ((word : Word) (value : A) → find word ≡ given value → (word ≡ spell value) × (is_valid value ≡ true)) → (text : List Word) (value : A) (rest : List Word) → value_at find text ≡ given (value, rest) → (text ≡ spell value ∷ rest) × (is_valid value ≡ true)
value_takes spell is_valid find spells [] value rest h = absurd cc
value_takes spell is_valid find spells (first ∷ others) value rest h =
    let hit = found_takes (find first) others value rest h in
    let of_word = spells first value hit.0 in
    let word_is : first ≡ spell value = of_word.0 in
    let rest_is : others ≡ rest = hit.1 in
    (cc, of_word.1)

pub spelled_exact : {A : Type 0} (spell : A → Word) (is_valid : A → Bool) (find : Word → Option A) → ((value : A) → is_valid value ≡ true → find (spell value) ≡ given value) → ((word : Word) (value : A) → find word ≡ given value → (word ≡ spell value) × (is_valid value ≡ true)) → IsExact A (spelled spell is_valid find)
spelled_exact spell is_valid find finds spells = record {
  again = λ value rest valid. ap (λ o. value_found o rest) (finds value valid);
  takes = value_takes spell is_valid find spells;
}

-- ---- sequences

pub behind_exact : {A : Type 0} (fixed : List Word) (reading : Reading A) → IsExact A reading → IsExact A (behind fixed reading)
behind_exact {A} fixed reading exact = record {
  again = λ tree rest valid.
      ap (λ text. expected fixed text reading.read) (append_assoc fixed (reading.words tree) rest)
      ∙ (expected-append fixed (reading.words tree ++ rest) reading.read ∙ exact.again tree rest valid);
  takes = λ text tree rest h.
      let hit = expected_some fixed text reading.read (tree, rest) h in
      let more = exact.takes hit.0 tree rest hit.2 in
      (hit.1 ∙ (ap (λ xs. fixed ++ xs) more.0 ∙ sym (append_assoc fixed (reading.words tree) rest)), more.1);
}

pub followed_exact : {A : Type 0} (reading : Reading A) (tail : A → List Word) → IsExact A reading → IsExact A (followed reading tail)
followed_exact {A} reading tail exact = record {
  again = λ tree rest valid.
      let found = ap reading.read (append_assoc (reading.words tree) (tail tree) rest) ∙ exact.again tree (tail tree ++ rest) valid in
      ap (λ (o : Option (A × List Word)). then_read o (λ one left. expected (tail one) left (λ end. Some (one, end)))) found
      ∙ expected-append (tail tree) rest (λ end. Some (tree, end));
  takes = λ text tree rest h.
      let hit = then_some (reading.read text) (λ one left. expected (tail one) left (λ end. Some (one, end))) (tree, rest) h in
      let more = exact.takes text hit.0.0 hit.0.1 hit.1 in
      let last = expected_some (tail hit.0.0) hit.0.1 (λ end. given (hit.0.0, end)) (tree, rest) hit.2 in
      let same = some_is (hit.0.0, last.0) (tree, rest) last.2 in
      let tree_is : hit.0.0 ≡ tree = ap (λ (p : A × List Word). p.0) same in
      let rest_is : last.0 ≡ rest = ap (λ (p : A × List Word). p.1) same in
      let whole : text ≡ (reading.words hit.0.0 ++ tail hit.0.0) ++ last.0 = more.0 ∙ (ap (λ xs. reading.words hit.0.0 ++ xs) last.1 ∙ sym (append_assoc (reading.words hit.0.0) (tail hit.0.0) last.0)) in
      (whole ∙ (ap (λ xs. (reading.words hit.0.0 ++ tail hit.0.0) ++ xs) rest_is ∙ ap (λ t. (reading.words t ++ tail t) ++ rest) tree_is), ap reading.is_valid (sym tree_is) ∙ more.1);
}

pub pair_exact : {A B : Type 0} (first : Reading A) (second : Reading B) → IsExact A first → IsExact B second → IsExact (A × B) (pair first second)
pair_exact {A} {B} first second exact_first exact_second = record {
  again = λ trees rest valid.
      let one = ap first.read (append_assoc (first.words trees.0) (second.words trees.1) rest) ∙ exact_first.again trees.0 (second.words trees.1 ++ rest) (both_left (first.is_valid trees.0) (second.is_valid trees.1) valid) in
      let other = exact_second.again trees.1 rest (both_right (first.is_valid trees.0) (second.is_valid trees.1) valid) in
      ap (λ (o : Option (A × List Word)). then_read o (λ a left. then_read (second.read left) (λ b end. Some ((a, b), end)))) one
      ∙ ap (λ (o : Option (B × List Word)). then_read o (λ b end. Some ((trees.0, b), end))) other;
  takes = λ text trees rest h.
      let hit = then_some (first.read text) (λ a left. then_read (second.read left) (λ b end. Some ((a, b), end))) (trees, rest) h in
      let more = exact_first.takes text hit.0.0 hit.0.1 hit.1 in
      let next = then_some (second.read hit.0.1) (λ b end. given ((hit.0.0, b), end)) (trees, rest) hit.2 in
      let last = exact_second.takes hit.0.1 next.0.0 next.0.1 next.1 in
      let same = some_is ((hit.0.0, next.0.0), next.0.1) (trees, rest) next.2 in
      let trees_are : (hit.0.0, next.0.0) ≡ trees = ap (λ (p : (A × B) × List Word). p.0) same in
      let rest_is : next.0.1 ≡ rest = ap (λ (p : (A × B) × List Word). p.1) same in
      let whole : text ≡ (first.words hit.0.0 ++ second.words next.0.0) ++ next.0.1 = more.0 ∙ (ap (λ xs. first.words hit.0.0 ++ xs) last.0 ∙ sym (append_assoc (first.words hit.0.0) (second.words next.0.0) next.0.1)) in (
        whole ∙ (ap (λ xs. (first.words hit.0.0 ++ second.words next.0.0) ++ xs) rest_is ∙ ap (λ (t : A × B). (first.words t.0 ++ second.words t.1) ++ rest) trees_are),
        ap (λ (t : A × B). first.is_valid t.0 && second.is_valid t.1) (sym trees_are) ∙ both (first.is_valid hit.0.0) (second.is_valid next.0.0) more.1 last.1,
      );
}

pub mapped_exact : {A B : Type 0} (to : A → B) (from : B → A) (reading : Reading A) → ((tree : B) → to (from tree) ≡ tree) → ((tree : A) → from (to tree) ≡ tree) → IsExact A reading → IsExact B (mapped to from reading)
mapped_exact {A} {B} to from reading back forth exact = record {
  again = λ tree rest valid.
      ap (λ (o : Option (A × List Word)). then_read o (λ t left. Some (to t, left))) (exact.again (from tree) rest valid)
      ∙ ap (λ t. Some (t, rest)) (back tree);
  takes = λ text tree rest h.
      let hit = then_some (reading.read text) (λ t left. Some (to t, left)) (tree, rest) h in
      let more = exact.takes text hit.0.0 hit.0.1 hit.1 in
      let same = some_is (to hit.0.0, hit.0.1) (tree, rest) hit.2 in
      let tree_is : hit.0.0 ≡ from tree = sym (forth hit.0.0) ∙ ap (λ (p : B × List Word). from p.0) same in
      let rest_is : hit.0.1 ≡ rest = ap (λ (p : B × List Word). p.1) same in
      (more.0 ∙ (ap (λ xs. reading.words hit.0.0 ++ xs) rest_is ∙ ap (λ t. reading.words t ++ rest) tree_is), ap reading.is_valid (sym tree_is) ∙ more.1);
}

-- ---- one of two

-- a test tells the first of two from the second
pub record Tells (A B : Type 0) (test : List Word → Bool) (first : Reading A) (second : Reading B) : Type 0 where
  pub yes : (tree : A) (rest : List Word) → first.is_valid tree ≡ true → test (first.words tree ++ rest) ≡ true
  pub no_other : (tree : B) (rest : List Word) → second.is_valid tree ≡ true → test (second.words tree ++ rest) ≡ false

either_again : {A B : Type 0} (test : List Word → Bool) (first : Reading A) (second : Reading B) → Tells A B test first second → IsExact A first → IsExact B second → (tree : A ⊎ B) (rest : List Word) → valid_either first second tree ≡ true → (either test first second).read (words_of_either first second tree ++ rest) ≡ given (tree, rest)
either_again {A} {B} test first second tells exact_first exact_second (inl tree) rest valid =
    ap (λ hit. if hit then then_read (first.read (first.words tree ++ rest)) (as_first {A = A} {B = B}) else then_read (second.read (first.words tree ++ rest)) (as_second {A = A} {B = B})) (tells.yes tree rest valid)
    ∙ ap (λ (o : Option (A × List Word)). then_read o (as_first {A = A} {B = B})) (exact_first.again tree rest valid)
either_again {A} {B} test first second tells exact_first exact_second (inr tree) rest valid =
    ap (λ hit. if hit then then_read (first.read (second.words tree ++ rest)) (as_first {A = A} {B = B}) else then_read (second.read (second.words tree ++ rest)) (as_second {A = A} {B = B})) (tells.no_other tree rest valid)
    ∙ ap (λ (o : Option (B × List Word)). then_read o (as_second {A = A} {B = B})) (exact_second.again tree rest valid)

-- whichever of the two was read
of_either : {A B : Type 0} (hit : Bool) (first : Reading A) (second : Reading B) → IsExact A first → IsExact B second → (text : List Word) (tree : A ⊎ B) (rest : List Word) → (if hit then then_read (first.read text) (as_first {A = A} {B = B}) else then_read (second.read text) (as_second {A = A} {B = B})) ≡ given (tree, rest) → (text ≡ words_of_either first second tree ++ rest) × (valid_either first second tree ≡ true)
of_either {A} {B} true first second exact_first exact_second text tree rest h =
    let hit = then_some (first.read text) (as_first {A = A} {B = B}) (tree, rest) h in
    let more = exact_first.takes text hit.0.0 hit.0.1 hit.1 in
    let first_of_two : A ⊎ B = inl hit.0.0 in
    let same = some_is (first_of_two, hit.0.1) (tree, rest) hit.2 in
    let tree_is = ap (λ (p : (A ⊎ B) × List Word). p.0) same in
    let rest_is : hit.0.1 ≡ rest = ap (λ (p : (A ⊎ B) × List Word). p.1) same in
    (more.0 ∙ (ap (λ xs. first.words hit.0.0 ++ xs) rest_is ∙ ap (λ (t : A ⊎ B). words_of_either first second t ++ rest) tree_is), ap (valid_either first second) (sym tree_is) ∙ more.1)
of_either {A} {B} false first second exact_first exact_second text tree rest h =
    let hit = then_some (second.read text) (as_second {A = A} {B = B}) (tree, rest) h in
    let more = exact_second.takes text hit.0.0 hit.0.1 hit.1 in
    let second_of_two : A ⊎ B = inr hit.0.0 in
    let same = some_is (second_of_two, hit.0.1) (tree, rest) hit.2 in
    let tree_is = ap (λ (p : (A ⊎ B) × List Word). p.0) same in
    let rest_is : hit.0.1 ≡ rest = ap (λ (p : (A ⊎ B) × List Word). p.1) same in
    (more.0 ∙ (ap (λ xs. second.words hit.0.0 ++ xs) rest_is ∙ ap (λ (t : A ⊎ B). words_of_either first second t ++ rest) tree_is), ap (valid_either first second) (sym tree_is) ∙ more.1)

pub either_exact : {A B : Type 0} (test : List Word → Bool) (first : Reading A) (second : Reading B) → Tells A B test first second → IsExact A first → IsExact B second → IsExact (A ⊎ B) (either test first second)
either_exact test first second tells exact_first exact_second = record {
  again = either_again test first second tells exact_first exact_second;
  takes = λ text tree rest h. of_either (test text) first second exact_first exact_second text tree rest h;
}

-- ---- uniqueness

-- An exact reading has one tree for a text.
pub one_tree : {A : Type 0} (reading : Reading A) → IsExact A reading → OneTree A reading.words reading.is_valid
one_tree {A} reading exact one other rest more valid valid_other same =
    let read = some_is (one, rest) (other, more) (sym (exact.again one rest valid) ∙ (ap reading.read same ∙ exact.again other more valid_other)) in
    (ap (λ (p : A × List Word). p.0) read, ap (λ (p : A × List Word). p.1) read)
