-- The further combinators of readings keep exactness.
use Rattle.std.proofs.Common.{◌≡◌, List, [], ◌∷◌, ◌++◌, Bool, true, false, Option, Some, None, ◌⊎◌, inl, inr, refl, sym, ap, ◌∙◌}
use Rattle.std.specs.Prelude.{if◌then◌else◌}
use Rattle.std.specs.Str.{bytes_eq}
use Rattle.std.proofs.lemmas.Slice.Eq.{bytes_eq-Decides}
use Rattle.std.proofs.lemmas.List.{append-nil}
use Rattle.frag_words.specs.Words.{Word}
use Rattle.frag_words.specs.Readings.{Reading, IsExact, behind, pair, either, list_then, restated, nothing, fixed_words, among, one_of, truth_of, side_of, choice, list_until, option_to, option_side, option_from, option_then, flag_to, flag_side, flag_from, flag_then, only_if, told_apart, words_of_part, valid_part, within, then_read}
use Rattle.frag_words.proofs.Readings.{Tells, given, some_is, then_some, behind_exact, pair_exact, mapped_exact, either_exact, spelled_exact}
use Rattle.frag_words.proofs.Lists.{Ends, list_exact}

pub restated_exact : {A : Type 0} (words : A → List Word) (is_valid : A → Bool) (reading : Reading A) → ((tree : A) → words tree ≡ reading.words tree) → ((tree : A) → is_valid tree ≡ reading.is_valid tree) → IsExact A reading → IsExact A (restated words is_valid reading)
restated_exact words is_valid reading words_are valid_is exact = record {
  again = λ tree rest valid. ap (λ xs. reading.read (xs ++ rest)) (words_are tree) ∙ exact.again tree rest (sym (valid_is tree) ∙ valid);
  takes = λ text tree rest h.
      let more = exact.takes text tree rest h in
      (more.0 ∙ ap (λ xs. xs ++ rest) (sym (words_are tree)), valid_is tree ∙ more.1);
}

pub nothing_exact : IsExact (Unit {0}) nothing
nothing_exact = record {
  again = λ tree rest valid. refl;
  takes = λ text tree rest h. (ap (λ (p : Unit {0} × List Word). p.1) (some_is (tt, text) (tree, rest) h), refl);
}

pub fixed_exact : (fixed : List Word) → IsExact (Unit {0}) (fixed_words fixed)
fixed_exact fixed = behind_exact fixed nothing nothing_exact

among_of : {A : Type 0} (hit : Bool) (spell : A → Word) (first : A) (values : List A) (word : Word) (value : A) → (hit ≡ true → spell first ≡ word) → ((among spell values word ≡ given value) → word ≡ spell value) → (if hit then given first else among spell values word) ≡ given value → word ≡ spell value
among_of true spell first values word value same others h = sym (same refl) ∙ ap spell (some_is first value h)
among_of false spell first values word value same others h = others h

among_spells : {A : Type 0} (spell : A → Word) (values : List A) (word : Word) (value : A) → among spell values word ≡ given value → word ≡ spell value
among_spells spell [] word value h = absurd cc
among_spells spell (first ∷ values) word value h =
    among_of (bytes_eq (spell first) word) spell first values word value (bytes_eq-Decides (spell first) word).0 (among_spells spell values word value) h

pub one_of_exact : {A : Type 0} (spell : A → Word) (values : List A) → ((value : A) → among spell values (spell value) ≡ given value) → IsExact A (one_of spell values)
one_of_exact spell values all = spelled_exact spell (λ _. true) (among spell values) (λ value valid. all value) (λ word value h. (among_spells spell values word value h, refl))

-- a test tells one run of fixed words from another
pub record TellsWords (test : List Word → Bool) (true_words false_words : List Word) : Type 0 where
  pub holds : (rest : List Word) → test (true_words ++ rest) ≡ true
  pub fails : (rest : List Word) → test (false_words ++ rest) ≡ false

pub choice_exact : (test : List Word → Bool) (true_words false_words : List Word) → TellsWords test true_words false_words → IsExact Bool (choice test true_words false_words)
choice_exact test true_words false_words tells =
    mapped_exact truth_of side_of (either test (fixed_words true_words) (fixed_words false_words)) back forth
    (either_exact test (fixed_words true_words) (fixed_words false_words)
    (record {
      yes = λ tree rest valid. ap (λ xs. test (xs ++ rest)) (append-nil true_words) ∙ tells.holds rest;
      no_other = λ tree rest valid. ap (λ xs. test (xs ++ rest)) (append-nil false_words) ∙ tells.fails rest;
    })
    (fixed_exact true_words) (fixed_exact false_words))
  where
    back : (truth : Bool) → truth_of (side_of truth) ≡ truth
    back true = refl
    back false = refl

    forth : (side : Unit {0} ⊎ Unit {0}) → side_of (truth_of side) ≡ side
    forth (inl x) = refl
    forth (inr x) = refl

pub list_until_exact : {A : Type 0} (test : List Word → Bool) (item : Reading A) (closer : List Word) → Ends A (Unit {0}) test item (fixed_words closer) → IsExact A item → IsExact (List A) (list_until test item closer)
list_until_exact test item closer ends exact =
    mapped_exact (λ trees. trees.0) (λ trees. (trees, tt)) (list_then test item (fixed_words closer)) (λ tree. refl) (λ tree. refl) (list_exact test item (fixed_words closer) ends exact (fixed_exact closer))

pub option_exact : {A B : Type 0} (test : List Word → Bool) (part : Reading A) (end : Reading B) → Tells (A × B) B test (pair part end) end → IsExact A part → IsExact B end → IsExact (Option A × B) (option_then test part end)
option_exact {A} {B} test part end tells exact_part exact =
    mapped_exact option_to option_from (either test (pair part end) end) back forth (either_exact test (pair part end) end tells (pair_exact part end exact_part exact) exact)
  where
    of_side : (o : Option A) (tree : B) → option_to (option_side o tree) ≡ (o, tree)
    of_side None tree = refl
    of_side (Some x) tree = refl

    back : (trees : Option A × B) → option_to (option_from trees) ≡ trees
    back trees = of_side trees.0 trees.1

    forth : (side : (A × B) ⊎ B) → option_from (option_to side) ≡ side
    forth (inl x) = refl
    forth (inr x) = refl

pub flag_exact : {B : Type 0} (test : List Word → Bool) (fixed : List Word) (end : Reading B) → Tells B B test (behind fixed end) end → IsExact B end → IsExact (Bool × B) (flag_then test fixed end)
flag_exact {B} test fixed end tells exact =
    mapped_exact flag_to flag_from (either test (behind fixed end) end) back forth (either_exact test (behind fixed end) end tells (behind_exact fixed end exact) exact)
  where
    of_side : (flag : Bool) (tree : B) → flag_to (flag_side flag tree) ≡ (flag, tree)
    of_side true tree = refl
    of_side false tree = refl

    back : (trees : Bool × B) → flag_to (flag_from trees) ≡ trees
    back trees = of_side trees.0 trees.1

    forth : (side : B ⊎ B) → flag_from (flag_to side) ≡ side
    forth (inl x) = refl
    forth (inr x) = refl

pub only_if_exact : {A : Type 0} (allowed : Bool) (reading : Reading A) → IsExact A reading → IsExact A (only_if allowed reading)
only_if_exact true reading exact = record { again = exact.again; takes = exact.takes }
only_if_exact false reading exact = record { again = λ tree rest valid. absurd cc; takes = λ text tree rest h. absurd cc }

-- tests of the text and of the tree tell two productions apart
pub record Sides (A : Type 0) (test : List Word → Bool) (side : A → Bool) (first second : Reading A) : Type 0 where
  pub yes : (tree : A) (rest : List Word) → first.is_valid tree ≡ true → (side tree ≡ true) × (test (first.words tree ++ rest) ≡ true)
  pub no_other : (tree : A) (rest : List Word) → second.is_valid tree ≡ true → (side tree ≡ false) × (test (second.words tree ++ rest) ≡ false)

side_again : {A : Type 0} (test : List Word → Bool) (first second : Reading A) (tree : A) (rest : List Word) (hit : Bool) → IsExact A first → IsExact A second → (first.is_valid tree ≡ true → test (first.words tree ++ rest) ≡ true) → (second.is_valid tree ≡ true → test (second.words tree ++ rest) ≡ false) → (if hit then first.is_valid tree else second.is_valid tree) ≡ true → (if test ((if hit then first.words tree else second.words tree) ++ rest) then first.read ((if hit then first.words tree else second.words tree) ++ rest) else second.read ((if hit then first.words tree else second.words tree) ++ rest)) ≡ given (tree, rest)
side_again test first second tree rest true exact_first exact_second of_first of_second valid =
    ap (λ b. if b then first.read (first.words tree ++ rest) else second.read (first.words tree ++ rest)) (of_first valid) ∙ exact_first.again tree rest valid
side_again test first second tree rest false exact_first exact_second of_first of_second valid =
    ap (λ b. if b then first.read (second.words tree ++ rest) else second.read (second.words tree ++ rest)) (of_second valid) ∙ exact_second.again tree rest valid

side_takes : {A : Type 0} (test : List Word → Bool) (side : A → Bool) (first second : Reading A) → Sides A test side first second → IsExact A first → IsExact A second → (text : List Word) (tree : A) (rest : List Word) (hit : Bool) → (if hit then first.read text else second.read text) ≡ given (tree, rest) → (text ≡ (if side tree then first.words tree else second.words tree) ++ rest) × ((if side tree then first.is_valid tree else second.is_valid tree) ≡ true)
side_takes test side first second sides exact_first exact_second text tree rest true h =
    let taken = exact_first.takes text tree rest h in
    let is = (sides.yes tree rest taken.1).0 in
    (taken.0 ∙ ap (λ b. (if b then first.words tree else second.words tree) ++ rest) (sym is), ap (λ b. if b then first.is_valid tree else second.is_valid tree) is ∙ taken.1)
side_takes test side first second sides exact_first exact_second text tree rest false h =
    let taken = exact_second.takes text tree rest h in
    let is = (sides.no_other tree rest taken.1).0 in
    (taken.0 ∙ ap (λ b. (if b then first.words tree else second.words tree) ++ rest) (sym is), ap (λ b. if b then first.is_valid tree else second.is_valid tree) is ∙ taken.1)

pub told_apart_exact : {A : Type 0} (test : List Word → Bool) (side : A → Bool) (first second : Reading A) → Sides A test side first second → IsExact A first → IsExact A second → IsExact A (told_apart test side first second)
told_apart_exact test side first second sides exact_first exact_second = record {
  again = λ tree rest valid. side_again test first second tree rest (side tree) exact_first exact_second (λ v. (sides.yes tree rest v).1) (λ v. (sides.no_other tree rest v).1) valid;
  takes = λ text tree rest h. side_takes test side first second sides exact_first exact_second text tree rest (test text) h;
}

part_again : {A B : Type 0} (to : A → B) (reading : Reading A) → IsExact A reading → (tree : B) (o : Option A) (rest : List Word) → ((part : A) → o ≡ given part → to part ≡ tree) → valid_part reading o ≡ true → then_read {A = A} {B = B × List Word} (reading.read (words_of_part reading o ++ rest)) (λ part left. Some (to part, left)) ≡ given (tree, rest)
part_again to reading exact tree None rest back valid = absurd cc
part_again {A} {B} to reading exact tree (Some part) rest back valid =
    ap (λ (o : Option (A × List Word)). then_read o (λ p left. Some (to p, left))) (exact.again part rest valid)
    ∙ ap (λ t. Some (t, rest)) (back part refl)

pub within_exact : {A B : Type 0} (to : A → B) (from : B → Option A) (reading : Reading A) → ((tree : B) (part : A) → from tree ≡ given part → to part ≡ tree) → ((part : A) → from (to part) ≡ given part) → IsExact A reading → IsExact B (within to from reading)
within_exact {A} {B} to from reading back forth exact = record {
  again = λ tree rest valid. part_again to reading exact tree (from tree) rest (back tree) valid;
  takes = λ text tree rest h.
      let hit = then_some (reading.read text) (λ p left. Some (to p, left)) (tree, rest) h in
      let more = exact.takes text hit.0.0 hit.0.1 hit.1 in
      let same = some_is (to hit.0.0, hit.0.1) (tree, rest) hit.2 in
      let is : from tree ≡ given hit.0.0 = ap (λ (p : B × List Word). from p.0) (sym same) ∙ forth hit.0.0 in
      let rest_is : hit.0.1 ≡ rest = ap (λ (p : B × List Word). p.1) same in
      (more.0 ∙ (ap (λ xs. reading.words hit.0.0 ++ xs) rest_is ∙ ap (λ (o : Option A). words_of_part reading o ++ rest) (sym is)), ap (λ (o : Option A). valid_part reading o) is ∙ more.1);
}
