-- Readings of words: a production of a grammar as the words that it is printed as and the reader that takes them from the front of a text.
use Rattle.std.specs.Prelude.{ℕ, ◌≡◌, List, [], ◌∷◌, ◌++◌, length, Bool, true, false, ◌&&◌, Option, Some, None, ◌⊎◌, if◌then◌else◌, zero, suc}
use Rattle.std.proofs.Common.{inl, inr}
use Rattle.std.specs.List.{flat_map, list_all}
use Rattle.std.specs.Str.{bytes_eq}
use Rattle.frag_words.specs.Words.{Word}

-- A production: the words of a tree, which trees are valid, and the tree at the front of a text with what follows it.
pub record Reading (A : Type 0) : Type 0 where
  pub words : A → List Word
  pub is_valid : A → Bool
  pub read : List Word → Option (A × List Word)

-- The words of a valid tree, followed by any words, are read as that tree; and what is read has the words of the tree at its front.
pub record IsExact (A : Type 0) (reading : Reading A) : Type 0 where
  pub again : (tree : A) (rest : List Word) → reading.is_valid tree ≡ true → reading.read (reading.words tree ++ rest) ≡ Some (tree, rest)
  pub takes : (text : List Word) (tree : A) (rest : List Word) → reading.read text ≡ Some (tree, rest) → (text ≡ reading.words tree ++ rest) × (reading.is_valid tree ≡ true)

-- The words of one valid tree, followed by any words, are never the words of another, followed by any words.
abbrev pub OneTree : (A : Type 0) → (A → List Word) → (A → Bool) → Type 0
OneTree A words is_valid = (one other : A) (rest more : List Word) → is_valid one ≡ true → is_valid other ≡ true → words one ++ rest ≡ words other ++ more → (one ≡ other) × (rest ≡ more)

-- ---- steps

-- what was read, and then a step
abbrev pub then_read : {A B : Type 0} → Option (A × List Word) → (A → List Word → Option B) → Option B
then_read None step = None
then_read (Some found) step = step found.0 found.1

-- these words, and then a step
abbrev pub expected : {B : Type 0} → List Word → List Word → (List Word → Option B) → Option B
expected [] text step = step text
expected (word ∷ words) [] step = None
expected (word ∷ words) (first ∷ others) step = if bytes_eq word first then expected words others step else None

-- ---- combinators

-- one word that passes a test
abbrev pub word_at : (Word → Bool) → List Word → Option (Word × List Word)
word_at test [] = None
word_at test (first ∷ others) = if test first then Some (first, others) else None

abbrev pub word_where : (Word → Bool) → Reading Word
word_where test = record { words = λ word. word ∷ []; is_valid = test; read = word_at test }

-- one word that stands for a value
abbrev pub value_found : {A : Type 0} → Option A → List Word → Option (A × List Word)
value_found None others = None
value_found (Some value) others = Some (value, others)

abbrev pub value_at : {A : Type 0} → (Word → Option A) → List Word → Option (A × List Word)
value_at find [] = None
value_at find (first ∷ others) = value_found (find first) others

abbrev pub spelled : {A : Type 0} → (A → Word) → (A → Bool) → (Word → Option A) → Reading A
spelled spell is_valid find = record { words = λ value. spell value ∷ []; is_valid = is_valid; read = value_at find }

-- fixed words, and then a tree
abbrev pub behind : {A : Type 0} → List Word → Reading A → Reading A
behind fixed reading = record { words = λ tree. fixed ++ reading.words tree; is_valid = reading.is_valid; read = λ text. expected fixed text reading.read }

-- a tree, and then words that the tree determines
abbrev pub followed : {A : Type 0} → Reading A → (A → List Word) → Reading A
followed reading tail = record {
  words = λ tree. reading.words tree ++ tail tree;
  is_valid = reading.is_valid;
  read = λ text. then_read (reading.read text) (λ tree rest. expected (tail tree) rest (λ left. Some (tree, left)));
}

-- one tree, and then another
abbrev pub pair : {A B : Type 0} → Reading A → Reading B → Reading (A × B)
pair first second = record {
  words = λ trees. first.words trees.0 ++ second.words trees.1;
  is_valid = λ trees. first.is_valid trees.0 && second.is_valid trees.1;
  read = λ text. then_read (first.read text) (λ one rest. then_read (second.read rest) (λ other left. Some ((one, other), left)));
}

-- the same trees in another form
abbrev pub mapped : {A B : Type 0} → (A → B) → (B → A) → Reading A → Reading B
mapped to from reading = record {
  words = λ tree. reading.words (from tree);
  is_valid = λ tree. reading.is_valid (from tree);
  read = λ text. then_read (reading.read text) (λ tree rest. Some (to tree, rest));
}

-- the words of one of two
abbrev pub words_of_either : {A B : Type 0} → Reading A → Reading B → A ⊎ B → List Word
words_of_either first second (inl tree) = first.words tree
words_of_either first second (inr tree) = second.words tree

abbrev pub valid_either : {A B : Type 0} → Reading A → Reading B → A ⊎ B → Bool
valid_either first second (inl tree) = first.is_valid tree
valid_either first second (inr tree) = second.is_valid tree

abbrev pub as_first : {A B : Type 0} → A → List Word → Option ((A ⊎ B) × List Word)
as_first tree rest = Some (inl tree, rest)

abbrev pub as_second : {A B : Type 0} → B → List Word → Option ((A ⊎ B) × List Word)
as_second tree rest = Some (inr tree, rest)

-- one of two, as a test of the text says
abbrev pub either : {A B : Type 0} → (List Word → Bool) → Reading A → Reading B → Reading (A ⊎ B)
either test first second = record {
  words = words_of_either first second;
  is_valid = valid_either first second;
  read = λ text. if test text then then_read (first.read text) as_first else then_read (second.read text) as_second;
}

abbrev pub no_items : {A B : Type 0} → B → List Word → Option ((List A × B) × List Word)
no_items tree rest = Some (([], tree), rest)

abbrev pub one_more : {A B : Type 0} → A → (List A × B) → List Word → Option ((List A × B) × List Word)
one_more tree others rest = Some ((tree ∷ others.0, others.1), rest)

-- trees as long as a test of the text says so, at most so many, and then another tree
unfoldable pub items_then : {A B : Type 0} → (List Word → Bool) → Reading A → Reading B → ℕ → List Word → Option ((List A × B) × List Word)
items_then test item end zero text = if test text then None else then_read (end.read text) no_items
items_then test item end (suc n) text =
    if test text then then_read (item.read text) (λ tree rest. then_read (items_then test item end n rest) (one_more tree))
    else then_read (end.read text) no_items

-- a list of trees, and then another tree
abbrev pub list_then : {A B : Type 0} → (List Word → Bool) → Reading A → Reading B → Reading (List A × B)
list_then test item end = record {
  words = λ trees. flat_map item.words trees.0 ++ end.words trees.1;
  is_valid = λ trees. list_all item.is_valid trees.0 && end.is_valid trees.1;
  read = λ text. items_then test item end (length text) text;
}

-- ---- further combinators

-- the same reader, with the words and the validity stated otherwise
abbrev pub restated : {A : Type 0} → (A → List Word) → (A → Bool) → Reading A → Reading A
restated words is_valid reading = record { words = words; is_valid = is_valid; read = reading.read }

-- no words
abbrev pub nothing : Reading (Unit {0})
nothing = record { words = λ _. []; is_valid = λ _. true; read = λ text. Some (tt, text) }

-- fixed words alone
abbrev pub fixed_words : List Word → Reading (Unit {0})
fixed_words fixed = behind fixed nothing

-- the word at a place, and none behind the end
abbrev pub nth : ℕ → List Word → Word
nth n [] = []
nth zero (first ∷ others) = first
nth (suc n) (first ∷ others) = nth n others

-- this word stands at a place
abbrev pub word_is : ℕ → Word → List Word → Bool
word_is n word text = bytes_eq (nth n text) word

-- the value whose word it is
abbrev pub among : {A : Type 0} → (A → Word) → List A → Word → Option A
among spell [] word = None
among spell (value ∷ values) word = if bytes_eq (spell value) word then Some value else among spell values word

-- a value of an enumeration
abbrev pub one_of : {A : Type 0} → (A → Word) → List A → Reading A
one_of spell values = spelled spell (λ _. true) (among spell values)

-- a truth, as one of two runs of fixed words
abbrev pub truth_of : {A B : Type 0} → A ⊎ B → Bool
truth_of (inl x) = true
truth_of (inr x) = false

abbrev pub side_of : Bool → Unit {0} ⊎ Unit {0}
side_of true = inl tt
side_of false = inr tt

abbrev pub choice : (List Word → Bool) → List Word → List Word → Reading Bool
choice test true_words false_words = mapped truth_of side_of (either test (fixed_words true_words) (fixed_words false_words))

-- a list up to fixed words
abbrev pub list_until : {A : Type 0} → (List Word → Bool) → Reading A → List Word → Reading (List A)
list_until test item closer = mapped (λ trees. trees.0) (λ trees. (trees, tt)) (list_then test item (fixed_words closer))

-- a part that may be there, and then another tree
abbrev pub option_to : {A B : Type 0} → (A × B) ⊎ B → Option A × B
option_to (inl trees) = (Some trees.0, trees.1)
option_to (inr tree) = (None, tree)

abbrev pub option_side : {A B : Type 0} → Option A → B → (A × B) ⊎ B
option_side None tree = inr tree
option_side (Some part) tree = inl (part, tree)

abbrev pub option_from : {A B : Type 0} → Option A × B → (A × B) ⊎ B
option_from trees = option_side trees.0 trees.1

abbrev pub option_then : {A B : Type 0} → (List Word → Bool) → Reading A → Reading B → Reading (Option A × B)
option_then test part end = mapped option_to option_from (either test (pair part end) end)

-- fixed words that may be there, and then another tree
abbrev pub flag_to : {B : Type 0} → B ⊎ B → Bool × B
flag_to (inl tree) = (true, tree)
flag_to (inr tree) = (false, tree)

abbrev pub flag_side : {B : Type 0} → Bool → B → B ⊎ B
flag_side true tree = inl tree
flag_side false tree = inr tree

abbrev pub flag_from : {B : Type 0} → Bool × B → B ⊎ B
flag_from trees = flag_side trees.0 trees.1

abbrev pub flag_then : {B : Type 0} → (List Word → Bool) → List Word → Reading B → Reading (Bool × B)
flag_then test fixed end = mapped flag_to flag_from (either test (behind fixed end) end)

-- a production that stands only where a truth holds
abbrev pub only_if : {A : Type 0} → Bool → Reading A → Reading A
only_if allowed reading = record {
  words = reading.words;
  is_valid = λ tree. allowed && reading.is_valid tree;
  read = λ text. if allowed then reading.read text else None;
}

-- one of two productions of the same trees: which one, a test of the text and one of the tree say
abbrev pub told_apart : {A : Type 0} → (List Word → Bool) → (A → Bool) → Reading A → Reading A → Reading A
told_apart test side first second = record {
  words = λ tree. if side tree then first.words tree else second.words tree;
  is_valid = λ tree. if side tree then first.is_valid tree else second.is_valid tree;
  read = λ text. if test text then first.read text else second.read text;
}

-- the trees of a wider type that a production stands for
abbrev pub words_of_part : {A : Type 0} → Reading A → Option A → List Word
words_of_part reading None = []
words_of_part reading (Some part) = reading.words part

abbrev pub valid_part : {A : Type 0} → Reading A → Option A → Bool
valid_part reading None = false
valid_part reading (Some part) = reading.is_valid part

abbrev pub within : {A B : Type 0} → (A → B) → (B → Option A) → Reading A → Reading B
within to from reading = record {
  words = λ tree. words_of_part reading (from tree);
  is_valid = λ tree. valid_part reading (from tree);
  read = λ text. then_read (reading.read text) (λ tree rest. Some (to tree, rest));
}

-- ---- laws

-- An exact production has one tree for a text.
abbrev pub ExactHasOneTree : Type 0 → Type 0
ExactHasOneTree A = (reading : Reading A) → IsExact A reading → OneTree A reading.words reading.is_valid

-- Two exact productions, one behind the other, are exact.
abbrev pub PairIsExact : Type 0 → Type 0 → Type 0
PairIsExact A B = (first : Reading A) (second : Reading B) → IsExact A first → IsExact B second → IsExact (A × B) (pair first second)
