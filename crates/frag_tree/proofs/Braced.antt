-- The words of lists in braces, and lists of calls up to the closing brace.
use Rattle.std.proofs.Common.{ℕ, ◌≡◌, ◌≤◌, List, [], ◌∷◌, ◌++◌, length, true, refl, ap, ◌∙◌, map, arith}
use Rattle.std.specs.Prelude.{codes}
use Rattle.std.specs.List.{flat_map}
use Rattle.std.proofs.lemmas.Grind.{flat_map-append}
use Rattle.std.proofs.lemmas.List.{append-nil}
use Rattle.std.proofs.lemmas.List.Folds.{flat_map-map}
use Rattle.frag_words.specs.Lines.{Line, Piece, fixed, braced, line_words, lines_words, piece_words}
use Rattle.frag_words.specs.Readings.{Reading, IsExact, word_is}
use Rattle.frag_words.specs.Words.{Word, words_behind}
use Rattle.frag_words.proofs.Further.{list_until_exact}
use Rattle.frag_tree.specs.Phrases.{text_of, words_of}
use Rattle.frag_tree.specs.declared.phrase.Phrase.TheVariants as phrase
use Rattle.frag_tree.specs.RegisterProductions.{calls_until}

-- the words of a list in braces: what opens it, those of its items, and the brace
pub braced_words : {A : Type 0} (depth : ℕ) (opening : List Piece) (item : A → Line) (items : List A) → lines_words (braced depth opening (map item items)) ≡ flat_map piece_words opening ++ (flat_map (λ x. line_words (item x)) items ++ words_of phrase.Closer)
braced_words depth opening item items =
    ap (λ xs. flat_map piece_words opening ++ xs)
    (flat_map-append line_words (map item items) (fixed depth (text_of phrase.Closer) ∷ [])
    ∙ (ap (λ xs. xs ++ lines_words (fixed depth (text_of phrase.Closer) ∷ [])) (flat_map-map line_words item items)
    ∙ ap (λ xs. flat_map (λ x. line_words (item x)) items ++ xs) (append-nil (line_words (fixed depth (text_of phrase.Closer))) ∙ append-nil (words_of phrase.Closer))))

pub one_word : (word : Word) (words : List Word) → 1 ≤ length (word ∷ words)
one_word word words = omega arith

-- words of which the first is `pub` are some
pub some_words : (words : List Word) → word_is 0 (codes "pub") (words ++ []) ≡ true → 1 ≤ length words
some_words [] begins = absurd cc
some_words (word ∷ words) begins = one_word word words

-- items that begin with `pub` end at the closing brace
pub until_brace : {A : Type 0} (call : Reading A) → ((tree : A) (rest : List Word) → word_is 0 (codes "pub") (call.words tree ++ rest) ≡ true) → IsExact A call → IsExact (List A) (calls_until call)
unfolding words_behind
until_brace {A} call begins exact =
    list_until_exact (word_is 0 (codes "pub")) call (words_of phrase.Closer)
    (record { tells = record { yes = λ tree rest valid. begins tree rest; no_other = λ tree rest valid. refl }; some = λ tree valid. some_words (call.words tree) (begins tree []) })
    exact
