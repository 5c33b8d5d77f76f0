-- The words of a fixed text, one after another, and the words that are identifiers.
use Rattle.std.proofs.Common.{◌≡◌, List, [], ◌∷◌, Bool, true, Option, Some, None, sym, ap, ◌∙◌, inl, inr}
use Rattle.std.specs.Prelude.{if◌then◌else◌}
use Rattle.std.proofs.lemmas.Bool.{cases_Bool}
use Rattle.text_scan.specs.Steps.{◌>>=◌}
use Rattle.frag_words.specs.Words.{Word}
use Rattle.rust_names.specs.Identifiers.{is_identifier}
use Rattle.frag_token.specs.declared.fault.Stop.{Stop}
use Rattle.frag_token.specs.declared.fault.Stop.TheVariants.{Unfit, Memory}
use Rattle.frag_token.specs.Reading.{Fails, expects, name_of, word_then}

-- one more word was met
pub words_on : (wanted others rest after : List Word) (word : Word) (all : Option (List Word)) → wanted ≡ word ∷ others → word_then word rest ≡ Some after → expects wanted rest ≡ all → expects others after ≡ all
unfolding expects
words_on wanted others rest after word all whole met so_far =
    sym (ap (λ (words : List Word). expects words rest) whole ∙ ap (λ (o : Option (List Word)). o >>= λ left. expects others left) met) ∙ so_far

words_stop : (wanted others rest : List Word) (word : Word) (all : Option (List Word)) → wanted ≡ word ∷ others → word_then word rest ≡ None → expects wanted rest ≡ all → all ≡ None
unfolding expects
words_stop wanted others rest word all whole missed so_far =
    sym so_far ∙ (ap (λ (words : List Word). expects words rest) whole ∙ ap (λ (o : Option (List Word)). o >>= λ left. expects others left) missed)

-- another word stands there
pub words_off : (wanted others rest : List Word) (word : Word) (all : Option (List Word)) (stop : Stop) → wanted ≡ word ∷ others → Fails stop (word_then word rest) → expects wanted rest ≡ all → Fails stop all
words_off wanted others rest word all (Unfit left) whole missed so_far = words_stop wanted others rest word all whole missed so_far
words_off wanted others rest word all Memory whole missed so_far = tt

-- no more word is wanted
pub words_done : (wanted rest : List Word) (all : Option (List Word)) → wanted ≡ [] → expects wanted rest ≡ all → all ≡ Some rest
unfolding expects
words_done wanted rest all none so_far = sym so_far ∙ ap (λ (words : List Word). expects words rest) none

pub named-yes : (word name : Word) → name ≡ word → is_identifier word ≡ true → name_of word ≡ Some name
unfolding name_of
named-yes word name same valid = ap (λ (test : Bool). if test then Some word else None) valid ∙ ap (λ (w : Word). Some w) (sym same)

pub named-no : (word : Word) → ¬ (is_identifier word ≡ true) → name_of word ≡ None
unfolding name_of
named-no word other =
    elim (cases_Bool (is_identifier word)) [
      | inl valid ↦ absurd (other valid)
      | inr invalid ↦ ap (λ (test : Bool). if test then Some word else None) invalid
    ]
