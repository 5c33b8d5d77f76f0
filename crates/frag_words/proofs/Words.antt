-- The first word of a text, and the words of what follows it.
use Rattle.std.proofs.Common.{ℕ, zero, suc, ◌≡◌, ◌-◌, ◌≤◌, arith, length, length-drop, sym, List, [], ◌∷◌, take, drop, refl, ap, ◌∙◌}
use Rattle.frag_words.specs.Words.{gap, word, Word, front_at, led_by, words_behind, words_in}

words_behind-drop : (text : List ℕ) (n : ℕ) → words_behind text n ≡ words_in (drop n text)
unfolding words_behind
words_behind-drop [] zero = refl
words_behind-drop [] (suc n) = refl
words_behind-drop (first ∷ others) zero = refl
words_behind-drop (first ∷ others) (suc n) = words_behind-drop others n

pub behind_gap : (first : ℕ) (others : List ℕ) (n : ℕ) → gap n ≡ front_at first others → words_in (first ∷ others) ≡ words_in (drop n others)
unfolding words_behind
behind_gap first others n e =
    let step : led_by (front_at first others) first others (words_behind others) ≡ words_behind others n = rw (← e) refl in
    step ∙ words_behind-drop others n

pub behind_word : (first : ℕ) (others : List ℕ) (n : ℕ) → word n ≡ front_at first others → words_in (first ∷ others) ≡ (first ∷ take n others) ∷ words_in (drop n others)
unfolding words_behind
behind_word first others n e =
    let step : led_by (front_at first others) first others (words_behind others) ≡ (first ∷ take n others) ∷ words_behind others n = rw (← e) refl in
    step ∙ ap (λ (words : List Word). (first ∷ take n others) ∷ words) (words_behind-drop others n)

taken : (first : ℕ) (others : List ℕ) (n : ℕ) → n ≤ length others → take (length (first ∷ others) - length (drop n others)) (first ∷ others) ≡ first ∷ take n others
taken first others n within =
    let count : length (first ∷ others) - length (drop n others) ≡ suc n = omega (arith, length-drop n others) in
    ap (λ k. take k (first ∷ others)) count

pub gap_passed : (rest : List ℕ) (first : ℕ) (others : List ℕ) (n : ℕ) (after : List ℕ) → rest ≡ first ∷ others → gap n ≡ front_at first others → after ≡ drop n others → words_in after ≡ words_in rest
gap_passed rest first others n after whole e is_after = ap words_in is_after ∙ (sym (behind_gap first others n e) ∙ ap words_in (sym whole))

pub word_found : (rest : List ℕ) (first : ℕ) (others : List ℕ) (n : ℕ) (after spelled : List ℕ) → rest ≡ first ∷ others → n ≤ length others → word n ≡ front_at first others → after ≡ drop n others → spelled ≡ take (length rest - length after) rest → words_in rest ≡ spelled ∷ words_in after
word_found rest first others n after spelled whole within e is_after is_spelled =
    let front : spelled ≡ first ∷ take n others =
    is_spelled ∙ (ap (λ (bytes : List ℕ). take (length bytes - length after) bytes) whole ∙ (ap (λ (bytes : List ℕ). take (length (first ∷ others) - length bytes) (first ∷ others)) is_after ∙ taken first others n within)) in
    let step : words_in rest ≡ (first ∷ take n others) ∷ words_in (drop n others) = ap words_in whole ∙ behind_word first others n e in
    step ∙ (ap (λ (bytes : List ℕ). bytes ∷ words_in (drop n others)) (sym front) ∙ ap (λ (bytes : List ℕ). spelled ∷ words_in bytes) (sym is_after))

pub no_word : (rest : List ℕ) → length rest ≡ 0 → words_in rest ≡ []
unfolding words_behind
no_word [] none = refl
no_word (first ∷ others) none = absurd (omega arith)
