-- The indexes that a text gives are in the form of a description's.
use Rattle.std.proofs.Common.{◌≡◌, ◌≢◌, ◌⊎◌, ℕ, ◌≤◌, List, [], ◌∷◌, Bool, true, false, ◌==◌, refl, Option, Some, None, option_map, arith, inl, inr, IsTrue}
use Rattle.std.specs.Prelude.{⊤, if◌then◌else◌}
use Rattle.std.specs.List.{AllByRecursion, list_all}
use Rattle.std.specs.Option.{option_or}
use Rattle.std.specs.Char.{is_ascii_uppercase, is_ascii_lowercase}
use Rattle.std.proofs.lemmas.Bool.{and_parts}
use Rattle.std.proofs.lemmas.Bool.Decides.{nat_tests}
use Rattle.pac_base.specs.Names.{IsWord}
use Rattle.svd_values.specs.declared.index.DimIndex.TheVariants.{Numbers, Letters, Words}
use Rattle.svd_values.specs.Indexes.{IsLetterRange as IsLettersRange}
use Rattle.svd_values.specs.Readers.{read_numbers, read_letters}
use Rattle.svd_values.proofs.IndexRanges.{numbers_exactly, letters_exactly}
use Rattle.svd_model.specs.Facts.{IsLetterRange, IsIndex}
use Rattle.svd_keys.specs.Forms.{is_full_word, onto_first, parts_of, after_commas, words_of, index_of}

-- what holds of a value, where there is one
abbrev pub Each : {X : Type 0} → (X → Type 0) → Option X → Type 0
Each P None = ⊤
Each P (Some x) = P x

pub each_from : {X : Type 0} (P : X → Type 0) (answer : Option X) → ((x : X) → answer ≡ Some x → P x) → Each P answer
each_from P None from = tt
each_from P (Some x) from = from x refl

each_map : {X Y : Type 0} (P : Y → Type 0) (made : X → Y) (answer : Option X) → Each (λ x. P (made x)) answer → Each P (option_map made answer)
each_map P made None each = tt
each_map P made (Some x) each = each

each_or : {X : Type 0} (P : X → Type 0) (one other : Option X) → Each P one → Each P other → Each P (option_or one other)
each_or P None other first second = second
each_or P (Some x) other first second = first

upper_case : (first last : ℕ) → IsTrue (is_ascii_uppercase first) → IsTrue (is_ascii_uppercase last) → (65 ≤ first) × (last ≤ 90)
upper_case first last h k = (grind (arith, nat_tests), grind (arith, nat_tests))

lower_case : (first last : ℕ) → IsTrue (is_ascii_lowercase first) → IsTrue (is_ascii_lowercase last) → (97 ≤ first) × (last ≤ 122)
lower_case first last h k = (grind (arith, nat_tests), grind (arith, nat_tests))

letters_range : (text : List ℕ) (first last : ℕ) → IsLettersRange text first last → IsLetterRange first last
letters_range text first last is = (is.rises, cases is.one_case)
  where
    cases : (IsTrue (is_ascii_uppercase first) × IsTrue (is_ascii_uppercase last)) ⊎ (IsTrue (is_ascii_lowercase first) × IsTrue (is_ascii_lowercase last)) → ((65 ≤ first) × (last ≤ 90)) ⊎ ((97 ≤ first) × (last ≤ 122))
    cases (inl upper) = inl (upper_case first last upper.0 upper.1)
    cases (inr lower) = inr (lower_case first last lower.0 lower.1)

full_word : (word : List ℕ) → is_full_word word ≡ true → IsWord word × (word ≢ [])
full_word [] full = cc
full_word (byte ∷ word) full = (full, λ e. cc)

full_words : (words : List (List ℕ)) → list_all is_full_word words ≡ true → AllByRecursion (λ word. IsWord word × (word ≢ [])) words
full_words [] full = tt
full_words (word ∷ words) full = let parts = and_parts (is_full_word word) (list_all is_full_word words) full in (full_word word parts.0, full_words words parts.1)

some_onto : (byte : ℕ) (parts : List (List ℕ)) → onto_first byte parts ≢ []
unfolding onto_first
some_onto byte [] = λ e. cc
some_onto byte (part ∷ parts) = λ e. cc

some_part : (mark : ℕ) (text : List ℕ) → parts_of mark text ≢ []
unfolding parts_of
some_part mark [] = λ e. cc
some_part mark (byte ∷ text) = cases (byte == mark)
  where
    cases : (same : Bool) → (if same then [] ∷ parts_of mark text else onto_first byte (parts_of mark text)) ≢ []
    cases true = λ e. cc
    cases false = some_onto byte (parts_of mark text)

some_word : (parts : List (List ℕ)) → parts ≢ [] → after_commas parts ≢ []
unfolding after_commas
some_word [] some = some
some_word (first ∷ parts) some = λ e. cc

words_in_form : (text : List ℕ) → Each (λ words. IsIndex (Words words)) (words_of text)
unfolding words_of
words_in_form text = cases (list_all is_full_word (after_commas (parts_of 44 text))) refl
  where
    cases : (full : Bool) → list_all is_full_word (after_commas (parts_of 44 text)) ≡ full → Each (λ words. IsIndex (Words words)) (if full then Some (after_commas (parts_of 44 text)) else None)
    cases true is = (some_word (parts_of 44 text) (some_part 44 text), full_words (after_commas (parts_of 44 text)) is)
    cases false is = tt

pub index_in_form : (text : List ℕ) → Each IsIndex (index_of text)
unfolding index_of
index_in_form text =
    each_or IsIndex (option_map (λ (range : ℕ × ℕ). Numbers range.0 range.1) (read_numbers text))
    (option_or (option_map (λ (range : ℕ × ℕ). Letters range.0 range.1) (read_letters text)) (option_map Words (words_of text)))
    (each_map IsIndex (λ (range : ℕ × ℕ). Numbers range.0 range.1) (read_numbers text)
    (each_from (λ (range : ℕ × ℕ). range.0 ≤ range.1) (read_numbers text) (λ range is. ((numbers_exactly text range.0 range.1).0 is).rises)))
    (each_or IsIndex (option_map (λ (range : ℕ × ℕ). Letters range.0 range.1) (read_letters text)) (option_map Words (words_of text))
    (each_map IsIndex (λ (range : ℕ × ℕ). Letters range.0 range.1) (read_letters text)
    (each_from (λ (range : ℕ × ℕ). IsLetterRange range.0 range.1) (read_letters text) (λ range is. letters_range text range.0 range.1 ((letters_exactly text range.0 range.1).0 is))))
    (each_map IsIndex Words (words_of text) (words_in_form text)))
