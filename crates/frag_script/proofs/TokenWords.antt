-- The token of a word, and the words that are no numbers.
use Rattle.std.proofs.Common.{ℕ, ◌≡◌, List, [], ◌∷◌, Bool, true, false, eqb, Option, Some, None, refl, sym, ap, ◌∙◌, inl, inr, arith}
use Rattle.std.specs.Prelude.{◌&&◌, nat_le, map, if◌then◌else◌}
use Rattle.std.specs.List.{list_all}
use Rattle.std.specs.Str.{bytes_eq}
use Rattle.std.proofs.lemmas.Bool.{cases_Bool, eqb-true, and_parts}
use Rattle.std.proofs.lemmas.Bool.Decides.{nat_tests}
use Rattle.std.proofs.lemmas.Slice.Eq.{bytes_eq-Decides}
use Rattle.text_scan.specs.Classes.{has}
use Rattle.text_scan.specs.Fronts.{stripped_of}
use Rattle.text_scan.specs.Numbers.{number_of}
use Rattle.text_scan.proofs.Steps.{cases_option}
use Rattle.pac_base.specs.Names.{is_word_byte}
use Rattle.pac_base.specs.declared.width.Width.TheVariants.{W8, W16, W32, W64}
use Rattle.frag_words.specs.Words.{Word, words_in}
use Rattle.rust_names.specs.Identifiers.{is_identifier, is_start}
use Rattle.frag_script.specs.declared.fixed.Fixed.{Fixed}
use Rattle.frag_script.specs.declared.fixed.Fixed.TheVariants.{Let, Say, Read, Write, WriteWithZero, Modify, Reset, Bits, As, ReaderName, WriterName, NoName, Truth, NumberType, Equals, Dot, Comma, Bar, Negation, Opener, Closer, Semicolon}
use Rattle.frag_script.specs.FixedWords.{text_of}
use Rattle.frag_script.specs.Reading.{Found, expects, is_end, is_fixed, name_at, name_of, number_at}
use Rattle.frag_script.specs.Tokens.{Token, plain, told, token_of, tokens_in, number_in, grouped_number, is_grouped}

-- no fixed word is a number
fixed_is_plain : (word : Fixed) → number_in (text_of word) ≡ None
unfolding text_of number_in grouped_number is_grouped stripped_of number_of has
fixed_is_plain Let = refl
fixed_is_plain Say = refl
fixed_is_plain Read = refl
fixed_is_plain Write = refl
fixed_is_plain WriteWithZero = refl
fixed_is_plain Modify = refl
fixed_is_plain Reset = refl
fixed_is_plain Bits = refl
fixed_is_plain As = refl
fixed_is_plain ReaderName = refl
fixed_is_plain WriterName = refl
fixed_is_plain NoName = refl
fixed_is_plain (Truth true) = refl
fixed_is_plain (Truth false) = refl
fixed_is_plain (NumberType W8) = refl
fixed_is_plain (NumberType W16) = refl
fixed_is_plain (NumberType W32) = refl
fixed_is_plain (NumberType W64) = refl
fixed_is_plain Equals = refl
fixed_is_plain Dot = refl
fixed_is_plain Comma = refl
fixed_is_plain Bar = refl
fixed_is_plain Negation = refl
fixed_is_plain Opener = refl
fixed_is_plain Closer = refl
fixed_is_plain Semicolon = refl

-- nor is what begins as an identifier does
underscore_first : (others : List ℕ) → number_in (95 ∷ others) ≡ None
unfolding number_in grouped_number is_grouped stripped_of
underscore_first others = refl

abbrev no_number : Option ℕ
no_number = None

either_way : (test : Bool) → (if test then no_number else no_number) ≡ no_number
either_way true = refl
either_way false = refl

letter_first : (first : ℕ) (others : List ℕ) → eqb first 95 ≡ false → eqb 48 first ≡ false → (nat_le 48 first && nat_le first 57) ≡ false → number_in (first ∷ others) ≡ None
unfolding number_in grouped_number is_grouped stripped_of number_of has
letter_first first others no_mark no_zero no_digit = rw (no_zero, no_mark, no_digit) (either_way _)

start_is_plain : (first : ℕ) (others : List ℕ) → is_start first ≡ true → number_in (first ∷ others) ≡ None
start_is_plain first others start =
    elim (cases_Bool (eqb first 95)) [
      | inl is_mark ↦ ap (λ byte. number_in (byte ∷ others)) (eqb-true first 95 is_mark) ∙ underscore_first others
      | inr no_mark ↦ letter_first first others no_mark (grind (arith, nat_tests, start, no_mark)) (grind (arith, nat_tests, start, no_mark))
    ]

pub identifier_is_plain : (word : Word) → is_identifier word ≡ true → number_in word ≡ None
identifier_is_plain [] valid = absurd cc
identifier_is_plain (first ∷ others) valid = start_is_plain first others (and_parts (is_start first) (list_all is_word_byte others) (and_parts (is_start first && list_all is_word_byte others) _ (and_parts _ _ valid).0).0).0

-- ---- tokens of words

told_is : (word : Word) (value : Option ℕ) → number_in word ≡ value → token_of word ≡ told value word
unfolding token_of
told_is word value e = ap (λ v. told v word) e

is_fixed-token : (fixed : Fixed) (word : Word) → is_fixed fixed (token_of word) ≡ bytes_eq word (text_of fixed)
is_fixed-token fixed word =
    elim (cases_option (number_in word)) [
      | inl is_plain ↦ ap (is_fixed fixed) (told_is word None is_plain)
      | inr value ↦ ap (is_fixed fixed) (told_is word (Some value.0) value.1) ∙
          elim (cases_Bool (bytes_eq word (text_of fixed))) [
            | inl same ↦ absurd (let is_none : number_in word ≡ None = ap number_in ((bytes_eq-Decides word (text_of fixed)).0 same) ∙ fixed_is_plain fixed in
                let both : Some value.0 ≡ None = sym value.1 ∙ is_none in cc)
            | inr other ↦ sym other
          ]
    ]

tokens-none : (text : List ℕ) → words_in text ≡ [] → tokens_in text ≡ []
unfolding tokens_in
tokens-none text e = ap (map token_of) e

tokens-some : (text : List ℕ) (word : Word) (rest : List ℕ) → words_in text ≡ word ∷ words_in rest → tokens_in text ≡ token_of word ∷ tokens_in rest
unfolding tokens_in
tokens-some text word rest e = ap (map token_of) e

pub expects-end : (fixed : Fixed) (text : List ℕ) → words_in text ≡ [] → None ≡ expects fixed (tokens_in text)
unfolding expects
expects-end fixed text e = rw (tokens-none text e) refl

pub expects-word : (fixed : Fixed) (text : List ℕ) (word : Word) (rest : List ℕ) → words_in text ≡ word ∷ words_in rest → expects fixed (tokens_in text) ≡ (if bytes_eq word (text_of fixed) then Some (tokens_in rest) else None)
unfolding expects
expects-word fixed text word rest e = rw (tokens-some text word rest e, is_fixed-token fixed word) refl

pub name-end : (text : List ℕ) → words_in text ≡ [] → name_at (tokens_in text) ≡ None
unfolding name_at
name-end text e = rw (tokens-none text e) refl

name_of-token : (word : Word) (rest : List Token) → name_of (token_of word) rest ≡ name_of (plain word) rest
name_of-token word rest =
    elim (cases_option (number_in word)) [
      | inl is_plain ↦ ap (λ token. name_of token rest) (told_is word None is_plain)
      | inr value ↦ ap (λ token. name_of token rest) (told_is word (Some value.0) value.1) ∙
          elim (cases_Bool (is_identifier word)) [
            | inl valid ↦ absurd (let both : Some value.0 ≡ None = sym value.1 ∙ identifier_is_plain word valid in cc)
            | inr other ↦ rw (other) refl
          ]
    ]

pub name-word : (text : List ℕ) (word : Word) (rest : List ℕ) → words_in text ≡ word ∷ words_in rest → name_at (tokens_in text) ≡ (if is_identifier word then Some (word, tokens_in rest) else None)
unfolding name_at
name-word text word rest e = rw (tokens-some text word rest e) (name_of-token word (tokens_in rest))

pub number-end : (text : List ℕ) → words_in text ≡ [] → number_at (tokens_in text) ≡ None
unfolding number_at
number-end text e = rw (tokens-none text e) refl

-- the number, where there is one, and what follows
abbrev pub numbered : Option ℕ → List Token → Found ℕ
numbered (Some value) rest = Some (value, rest)
numbered None rest = None

numbered-told : (value : Option ℕ) (word : Word) (rest : List Token) → number_at (told value word ∷ rest) ≡ numbered value rest
unfolding number_at
numbered-told (Some value) word rest = refl
numbered-told None word rest = refl

pub number-word : (text : List ℕ) (word : Word) (rest : List ℕ) → words_in text ≡ word ∷ words_in rest → number_at (tokens_in text) ≡ numbered (number_in word) (tokens_in rest)
unfolding token_of
number-word text word rest e = ap number_at (tokens-some text word rest e) ∙ numbered-told (number_in word) word (tokens_in rest)

-- ---- as the code has them

pub expects-yes : (fixed : Fixed) (text : List ℕ) (word : Word) (rest : List ℕ) (spelled : Word) → words_in text ≡ word ∷ words_in rest → spelled ≡ text_of fixed → true ≡ bytes_eq word spelled → Some (tokens_in rest) ≡ expects fixed (tokens_in text)
expects-yes fixed text word rest spelled e is_spelled same =
    let hit : bytes_eq word (text_of fixed) ≡ true = ap (bytes_eq word) (sym is_spelled) ∙ sym same in
    sym (expects-word fixed text word rest e ∙ ap (λ (test : Bool). if test then Some (tokens_in rest) else None) hit)

pub expects-no : (fixed : Fixed) (text : List ℕ) (word : Word) (rest : List ℕ) (spelled : Word) → words_in text ≡ word ∷ words_in rest → spelled ≡ text_of fixed → false ≡ bytes_eq word spelled → None ≡ expects fixed (tokens_in text)
expects-no fixed text word rest spelled e is_spelled same =
    let hit : bytes_eq word (text_of fixed) ≡ false = ap (bytes_eq word) (sym is_spelled) ∙ sym same in
    sym (expects-word fixed text word rest e ∙ ap (λ (test : Bool). if test then Some (tokens_in rest) else None) hit)

pub name-yes : (text : List ℕ) (word : Word) (rest : List ℕ) (name : Word) → words_in text ≡ word ∷ words_in rest → name ≡ word → is_identifier word ≡ true → name_at (tokens_in text) ≡ Some (name, tokens_in rest)
name-yes text word rest name e same valid =
    name-word text word rest e ∙ (ap (λ (test : Bool). if test then Some (word, tokens_in rest) else None) valid ∙ ap (λ (w : Word). Some (w, tokens_in rest)) (sym same))

pub name-no : (text : List ℕ) (word : Word) (rest : List ℕ) → words_in text ≡ word ∷ words_in rest → ¬ (is_identifier word ≡ true) → name_at (tokens_in text) ≡ None
name-no text word rest e other =
    elim (cases_Bool (is_identifier word)) [
      | inl valid ↦ absurd (other valid)
      | inr invalid ↦ name-word text word rest e ∙ ap (λ (test : Bool). if test then Some (word, tokens_in rest) else None) invalid
    ]

pub number-found : (text : List ℕ) (word : Word) (rest : List ℕ) (found : Option ℕ) (value : ℕ) → words_in text ≡ word ∷ words_in rest → found ≡ number_in word → found ≡ Some value → number_at (tokens_in text) ≡ Some (value, tokens_in rest)
number-found text word rest found value e is_found is =
    number-word text word rest e ∙ ap (λ (o : Option ℕ). numbered o (tokens_in rest)) (sym is_found ∙ is)

pub number-missing : (text : List ℕ) (word : Word) (rest : List ℕ) (found : Option ℕ) → words_in text ≡ word ∷ words_in rest → found ≡ number_in word → found ≡ None → number_at (tokens_in text) ≡ None
number-missing text word rest found e is_found is =
    number-word text word rest e ∙ ap (λ (o : Option ℕ). numbered o (tokens_in rest)) (sym is_found ∙ is)

pub end-none : (text : List ℕ) → words_in text ≡ [] → true ≡ is_end (tokens_in text)
end-none text e = sym (ap is_end (tokens-none text e))

pub end-some : (text : List ℕ) (word : Word) (rest : List ℕ) → words_in text ≡ word ∷ words_in rest → false ≡ is_end (tokens_in text)
end-some text word rest e = sym (ap is_end (tokens-some text word rest e))
