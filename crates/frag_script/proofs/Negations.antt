-- The `!` in front of a value.
use Rattle.std.proofs.Common.{ℕ, suc, ◌≡◌, ◌+◌, ◌<◌, arith, List, [], ◌∷◌, ◌++◌, length, true, Option, Some, None, refl, ap, ◌∙◌, inl, inr}
use Rattle.std.specs.Prelude.{replicate}
use Rattle.std.proofs.lemmas.Bool.{cases_Bool}
use Rattle.std.proofs.lemmas.Slice.Eq.{bytes_eq-Decides}
use Rattle.frag_script.specs.declared.fixed.Fixed.TheVariants.{Negation}
use Rattle.frag_script.specs.FixedWords.{text_of}
use Rattle.frag_script.specs.Reading.{expects, is_fixed, negations, after_negations}
use Rattle.frag_script.specs.Statements.{fixed}
use Rattle.frag_script.specs.Tokens.{Token, number, plain}

-- one `!` was passed
pub record OneMore (text rest : List Token) : Type 0 where
  pub counted : negations text ≡ suc (negations rest)
  pub passed : after_negations text ≡ after_negations rest
  pub shorter : length rest < length text

one_more : (token : Token) (tokens : List Token) → is_fixed Negation token ≡ true → OneMore (token ∷ tokens) tokens
unfolding negations after_negations
one_more token tokens hit = record {
  counted = rw (hit) refl;
  passed = rw (hit) refl;
  shorter = omega arith;
}

abbrev given : {A : Type 0} → A → Option A
given x = Some x

pub negation_passed : (text rest : List Token) → given rest ≡ expects Negation text → OneMore text rest
unfolding expects
negation_passed [] rest e = absurd cc
negation_passed (token ∷ tokens) rest e =
    elim (cases_Bool (is_fixed Negation token)) [
      | inl hit ↦
          let same : given rest ≡ given tokens = e ∙ rw (hit) refl in
          let left : rest ≡ tokens = cc in
          let P : List Token → Type 0 = λ t. OneMore (token ∷ tokens) t in
          rw (left) (one_more token tokens hit)
      | inr other ↦ absurd (let is_none : given rest ≡ None = e ∙ rw (other) refl in cc)
    ]

pub negations_end : (text : List Token) → None ≡ expects Negation text → (negations text ≡ 0) × (after_negations text ≡ text)
unfolding expects negations after_negations
negations_end [] e = (refl, refl)
negations_end (token ∷ tokens) e =
    elim (cases_Bool (is_fixed Negation token)) [
      | inl hit ↦ absurd (let is_none : None ≡ given tokens = e ∙ rw (hit) refl in cc)
      | inr other ↦ (rw (other) refl, rw (other) refl)
    ]

bang_is : (token : Token) → is_fixed Negation token ≡ true → token ≡ fixed Negation
bang_is (number value) hit = absurd cc
bang_is (plain word) hit = ap plain ((bytes_eq-Decides word (text_of Negation)).0 hit)

pub negations-whole : (text : List Token) → text ≡ replicate (negations text) (fixed Negation) ++ after_negations text
unfolding negations after_negations
negations-whole [] = refl
negations-whole (token ∷ tokens) =
    elim (cases_Bool (is_fixed Negation token)) [
      | inl hit ↦ rw (hit) (ap (λ (t : Token). t ∷ tokens) (bang_is token hit) ∙ ap (λ (t : List Token). fixed Negation ∷ t) (negations-whole tokens))
      | inr other ↦ rw (other) refl
    ]

-- ---- the loop that counts them

pub counted_more : (count made all : ℕ) (text rest : List Token) → given rest ≡ expects Negation text → made ≡ count + 1 → count + negations text ≡ all → made + negations rest ≡ all
counted_more count made all text rest e is_made so_far = let more = negation_passed text rest e in omega (arith, more.counted)

pub counted_all : (count all : ℕ) (text : List Token) → None ≡ expects Negation text → count + negations text ≡ all → all ≡ count
counted_all count all text e so_far = let end = negations_end text e in omega (arith, end.0)
